-- What is kept of a file to which batches are appended, from what is read of it.
use Rattle.std.proofs.Common.{◌≡◌, ◌∙◌, ℕ, ℤ, ◌≤◌, ◌<◌, Bool, true, false, List, [], ◌∷◌, length, map, refl, sym, ap, subst, inl, inr}
use Rattle.std.proofs.Common.{arith, nat_le}
use Rattle.std.specs.Prelude.{Option, Some, None, is_none, IsSomeAnd, Err, ◌==◌, if◌then◌else◌}
use Rattle.std.specs.BTreeMap.{BTreeMap}
use Rattle.std.proofs.lemmas.Bool.{eq-eqb}
use Rattle.std.proofs.lemmas.List.{length-map}
use Rattle.ipc_format_readers.specs.BlockMessages.{HasUnread, dictionary_by, standing_after}
use Rattle.ipc_format_readers.specs.FileReads.{AreMetadata, HasUnreadDictionary, IsUnreadFile, RefusesOf, StandAsIn}
use Rattle.ipc_format_readers.specs.FileReads.{dictionaries_before, dictionaries_of}
use Rattle.ipc_format_readers.specs.FileStarts.{Start, start_in, start_view}
use Rattle.ipc_format_readers.specs.chunk_writing.BatchReads.{sized}
use Rattle.ipc_format_readers.specs.chunk_writing.ReadArrays.{standing_in}
use Rattle.ipc_format_readers.specs.chunk_writing.Rooms.{Told}
use Rattle.ipc_format_readers.specs.chunk_writing.Standing.{StandAlike}
use Rattle.ipc_format_readers.specs.chunk_writing.Tracking.{told_by}
use Rattle.ipc_format_readers.specs.chunk_writing.columnar_memory.declared.Error.{Error}
use Rattle.ipc_format_readers.specs.chunk_writing.columnar_memory.declared.Error.TheVariants as errors
use Rattle.ipc_format_readers.specs.chunk_writing.columns.StoredColumns.{Column}
use Rattle.ipc_format_readers.specs.chunk_writing.flatbuffers.Reading.{◌>>=◌, guard}
use Rattle.ipc_format_readers.specs.chunk_writing.grammar.AppendedFiles.{AppendBar, Base, append_bar, as_told, base_of, big_endian}
use Rattle.ipc_format_readers.specs.chunk_writing.grammar.AppendedFiles.{block_past_end, has_few_dictionaries, kept_block}
use Rattle.ipc_format_readers.specs.chunk_writing.grammar.AppendedFiles.{negative_body, no_record_batch, standing_behind}
use Rattle.ipc_format_readers.specs.chunk_writing.grammar.AppendedFiles.{standing_with}
use Rattle.ipc_format_readers.specs.chunk_writing.grammar.Columns.{Dictionary}
use Rattle.ipc_format_readers.specs.chunk_writing.grammar.Dictionaries.{Entry, Layout}
use Rattle.ipc_format_readers.specs.chunk_writing.grammar.Files.{Block, Footer, entries_at, entry_at, footer_in, is_dictionary}
use Rattle.ipc_format_readers.specs.chunk_writing.grammar.Limits.{file_limit, most_dictionaries}
use Rattle.ipc_format_readers.specs.chunk_writing.grammar.Messages.{Header, schema, dictionary_batch, record_batch}
use Rattle.ipc_format_readers.specs.chunk_writing.grammar.SchemaGrammar.{schema_in}
use Rattle.ipc_format_readers.specs.chunk_writing.grammar.Schemas.{SchemaIn}
use Rattle.ipc_format_readers.specs.chunk_writing.grammar.Tables.{layout_of}
use Rattle.ipc_format_readers.specs.declared.file_metadata.FileMetadata.{FileMetadata}
use Rattle.ipc_format_readers.proofs.Binding.{bind_assoc, bind_same}
use Rattle.ipc_format_readers.proofs.Lists.{some_of}
use Rattle.ipc_format_readers.proofs.reading_laws_lemmas.laws_lemmas.StreamReaders.{passed}
use Rattle.ipc_format.specs.Appending.{IsKept, IsNotKept, ToldAlike}
use Rattle.ipc_format.specs.Growing.{EndsMessages, Grows, IsFaultBar, bar_of, end_of_blocks, grown, kept_blocks}
use Rattle.ipc_format.specs.FilePhases.{Progress}
use Rattle.ipc_format.proofs.ToldAlike.{standing_alike}

-- ---- the file's dictionaries, one after another

with_one : (layout : Layout) (standing : List Dictionary) (entry : Entry) (rest : List Dictionary → Option (List Dictionary)) (header : Header)
    → standing_with layout standing entry rest header ≡ (dictionary_by layout standing entry header >>= (λ d. rest (d ∷ standing)))
with_one layout standing entry rest (schema table) = refl
with_one layout standing entry rest (dictionary_batch table) = refl
with_one layout standing entry rest (record_batch table) = refl

-- a dictionary may be read before the messages behind it are found
found_later : (made : Option Dictionary) (rest : Option (List Entry)) (standing : List Dictionary)
    (later : List Dictionary → List Entry → Option (List Dictionary)) (after : List Dictionary → Option (List Dictionary))
    → ((now : List Dictionary) → (rest >>= later now) ≡ after now)
    → (rest >>= (λ others. made >>= (λ d. later (d ∷ standing) others))) ≡ (made >>= (λ d. after (d ∷ standing)))
found_later None None standing later after same = refl
found_later None (Some others) standing later after same = refl
found_later (Some d) None standing later after same = same (d ∷ standing)
found_later (Some d) (Some others) standing later after same = same (d ∷ standing)

module _ (layout : Layout) (bytes : List ℕ) where
  entry_there : (blocks : List Block) (standing : List Dictionary) (found : Option Entry)
      → ((now : List Dictionary) → (entries_at is_dictionary bytes blocks >>= standing_behind layout now) ≡ standing_after layout bytes now blocks)
      → ((found >>= (λ entry. entries_at is_dictionary bytes blocks >>= (λ others. Some (entry ∷ others)))) >>= standing_behind layout standing)
      ≡ ((found >>= (λ entry. dictionary_by layout standing entry entry.header)) >>= (λ d. standing_after layout bytes (d ∷ standing) blocks))
  entry_there blocks standing None same = refl
  entry_there blocks standing (Some entry) same =
      let rest = entries_at is_dictionary bytes blocks in
      bind_assoc {A = List Entry} rest (λ others. Some (entry ∷ others)) (standing_behind layout standing)
      ∙ bind_same {A = List Entry} rest _ _ (λ others. with_one layout standing entry (λ now. standing_behind layout now others) entry.header)
      ∙ found_later (dictionary_by layout standing entry entry.header) rest standing (standing_behind layout)
      (λ now. standing_after layout bytes now blocks) same

  standing_there : (blocks : List Block) (standing : List Dictionary)
      → (entries_at is_dictionary bytes blocks >>= standing_behind layout standing) ≡ standing_after layout bytes standing blocks
  standing_there [] standing = refl
  standing_there (block ∷ blocks) standing =
      entry_there blocks standing (entry_at is_dictionary bytes block) (standing_there blocks)

-- ---- what the format keeps, by what the footer says

abbrev kept_of : Start → List Dictionary → Base
kept_of start standing = record {
  found = start.schema;
  dictionaries = map kept_block start.dictionaries;
  record_batches = map kept_block start.record_batches;
  told = map as_told standing;
}

abbrev bar_in : List ℕ → Start → Option AppendBar
bar_in bytes start = append_bar start.schema.is_little_endian (length bytes) start.dictionaries start.record_batches

-- by the messages of its dictionaries, and by what stands behind these
abbrev base_by_messages : List ℕ → Start → Option Base
base_by_messages bytes start = do
  _ ← guard (is_none (bar_in bytes start))
  _ ← guard (nat_le (length start.dictionaries) most_dictionaries)
  entries ← entries_at is_dictionary bytes start.dictionaries
  standing ← standing_behind (layout_of start.schema) [] entries
  Some (kept_of start standing)

abbrev base_with : List ℕ → Start → Option Base
base_with bytes start = do
  _ ← guard (is_none (bar_in bytes start))
  _ ← guard (nat_le (length start.dictionaries) most_dictionaries)
  standing ← standing_after (layout_of start.schema) bytes [] start.dictionaries
  Some (kept_of start standing)

same_base : (bytes : List ℕ) (start : Start) → base_by_messages bytes start ≡ base_with bytes start
same_base bytes start =
    let layout = layout_of start.schema in
    let end = λ (standing : List Dictionary). Some (kept_of start standing) in
    bind_same {A = Bool} (guard (is_none (bar_in bytes start))) _ _ (λ _.
    bind_same {A = Bool} (guard (nat_le (length start.dictionaries) most_dictionaries)) _ _ (λ _.
    sym (bind_assoc {A = List Entry} (entries_at is_dictionary bytes start.dictionaries) (standing_behind layout []) end)
    ∙ ap (λ (found : Option (List Dictionary)). found >>= end) (standing_there layout bytes start.dictionaries [])))

-- a footer, and the schema that it leads to
abbrev start_with : Footer → SchemaIn → Start
start_with footer its = record { schema = its; dictionaries = footer.dictionaries; record_batches = footer.record_batches }

by_schema : (bytes : List ℕ) (footer : Footer) (found : Option SchemaIn)
    → (found >>= (λ its. base_by_messages bytes (start_with footer its)))
    ≡ ((found >>= (λ its. Some (start_with footer its))) >>= base_with bytes)
by_schema bytes footer None = refl
by_schema bytes footer (Some its) = same_base bytes (start_with footer its)

by_footer : (bytes : List ℕ) (found : Option Footer)
    → (found >>= (λ footer. schema_in footer.bytes footer.schema >>= (λ its. base_by_messages bytes (start_with footer its))))
    ≡ ((found >>= (λ footer. schema_in footer.bytes footer.schema >>= (λ its. Some (start_with footer its)))) >>= base_with bytes)
by_footer bytes None = refl
by_footer bytes (Some footer) = by_schema bytes footer (schema_in footer.bytes footer.schema)

base_is : (bytes : List ℕ) → base_of bytes ≡ (start_in bytes >>= base_with bytes)
unfolding base_of
base_is bytes = by_footer bytes (footer_in bytes)

no_start : (bytes : List ℕ) → start_in bytes ≡ None → base_of bytes ≡ None
no_start bytes none = base_is bytes ∙ ap (λ (found : Option Start). found >>= base_with bytes) none

-- ---- bars

no_other : (a b c : Bool) → (if a then Some no_record_batch else if b then Some negative_body else if c then Some block_past_end else None)
    ≡ Some big_endian → ⊥
no_other true b c e = cc
no_other false true c e = cc
no_other false false true e = cc
no_other false false false e = cc

-- the first of the bars is that numbers have their highest byte first
big_first : (little : Bool) (size : ℕ) (dictionaries batches : List Block) → append_bar little size dictionaries batches ≡ Some big_endian
    → little ≡ false
unfolding append_bar
big_first false size dictionaries batches e = refl
big_first true size dictionaries batches e = absurd (no_other _ _ _ e)

-- where nothing bars, there is a record batch
none_empty : (little : Bool) (size : ℕ) (dictionaries : List Block) → append_bar little size dictionaries [] ≡ None → ⊥
unfolding append_bar
none_empty false size dictionaries e = cc
none_empty true size dictionaries e = cc

-- then the file's dictionaries are those at its blocks
by_batches : (little : Bool) (size : ℕ) (layout : Layout) (bytes : List ℕ) (dictionaries batches : List Block)
    (end : List Dictionary → Option Base) → append_bar little size dictionaries batches ≡ None
    → (guard (is_none (append_bar little size dictionaries batches)) >>= (λ _. guard (nat_le (length dictionaries) most_dictionaries)
    >>= (λ _. standing_after layout bytes [] dictionaries >>= end))) ≡ (dictionaries_before layout bytes dictionaries batches >>= end)
by_batches little size layout bytes dictionaries [] end free = absurd (none_empty little size dictionaries free)
by_batches little size layout bytes dictionaries (block ∷ batches) end free =
    let few = guard (nat_le (length dictionaries) most_dictionaries) in
    ap (λ (bar : Option AppendBar). guard (is_none bar) >>= (λ _. few >>= (λ _. standing_after layout bytes [] dictionaries >>= end))) free
    ∙ sym (bind_assoc {A = Bool} few (λ _. standing_after layout bytes [] dictionaries) end)

-- and there are no more than are read
few_of : (little : Bool) (size : ℕ) (layout : Layout) (bytes : List ℕ) (dictionaries batches : List Block) (standing : List Dictionary)
    → append_bar little size dictionaries batches ≡ None → dictionaries_before layout bytes dictionaries batches ≡ Some standing
    → nat_le (length dictionaries) most_dictionaries ≡ true
few_of little size layout bytes dictionaries [] standing free is = absurd (none_empty little size dictionaries free)
few_of little size layout bytes dictionaries (block ∷ batches) standing free is =
    (passed (nat_le (length dictionaries) most_dictionaries) (standing_after layout bytes [] dictionaries) standing is).0

fault_of : (bar : Option AppendBar) → IsFaultBar bar → is_none bar ≡ false
fault_of None fault = absurd fault
fault_of (Some bar) fault = refl

-- ---- what the file's metadata say of it

-- ---- what the file's metadata say of it

-- what bytes in memory tell
abbrev in_memory : List ℕ → Told
in_memory bytes = record { bytes = Some bytes; failures = 0 }

pub not_read : (bytes after : List ℕ) (error : Error) → RefusesOf (in_memory bytes) (in_memory after) IsUnreadFile start_in error
    → IsNotKept error bytes
not_read bytes after (errors.NotYetImplemented what) refused = let why = refused bytes refl in (no_start bytes why.0, inl why.1)
not_read bytes after (errors.Io what) refused = absurd (omega (arith, refused))
not_read bytes after errors.OutOfMemory refused = tt
not_read bytes after (errors.OutOfSpec what) refused = no_start bytes (refused bytes refl)
not_read bytes after _ refused = absurd refused

module _ (metadata : FileMetadata) (bytes : List ℕ) (are : AreMetadata metadata bytes) where
  by_start : base_of bytes ≡ base_with bytes (start_view metadata)
  by_start = base_is bytes ∙ ap (λ (found : Option Start). found >>= base_with bytes) are.0

  -- the bar by the metadata is the format's
  same_bar : bar_of metadata ≡ bar_in bytes (start_view metadata)
  same_bar =
      let start = start_view metadata in
      ap (λ (size : ℕ). append_bar start.schema.is_little_endian size start.dictionaries start.record_batches) are.1

  no_base : is_none (bar_of metadata) ≡ false → base_of bytes ≡ None
  no_base barred =
      let start = start_view metadata in
      by_start ∙ ap (λ (free : Bool). guard free >>= (λ _. guard (nat_le (length start.dictionaries) most_dictionaries)
      >>= (λ _. standing_after (layout_of start.schema) bytes [] start.dictionaries >>= (λ standing. Some (kept_of start standing)))))
      (ap is_none (sym same_bar) ∙ barred)

  pub is_barred : (error : Error) → EndsMessages metadata (Err error) → IsNotKept error bytes
  is_barred (errors.NotYetImplemented what) barred = (
    no_base (ap is_none barred),
    inr (inl (subst (λ (found : Option Start). IsSomeAnd found (λ start. start.schema.is_little_endian ≡ false)) (sym are.0)
        (big_first _ _ _ _ barred))),
  )
  is_barred (errors.OutOfSpec what) fault = no_base (fault_of (bar_of metadata) fault)
  is_barred _ why = absurd why

  -- ---- where nothing bars

  -- the room has as many bytes as the file
  pub in_room : (later : List ℕ) → Some later ≡ Some bytes → (sized metadata.size (in_memory later)).bytes ≡ Some bytes
  in_room later same =
      ap (λ (room : Option (List ℕ)). room >>= (λ them. guard (length them == metadata.size) >>= (λ _. Some them))) same
      ∙ ap (λ (fits : Bool). guard fits >>= (λ _. Some bytes)) (eq-eqb (length bytes) metadata.size (sym are.1))

  module _ (free : bar_of metadata ≡ None) where
    nothing_bars : bar_in bytes (start_view metadata) ≡ None
    nothing_bars = sym same_bar ∙ free

    base_kept : base_of bytes ≡ (dictionaries_of metadata bytes >>= (λ standing. Some (kept_of (start_view metadata) standing)))
    base_kept =
        let start = start_view metadata in
        by_start ∙ by_batches start.schema.is_little_endian (length bytes) (layout_of start.schema) bytes start.dictionaries start.record_batches
        (λ standing. Some (kept_of start standing)) nothing_bars

    base_from : (found : Option (List Dictionary)) → dictionaries_of metadata bytes ≡ found
        → base_of bytes ≡ (found >>= (λ standing. Some (kept_of (start_view metadata) standing)))
    base_from found is =
        base_kept ∙ ap (λ (given : Option (List Dictionary)). given >>= (λ standing. Some (kept_of (start_view metadata) standing))) is

    pub no_dictionaries : (later last : List ℕ) (error : Error) → Some later ≡ Some bytes
        → RefusesOf (sized metadata.size (in_memory later)) (sized metadata.size (in_memory last)) (HasUnreadDictionary metadata)
        (dictionaries_of metadata) error → IsNotKept error bytes
    no_dictionaries later last (errors.NotYetImplemented what) same refused =
        let why = refused bytes (in_room later same) in (
          base_from None why.0,
          inr (inr (subst (λ (found : Option Start). IsSomeAnd found (λ start. HasUnread bytes start.dictionaries)) (sym are.0) why.1)),
        )
    no_dictionaries later last (errors.Io what) same refused = absurd (omega (arith, refused))
    no_dictionaries later last errors.OutOfMemory same refused = tt
    no_dictionaries later last (errors.OutOfSpec what) same refused = base_from None (refused bytes (in_room later same))
    no_dictionaries later last _ same refused = absurd refused

    pub not_grown : (standing : List Dictionary) (told : List (ℤ × Column)) (error : Error) → StandAsIn metadata standing bytes
        → Grows metadata told (Err error) → IsNotKept error bytes
    not_grown standing told errors.OutOfMemory stand why = tt
    not_grown standing told errors.Overflow stand past =
        let it = some_of (dictionaries_of metadata bytes) (StandAlike standing) stand in
        subst (λ (found : Option Base). IsSomeAnd found (λ base. file_limit ≤ length bytes)) (sym (base_from (Some it.0) it.1))
        (subst (λ (size : ℕ). file_limit ≤ size) are.1 past)
    not_grown standing told _ stand why = absurd why

    pub is_kept : (dictionaries : BTreeMap ℤ Column) (end : ℕ) (progress : Progress) → StandAsIn metadata (standing_in dictionaries) bytes
        → end ≡ end_of_blocks (kept_blocks metadata) → progress ≡ grown metadata dictionaries.entries → metadata.size < file_limit
        → (base : Base) × IsKept metadata end progress bytes base
    is_kept dictionaries end progress stand ends same short =
        let start = start_view metadata in
        let it = some_of (dictionaries_of metadata bytes) (StandAlike (standing_in dictionaries)) stand in
        let few = few_of start.schema.is_little_endian (length bytes) (layout_of start.schema) bytes start.dictionaries start.record_batches it.0
        nothing_bars it.1 in (
          kept_of start it.0,
          record {
            given = base_from (Some it.0) it.1;
            schema = refl;
            ids = refl;
            ends = ends;
            place = λ j. (same j).place;
            size = (λ j. (same j).size) ∙ are.1;
            short = subst (λ (size : ℕ). size < file_limit) are.1 short;
            blocks = λ j. (same j).blocks;
            told = subst (λ (told : List (ℤ × Column)). ToldAlike (told_by told) (map as_told it.0)) (sym (λ j. (same j).told))
                (standing_alike dictionaries it.0 it.2);
            few = ap has_few_dictionaries (λ j. (same j).blocks)
                ∙ ap (λ (count : ℕ). nat_le count most_dictionaries) (length-map start.dictionaries kept_block) ∙ few;
          },
        )
