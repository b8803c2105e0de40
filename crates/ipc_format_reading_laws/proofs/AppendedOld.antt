-- The messages that a file had before batches were appended to it: where they stand, what they give, and that they are read in the new file.
use Rattle.std.proofs.Common.{◌≡◌, ◌∙◌, ℕ, ◌≤◌, Bool, false, List, [], ◌∷◌, ◌++◌, length, map, take, refl, sym, ap, subst, arith, nat_le}
use Rattle.std.proofs.Common.{nat_lt, ◌^◌}
use Rattle.std.specs.Prelude.{Option, Some}
use Rattle.std.specs.List.{All}
use Rattle.std.proofs.lemmas.List.{length-map}
use Rattle.std.proofs.lemmas.List.Elements.{All-head, All-tail, All-nil, All-cons}
use Rattle.ipc_format_laws.specs.flatbuffers.Reading.{◌>>=◌}
use Rattle.ipc_format_laws.specs.columnar_memory.declared.Schema.{Schema}
use Rattle.ipc_format_laws.specs.columns.Slots.{Slot, window}
use Rattle.ipc_format_laws.specs.columns.Tables.{Table, rows_of_batches}
use Rattle.ipc_format_laws.specs.grammar.Limits.{most_dictionaries}
use Rattle.ipc_format_laws.specs.grammar.Messages.{Header}
use Rattle.ipc_format_laws.specs.grammar.SchemaGrammar.{schema_in}
use Rattle.ipc_format_laws.specs.grammar.Writable.{normalised}
use Rattle.ipc_format_laws.specs.grammar.Dictionaries.{Entry, Layout}
use Rattle.ipc_format_laws.specs.grammar.Framing.{frame_at}
use Rattle.ipc_format_laws.specs.grammar.Files as read
use Rattle.ipc_format_laws.specs.grammar.Files.{Footer, footer_in, entry_at, entries_at, file_entries, is_dictionary, is_record_batch}
use Rattle.ipc_format_laws.specs.grammar.Tables.{file, Contents, contents_of, layout_of, batches_of, table_of}
use Rattle.ipc_format_laws.specs.grammar.Windows.{entry_windows}
use Rattle.ipc_format_laws.specs.grammar.AppendedFiles.{kept_block, is_empty, Base, base_end}
use Rattle.ipc_format_laws.specs.Footers.{block_read}
use Rattle.ipc_format_laws.proofs.Firsts.{came_of, bind_is, same_value}
use Rattle.ipc_format_laws.proofs.StreamReaders.{passed}
use Rattle.ipc_format_reading_laws.specs.AppendLaws.{StandsBefore}
use Rattle.ipc_format_reading_laws.proofs.AppendedBase.{IsBase}
use Rattle.ipc_format_reading_laws.proofs.AppendedEntries.{again, IsBefore, windows_before, ReadsIn, standing_then}
use Rattle.ipc_format_reading_laws.proofs.IsolatedBuffers.{SameBytes}
use Rattle.ipc_format_reading_laws.proofs.StoredGivenLists.{Each, all_each}

-- ---- lists

pub all_front : {A : Type 0} (P : A → Type 0) (xs ys : List A) → All P (xs ++ ys) → All P xs
all_front P [] ys all = All-nil P
all_front P (x ∷ xs) ys all = All-cons P x xs (All-head P x (xs ++ ys) all) (all_front P xs ys (All-tail P x (xs ++ ys) all))

pub all_back : {A : Type 0} (P : A → Type 0) (xs ys : List A) → All P (xs ++ ys) → All P ys
all_back P [] ys all = all
all_back P (x ∷ xs) ys all = all_back P xs ys (All-tail P x (xs ++ ys) all)

-- what follows something that is there
pub came_as : {A B : Type 0} (r : Option A) (f : A → Option B) (x : A) (y : B) → r ≡ Some x → (r >>= f) ≡ Some y → f x ≡ Some y
came_as r f x y is e = sym (bind_is r f x is) ∙ e

-- messages at blocks, and those at others behind them
pub entries_join : (is_of_kind : Header → Bool) (bytes : List ℕ) (some others : List read.Block) (first behind : List Entry)
    → entries_at is_of_kind bytes some ≡ Some first → entries_at is_of_kind bytes others ≡ Some behind
    → entries_at is_of_kind bytes (some ++ others) ≡ Some (first ++ behind)
entries_join is_of_kind bytes [] others first behind e found = found ∙ ap (λ (them : List Entry). Some (them ++ behind)) (same_value [] first e)
entries_join is_of_kind bytes (block ∷ some) others first behind e found =
    let here = came_of {A = Entry} (entry_at is_of_kind bytes block) _ first e in
    let rest = came_of {A = List Entry} (entries_at is_of_kind bytes some) _ first here.2 in
    bind_is (entry_at is_of_kind bytes block) _ here.0 here.1
    ∙ bind_is (entries_at is_of_kind bytes (some ++ others)) _ (rest.0 ++ behind)
    (entries_join is_of_kind bytes some others rest.0 behind rest.1 found)
    ∙ ap (λ (them : List Entry). Some (them ++ behind)) (same_value (here.0 ∷ rest.0) first rest.2)

pub again_all : (blocks : List read.Block) → map block_read (map kept_block blocks) ≡ map again blocks
again_all [] = refl
again_all (block ∷ blocks) = ap (λ (them : List read.Block). again block ∷ them) (again_all blocks)

-- ---- what the file holds

file_parts : (bytes : List ℕ) (dictionaries record_batches : List read.Block) (values all : List Entry) → is_empty record_batches ≡ false
    → entries_at is_dictionary bytes dictionaries ≡ Some values → file_entries bytes dictionaries record_batches ≡ Some all
    → (columns : List Entry) × (entries_at is_record_batch bytes record_batches ≡ Some columns) × (values ++ columns ≡ all)
file_parts bytes dictionaries [] values all some found e = absurd cc
file_parts bytes dictionaries (block ∷ blocks) values all some found e =
    let few = passed (nat_le (length dictionaries) most_dictionaries) _ all e in
    let behind = came_as {A = List Entry} (entries_at is_dictionary bytes dictionaries) _ values all found few.1 in
    let columns = came_of {A = List Entry} (entries_at is_record_batch bytes (block ∷ blocks)) _ all behind in
    (columns.0, columns.1, same_value (values ++ columns.0) all columns.2)

pub contents_are : (bytes : List ℕ) (base : Base) (is : IsBase bytes base) (contents : Contents) → contents_of file bytes ≡ Some contents
    → (columns : List Entry) × (entries_at is_record_batch bytes is.footer.record_batches ≡ Some columns)
    × (record { schema = base.found; entries = is.entries ++ columns } ≡ contents)
unfolding contents_of
contents_are bytes base is contents e =
    let schema = came_as {A = Footer} (footer_in bytes) _ is.footer contents is.has_footer e in
    let messages = came_as (schema_in is.footer.bytes is.footer.schema) _ base.found contents is.its_schema schema in
    let all = came_of {A = List Entry} (file_entries bytes is.footer.dictionaries is.footer.record_batches) _ contents messages in
    let parts = file_parts bytes is.footer.dictionaries is.footer.record_batches is.entries all.0 is.some is.has_entries all.1 in
    let found : List Entry → Contents = λ (entries : List Entry). record { schema = base.found; entries = entries } in
    (parts.0, parts.1, ap found parts.2 ∙ same_value (found all.0) contents all.2)

abbrev Batches : Type 0
Batches = List (List (List Slot))

-- what the file's messages give under the dictionaries that stand
pub record Gives (bytes : List ℕ) (base : Base) (is : IsBase bytes base) (table : Table) (contents : Contents) : Type 0 where
  pub old : Batches
  pub reads : batches_of (layout_of contents.schema) [] contents.entries ≡ Some old
  pub whole : record { schema = normalised contents.schema.schema; rows = rows_of_batches old } ≡ table

pub gives : (bytes : List ℕ) (base : Base) (is : IsBase bytes base) (table : Table) → table_of file bytes ≡ Some table
    → (contents : Contents) × (contents_of file bytes ≡ Some contents) × Gives bytes base is table contents
unfolding table_of
gives bytes base is table e =
    let contents = came_of {A = Contents} (contents_of file bytes) _ table e in
    let batches = came_of {A = Batches} (batches_of (layout_of contents.0.schema) [] contents.0.entries) _ table contents.2 in
    let fits = passed (nat_lt (length (rows_of_batches batches.0)) (2 ^ 64)) _ table batches.2 in
    let whole : Table = record { schema = normalised contents.0.schema.schema; rows = rows_of_batches batches.0 } in
    (contents.0, contents.1, record { old = batches.0; reads = batches.1; whole = same_value whole table fits.1 })

-- the windows of all columns of a message stand before an end
abbrev pub ColumnsBefore : ℕ → Layout → Entry → Type 0
ColumnsBefore end layout entry = All (IsBefore end) (entry_windows layout (window (λ (k : ℕ). k) 0 (length layout.fields)) entry)

-- the bytes up to an end have the message of a block, as all bytes have it
abbrev pub SameMessage : ℕ → List ℕ → read.Block → Type 0
SameMessage end bytes block = frame_at (take end bytes) block.offset ≡ frame_at bytes block.offset

pub record Old (bytes : List ℕ) (base : Base) (is : IsBase bytes base) (table : Table) : Type 0 where
  pub columns : List Entry
  pub has_columns : entries_at is_record_batch bytes is.footer.record_batches ≡ Some columns
  pub batches : Batches
  pub reads : batches_of (layout_of base.found) is.standing columns ≡ Some batches
  pub whole : record { schema = normalised base.found.schema; rows = rows_of_batches batches } ≡ table
  pub dictionaries_same : All (SameMessage (base_end base) bytes) is.footer.dictionaries
  pub batches_same : All (SameMessage (base_end base) bytes) is.footer.record_batches
  pub dictionaries_before : Each (ColumnsBefore (base_end base) (layout_of base.found)) is.entries
  pub batches_before : Each (ColumnsBefore (base_end base) (layout_of base.found)) columns

pub count_same : (schema : Schema) → length schema.fields ≡ length (normalised schema).fields
unfolding normalised
count_same schema = sym (length-map schema.fields _)

pub old_of : (bytes : List ℕ) (base : Base) (is : IsBase bytes base) (table : Table) → StandsBefore (base_end base) bytes
    → table_of file bytes ≡ Some table → Old bytes base is table
old_of bytes base is table before e =
    let end = base_end base in
    let layout = layout_of base.found in
    let found = gives bytes base is table e in
    let parts = contents_are bytes base is found.0 found.1 in
    let columns = parts.0 in
    let contents : Contents = record { schema = base.found; entries = is.entries ++ columns } in
    let its : Gives bytes base is table contents = subst (Gives bytes base is table) (sym parts.2) found.2 in
    let same_contents : before.contents ≡ contents = same_value before.contents found.0 (sym before.holds ∙ found.1) ∙ sym parts.2 in
    let same_footer : before.footer ≡ is.footer = same_value before.footer is.footer (sym before.has_footer ∙ is.has_footer) in
    let Before : Contents → ℕ → Entry → Type 0 = λ (c : Contents) (n : ℕ) (entry : Entry).
    All (IsBefore end) (entry_windows (layout_of c.schema) (window (λ (k : ℕ). k) 0 n) entry) in
    let windows : All (ColumnsBefore end layout) (is.entries ++ columns) =
    subst (λ (n : ℕ). All (Before contents n) contents.entries) (count_same base.found.schema)
    (subst (λ (c : Contents). All (Before c (length c.schema.schema.fields)) c.entries) same_contents before.windows) in
    let messages : All (SameMessage end bytes) (is.footer.dictionaries ++ is.footer.record_batches) =
    subst (λ (f : Footer). All (SameMessage end bytes) (f.dictionaries ++ f.record_batches)) same_footer before.messages in
    record {
      columns = columns;
      has_columns = parts.1;
      batches = its.old;
      reads = sym (standing_then layout [] is.entries columns is.standing is.stands) ∙ its.reads;
      whole = its.whole;
      dictionaries_same = all_front (SameMessage end bytes) is.footer.dictionaries is.footer.record_batches messages;
      batches_same = all_back (SameMessage end bytes) is.footer.dictionaries is.footer.record_batches messages;
      dictionaries_before = all_each (ColumnsBefore end layout) is.entries (all_front (ColumnsBefore end layout) is.entries columns windows);
      batches_before = all_each (ColumnsBefore end layout) columns (all_back (ColumnsBefore end layout) is.entries columns windows);
    }

-- ---- in the new file

-- messages are read where the bytes up to an end stand before others
pub read_in : (layout : Layout) (bytes others : List ℕ) (end : ℕ) (entries : List Entry) → end ≤ length bytes
    → length bytes ≤ length (take end bytes ++ others) → Each (λ (entry : Entry). entry.room ≡ bytes) entries
    → Each (ColumnsBefore end layout) entries → Each (ReadsIn layout (take end bytes ++ others)) entries
read_in layout bytes others end [] inside size rooms before = tt
read_in layout bytes others end (entry ∷ entries) inside size rooms before =
    let new = take end bytes ++ others in
    let windows = entry_windows layout (window (λ (k : ℕ). k) 0 (length layout.fields)) entry in (
      (
        omega (arith, size, ap length rooms.0),
        subst (λ (room : List ℕ). SameBytes room new windows) (sym rooms.0) (windows_before bytes others end windows inside before.0),
      ),
      read_in layout bytes others end entries inside size rooms.1 before.1,
    )
