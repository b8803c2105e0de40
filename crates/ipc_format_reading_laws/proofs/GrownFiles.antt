-- A file that was written, and to which batches were appended in turns, holds the batches of all turns.
use Rattle.std.proofs.Common.{◌≡◌, ◌∙◌, ℕ, ◌<◌, ◌≤◌, ◌^◌, List, [], ◌∷◌, ◌++◌, length, map, take, sym, ap, ap₂, subst, arith, append_assoc}
use Rattle.std.proofs.Common.{append-nil, length-append}
use Rattle.std.specs.Prelude.{Some}
use Rattle.std.proofs.lemmas.List.{length-take-le, map-append, take-append-le, take-take}
use Rattle.ipc_format_laws.specs.columnar_memory.declared.Schema.{Schema}
use Rattle.ipc_format_laws.specs.columns.Slots.{Slot}
use Rattle.ipc_format_laws.specs.columns.StoredColumns.{Column}
use Rattle.ipc_format_laws.specs.columns.Tables.{Table, rows_of_batches}
use Rattle.ipc_format_laws.specs.grammar.Schemas.{IdsList}
use Rattle.ipc_format_laws.specs.grammar.Writable.{normalised}
use Rattle.ipc_format_laws.specs.grammar.Dictionaries.{Entry}
use Rattle.ipc_format_laws.specs.grammar.Files as read
use Rattle.ipc_format_laws.specs.grammar.Files.{Footer, footer_in, entries_at, is_dictionary, is_record_batch}
use Rattle.ipc_format_laws.specs.grammar.Tables.{file, Contents, contents_of, layout_of, batches_of, batches_in}
use Rattle.ipc_format_laws.specs.grammar.WrittenStreams.{Batch, batch_of_stored}
use Rattle.ipc_format_laws.specs.grammar.WrittenFiles.{WrittenBlock, Blocks, batch_blocks, written_file}
use Rattle.ipc_format_laws.specs.grammar.AppendedFiles.{kept_block, greatest_end, Base, base_of, base_end, base_start, appended_blocks, appended_footer}
use Rattle.ipc_format_laws.specs.grammar.AppendedFiles.{appended}
use Rattle.ipc_format_laws.specs.Footers.{block_read}
use Rattle.ipc_format_laws.specs.Schemas.{HasTexts}
use Rattle.ipc_format_laws.proofs.Firsts.{came_of, same_value}
use Rattle.ipc_format_reading_laws.specs.AppendLaws.{StatedEndsAreEnough, appended_in_turns, all_turns, GrownFilesReadBack}
use Rattle.ipc_format_reading_laws.specs.StatedBodies.{EntriesEnd, MessagesEnd}
use Rattle.ipc_format_reading_laws.specs.StoredColumns.{StoredColumnsReadBack}
use Rattle.ipc_format_reading_laws.specs.StoredTables.{stored_chunks, read_batches, HoldsBatches}
use Rattle.ipc_format_reading_laws.proofs.AppendedBase.{IsBase, is_base}
use Rattle.ipc_format_reading_laws.proofs.AppendedEntries.{again, moved_to, entries_more, standing_then}
use Rattle.ipc_format_reading_laws.proofs.AppendedFooters.{behind_base, begins_with_base}
use Rattle.ipc_format_reading_laws.proofs.AppendedOld.{Old, old_of, contents_are}
use Rattle.ipc_format_reading_laws.proofs.AppendedTables.{was_appended, blocks_joined, joined_entries, rows_join, NewParts, new_parts, new_holds}
use Rattle.ipc_format_reading_laws.proofs.EndsFiles.{stands_before, end_front, end_back, end_both, kept_read, entries_end, entries_later}
use Rattle.ipc_format_reading_laws.proofs.EndsFiles.{entries_join_end}
use Rattle.ipc_format_reading_laws.proofs.StoredTablesFiles.{file_parts, stored_files}

pub stated_ends : StatedEndsAreEnough
stated_ends bytes base table e its_table ends = stands_before bytes base (is_base bytes base e) table its_table ends

-- ---- where a file's messages end

-- the greatest end of the blocks of a footer
abbrev footer_end : Footer → ℕ
footer_end footer = greatest_end (map kept_block footer.dictionaries ++ map kept_block footer.record_batches)

-- a file's messages end before the greatest end of its blocks
record FileEnds (bytes : List ℕ) : Type 0 where
  footer : Footer
  has_footer : footer_in bytes ≡ Some footer
  ends : MessagesEnd (footer_end footer) bytes

-- the greatest end of a file's blocks is that of what is kept of it
base_ends : (bytes : List ℕ) (base : Base) → IsBase bytes base → FileEnds bytes → MessagesEnd (base_end base) bytes
base_ends bytes base is file_ends =
    let same : file_ends.footer ≡ is.footer = same_value file_ends.footer is.footer (sym file_ends.has_footer ∙ is.has_footer) in
    let kept : greatest_end (map kept_block is.footer.dictionaries ++ map kept_block is.footer.record_batches) ≡ base_end base =
    ap greatest_end (ap₂ (λ (some others : List WrittenBlock). some ++ others) (sym is.dictionaries) (sym is.record_batches)) in
    subst (λ (end : ℕ). MessagesEnd end bytes) (ap footer_end same ∙ kept) file_ends.ends

-- blocks that are read again are those that were written
blocks_kept : (blocks : Blocks) → map kept_block (map block_read blocks.dictionaries) ++ map kept_block (map block_read blocks.record_batches)
    ≡ blocks.dictionaries ++ blocks.record_batches
blocks_kept blocks = ap₂ (λ (some others : List WrittenBlock). some ++ others) (kept_read blocks.dictionaries) (kept_read blocks.record_batches)

written_ends : (schema : Schema) (below : IdsList) (batches : List (List Column)) (bytes : List ℕ)
    → written_file schema below (stored_chunks batches) ≡ Some bytes → HasTexts schema → FileEnds bytes
written_ends schema below batches bytes e texts =
    let parts = file_parts schema below batches bytes e texts in
    let blocks = batch_blocks parts.place [] (map (batch_of_stored below) batches) in
    let end : ℕ = greatest_end (blocks.dictionaries ++ blocks.record_batches) in
    let found = parts.blocks in
    let footer : Footer = record {
      bytes = parts.footer;
      schema = parts.has.schema_at;
      dictionaries = map block_read blocks.dictionaries;
      record_batches = map block_read blocks.record_batches;
    } in
    record {
      footer = footer;
      has_footer = parts.has.found;
      ends = subst (λ (n : ℕ). MessagesEnd n bytes) (ap greatest_end (sym (blocks_kept blocks))) (record {
        footer = footer;
        has_footer = parts.has.found;
        values = found.values;
        has_values = found.values_read;
        values_end = entries_end end bytes blocks.dictionaries found.values (end_front blocks.dictionaries blocks.record_batches)
            found.values_end;
        columns = found.columns;
        has_columns = found.columns_read;
        columns_end = entries_end end bytes blocks.record_batches found.columns (end_back blocks.dictionaries blocks.record_batches)
            found.columns_end;
      });
    }

-- ---- a file to which batches are appended

-- the messages at a list of blocks of the new file: the file's own, and new ones
own_and_new : (end later : ℕ) (bytes new : List ℕ) (own behind : List WrittenBlock) (old : List read.Block) (entries others : List Entry)
    → own ≡ map kept_block old → end ≤ later → take end new ≡ take end bytes → EntriesEnd end bytes old entries
    → EntriesEnd later new (map block_read behind) others
    → EntriesEnd later new (map block_read (own ++ behind)) (map (moved_to new) entries ++ others)
own_and_new end later bytes new own behind old entries others is inside same ends they =
    subst (λ (blocks : List read.Block). EntriesEnd later new blocks (map (moved_to new) entries ++ others)) (sym (blocks_joined own behind old is))
    (entries_join_end later new (map again old) (map block_read behind) (map (moved_to new) entries) others
    (entries_later end later bytes new old entries inside same ends) they)

module _ (stored : StoredColumnsReadBack) (bytes : List ℕ) (base : Base) (is : IsBase bytes base) (table : Table) (old : Old bytes base is table)
    (batches : List (List Column)) where
  grown_ends : NewParts stored bytes base is table old batches → MessagesEnd (base_end base) bytes
      → FileEnds (take (base_end base) bytes ++ behind_base base bytes (map (batch_of_stored base.found.ids) batches))
  grown_ends parts ends =
      let all : List Batch = map (batch_of_stored base.found.ids) batches in
      let cut = take (base_end base) bytes in
      let others = behind_base base bytes all in
      let new = cut ++ others in
      let blocks : Blocks = appended_blocks base all in
      let behind : Blocks = batch_blocks (base_start base) base.told all in
      let end : ℕ = greatest_end (blocks.dictionaries ++ blocks.record_batches) in
      let dictionaries_within = end_front blocks.dictionaries blocks.record_batches in
      let batches_within = end_back blocks.dictionaries blocks.record_batches in
      let own_dictionaries : greatest_end base.dictionaries ≤ end =
      omega (arith, end_front base.dictionaries behind.dictionaries, dictionaries_within) in
      let own_batches : greatest_end base.record_batches ≤ end =
      omega (arith, end_front base.record_batches behind.record_batches, batches_within) in
      let new_dictionaries : greatest_end behind.dictionaries ≤ end =
      omega (arith, end_back base.dictionaries behind.dictionaries, dictionaries_within) in
      let new_batches : greatest_end behind.record_batches ≤ end =
      omega (arith, end_back base.record_batches behind.record_batches, batches_within) in
      let inside : base_end base ≤ end = end_both base.dictionaries base.record_batches end own_dictionaries own_batches in
      let same : take (base_end base) new ≡ cut =
      take-append-le (base_end base) cut others (omega (arith, length-take-le (base_end base) bytes is.inside))
      ∙ take-take (base_end base) (base_end base) bytes (omega arith) in
      let same_footer : ends.footer ≡ is.footer = same_value ends.footer is.footer (sym ends.has_footer ∙ is.has_footer) in
      let values : ends.values ≡ is.entries = same_value ends.values is.entries
      (sym ends.has_values ∙ ap (λ (f : Footer). entries_at is_dictionary bytes f.dictionaries) same_footer ∙ is.has_entries) in
      let columns : ends.columns ≡ old.columns = same_value ends.columns old.columns
      (sym ends.has_columns ∙ ap (λ (f : Footer). entries_at is_record_batch bytes f.record_batches) same_footer ∙ old.has_columns) in
      let values_end : EntriesEnd (base_end base) bytes is.footer.dictionaries is.entries =
      subst (EntriesEnd (base_end base) bytes is.footer.dictionaries) values
      (subst (λ (f : Footer). EntriesEnd (base_end base) bytes f.dictionaries ends.values) same_footer ends.values_end) in
      let columns_end : EntriesEnd (base_end base) bytes is.footer.record_batches old.columns =
      subst (EntriesEnd (base_end base) bytes is.footer.record_batches) columns
      (subst (λ (f : Footer). EntriesEnd (base_end base) bytes f.record_batches ends.columns) same_footer ends.columns_end) in
      let own = entries_more is_dictionary bytes cut others is.footer.dictionaries is.entries old.dictionaries_same is.has_entries in
      let batch_own = entries_more is_record_batch bytes cut others is.footer.record_batches old.columns old.batches_same old.has_columns in
      let found = parts.blocks in
      let footer : Footer = record {
        bytes = appended_footer base all;
        schema = parts.has.schema_at;
        dictionaries = map block_read blocks.dictionaries;
        record_batches = map block_read blocks.record_batches;
      } in
      record {
        footer = footer;
        has_footer = parts.has.found;
        ends = subst (λ (n : ℕ). MessagesEnd n new) (ap greatest_end (sym (blocks_kept blocks))) (record {
          footer = footer;
          has_footer = parts.has.found;
          values = map (moved_to new) is.entries ++ found.values;
          has_values = joined_entries is_dictionary new base.dictionaries behind.dictionaries is.footer.dictionaries
              (map (moved_to new) is.entries) found.values is.dictionaries own.there found.values_read;
          values_end = own_and_new (base_end base) end bytes new base.dictionaries behind.dictionaries is.footer.dictionaries is.entries
              found.values is.dictionaries inside same values_end
              (entries_end end new behind.dictionaries found.values new_dictionaries found.values_end);
          columns = map (moved_to new) old.columns ++ found.columns;
          has_columns = joined_entries is_record_batch new base.record_batches behind.record_batches is.footer.record_batches
              (map (moved_to new) old.columns) found.columns is.record_batches batch_own.there found.columns_read;
          columns_end = own_and_new (base_end base) end bytes new base.record_batches behind.record_batches is.footer.record_batches
              old.columns found.columns is.record_batches inside same columns_end
              (entries_end end new behind.record_batches found.columns new_batches found.columns_end);
        });
      }

-- ---- turns

-- the batches of a file that is read are those of its messages
same_batches : (bytes : List ℕ) (base : Base) (is : IsBase bytes base) (table : Table) (old : Old bytes base is table)
    (batches : List (List (List Slot))) → batches_in file bytes ≡ Some batches → old.batches ≡ batches
unfolding batches_in
same_batches bytes base is table old batches e =
    let contents = came_of {A = Contents} (contents_of file bytes) _ batches e in
    let parts = contents_are bytes base is contents.0 contents.1 in
    let columns : parts.0 ≡ old.columns = same_value parts.0 old.columns (sym parts.1 ∙ old.has_columns) in
    let whole : record { schema = base.found; entries = is.entries ++ old.columns } ≡ contents.0 =
    ap (λ (them : List Entry). record { schema = base.found; entries = is.entries ++ them }) (sym columns) ∙ parts.2 in
    let reads : batches_of (layout_of base.found) [] (is.entries ++ old.columns) ≡ Some batches =
    subst (λ (c : Contents). batches_of (layout_of c.schema) [] c.entries ≡ Some batches) (sym whole) contents.2 in
    same_value old.batches batches
    (sym (standing_then (layout_of base.found) [] is.entries old.columns is.standing is.stands ∙ old.reads) ∙ reads)

-- what is known of a file behind each turn
record Holds (bytes : List ℕ) (schema : Schema) (batches : List (List (List Slot))) : Type 0 where
  holds : HoldsBatches file bytes schema batches
  ends : FileEnds bytes

came_from_base : (bytes new : List ℕ) (batches : List (List Column)) → appended bytes (stored_chunks batches) ≡ Some new
    → (base : Base) × (base_of bytes ≡ Some base)
unfolding appended
came_from_base bytes new batches e =
    let found = came_of {A = Base} (base_of bytes) _ new e in
    (found.0, found.1)

one_turn : StoredColumnsReadBack → (bytes new : List ℕ) (schema : Schema) (before : List (List (List Slot))) (batches : List (List Column))
    → Holds bytes schema before → appended bytes (stored_chunks batches) ≡ Some new
    → length (rows_of_batches (before ++ read_batches batches)) < 2 ^ 64 → Holds new schema (before ++ read_batches batches)
one_turn stored bytes new schema before batches its became small =
    let from = came_from_base bytes new batches became in
    let base : Base = from.0 in
    let is = is_base bytes base from.1 in
    let table : Table = record { schema = normalised schema; rows = rows_of_batches before } in
    let ends = base_ends bytes base is its.ends in
    let old = old_of bytes base is table (stands_before bytes base is table its.holds.as_table ends) its.holds.as_table in
    let same : old.batches ≡ before = same_batches bytes base is table old before its.holds.in_batches in
    let all = map (batch_of_stored base.found.ids) batches in
    let was = was_appended bytes new base batches from.1 became in
    let parts = new_parts stored bytes base is table old batches new was in
    let few : length (rows_of_batches (old.batches ++ read_batches batches)) < 2 ^ 64 =
    subst (λ (them : List (List (List Slot))). length (rows_of_batches (them ++ read_batches batches)) < 2 ^ 64) (sym same) small in
    let found = new_holds stored bytes base is table old batches parts few in
    let room = take (base_end base) bytes ++ behind_base base bytes all in
    let its_schema : normalised base.found.schema ≡ normalised schema = ap (λ (t : Table). t.schema) old.whole in
    let holds : HoldsBatches file room schema (before ++ read_batches batches) =
    subst (λ (them : List (List (List Slot))). HoldsBatches file room schema (them ++ read_batches batches)) same (record {
      in_batches = found.in_batches;
      as_table = found.as_table
          ∙ ap (λ (s : Schema). Some (record { schema = s; rows = rows_of_batches (old.batches ++ read_batches batches) })) its_schema;
    }) in
    subst (λ (them : List ℕ). Holds them schema (before ++ read_batches batches)) (sym (begins_with_base base bytes all) ∙ was.bytes_are)
    (record { holds = holds; ends = grown_ends stored bytes base is table old batches parts ends })

batches_join : (some others : List (List Column)) → read_batches (some ++ others) ≡ read_batches some ++ read_batches others
batches_join some others = map-append _ some others

all_turns_hold : StoredColumnsReadBack → (turns : List (List (List Column))) (bytes new : List ℕ) (schema : Schema)
    (before : List (List (List Slot))) → Holds bytes schema before → appended_in_turns bytes turns ≡ Some new
    → length (rows_of_batches (before ++ read_batches (all_turns turns))) < 2 ^ 64
    → HoldsBatches file new schema (before ++ read_batches (all_turns turns))
unfolding appended_in_turns
all_turns_hold stored [] bytes new schema before its e small =
    subst (λ (them : List (List (List Slot))). HoldsBatches file new schema them) (sym (append-nil before))
    (subst (λ (them : List ℕ). HoldsBatches file them schema before) (same_value bytes new e) its.holds)
all_turns_hold stored (batches ∷ turns) bytes new schema before its e small =
    let next = came_of {A = List ℕ} (appended bytes (stored_chunks batches)) _ new e in
    let first = read_batches batches in
    let others = read_batches (all_turns turns) in
    let joins : before ++ read_batches (all_turns (batches ∷ turns)) ≡ (before ++ first) ++ others =
    ap (λ (them : List (List (List Slot))). before ++ them) (batches_join batches (all_turns turns)) ∙ sym (append_assoc before first others) in
    let whole : length (rows_of_batches ((before ++ first) ++ others)) < 2 ^ 64 =
    subst (λ (them : List (List (List Slot))). length (rows_of_batches them) < 2 ^ 64) joins small in
    let few : length (rows_of_batches (before ++ first)) < 2 ^ 64 = omega (
      arith,
      whole,
      ap length (rows_join (before ++ first) others),
      length-append (rows_of_batches (before ++ first)) (rows_of_batches others),
    ) in
    let rest = all_turns_hold stored turns next.0 new schema (before ++ first)
    (one_turn stored bytes next.0 schema before batches its next.1 few) next.2 whole in
    subst (λ (them : List (List (List Slot))). HoldsBatches file new schema them) (sym joins) rest

-- ---- the law

pub grown_files : StoredColumnsReadBack → GrownFilesReadBack
grown_files stored schema below batches turns bytes new e texts became small =
    let first = read_batches batches in
    let others = read_batches (all_turns turns) in
    let joins = batches_join batches (all_turns turns) in
    let whole : length (rows_of_batches (first ++ others)) < 2 ^ 64 =
    subst (λ (them : List (List (List Slot))). length (rows_of_batches them) < 2 ^ 64) joins small in
    let few : length (rows_of_batches first) < 2 ^ 64 =
    omega (arith, whole, ap length (rows_join first others), length-append (rows_of_batches first) (rows_of_batches others)) in
    let its : Holds bytes schema first = record {
      holds = stored_files stored schema below batches bytes e texts few;
      ends = written_ends schema below batches bytes e texts;
    } in
    subst (λ (them : List (List (List Slot))). HoldsBatches file new schema them) (sym joins)
    (all_turns_hold stored turns bytes new schema first its became whole)
