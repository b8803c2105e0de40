-- The file that is written of a table reads as it. A dictionary that isn't written, since the first one under its id says the same, may be past
-- its limits: the room that the law of files asks of all is known here of those that are written.
use Rattle.std.proofs.Common.{◌≡◌, ◌∙◌, ℕ, ◌<◌, ◌≤◌, ◌^◌, List, [], ◌∷◌, ◌++◌, length, map, refl, sym, ap, subst, Bool, true, arith, append_assoc}
use Rattle.std.proofs.Common.{append-nil}
use Rattle.std.specs.Prelude.{Some, if◌then◌else◌}
use Rattle.std.specs.Int.{w32, to_le_bytes}
use Rattle.std.specs.List.{list_all}
use Rattle.std.proofs.lemmas.Bool.{and_parts, ltb-true}
use Rattle.std.proofs.lemmas.List.{length-map, map-append}
use Rattle.ipc_format.specs.columnar_memory.declared.Field.{Field}
use Rattle.ipc_format.specs.columnar_memory.declared.Schema.{Schema}
use Rattle.ipc_format.specs.columns.Slots.{Slot}
use Rattle.ipc_format.specs.columns.StoredColumns.{Column}
use Rattle.ipc_format.specs.columns.Tables.{rows_of_batches}
use Rattle.ipc_format.specs.grammar.Limits.{file_limit, most_dictionaries}
use Rattle.ipc_format.specs.Dictionaries.{Entry, Layout}
use Rattle.ipc_format.specs.Files.{file_entries, file_mark}
use Rattle.ipc_format.specs.GivenDictionaries.{Given, last_under, stands_for, to_write, written_after}
use Rattle.ipc_format.specs.Schemas.{IdsList}
use Rattle.ipc_format.specs.Tables.{file, batches_of}
use Rattle.ipc_format.specs.Writable.{normalised, normalised_field}
use Rattle.ipc_format.specs.WrittenFiles.{Blocks, all_given, batch_blocks, block_of, dictionary_blocks, file_bytes, file_end}
use Rattle.ipc_format.specs.WrittenFiles.{file_start, footer_bytes, place_after, with_record_batch}
use Rattle.ipc_format.specs.WrittenMessages.{end_mark, fits_limit, message_bytes, record_message, schema_written}
use Rattle.ipc_format.specs.WrittenStreams.{Batch, batch_of_stored, bytes_of_messages, given_of_stored, messages_after}
use Rattle.ipc_format.specs.WrittenStreams.{stream_bytes, stream_messages}
use Rattle.ipc_format.specs.reading_laws.laws.Contents.{Sent, batch, dictionary}
use Rattle.ipc_format.specs.reading_laws.laws.Footers.{HasFooter, block_read, file_with}
use Rattle.ipc_format.specs.reading_laws.laws.Schemas.{HasTexts, ids_read}
use Rattle.ipc_format.specs.reading_laws.StoredTables.{HoldsBatches, read_batches}
use Rattle.ipc_format.proofs.DefaultIds.{defaults_fit}
use Rattle.ipc_format.proofs.Footers.{footers_read_back}
use Rattle.ipc_format.proofs.LimitsOfRoom.{fit_ids_list}
use Rattle.ipc_format.proofs.Places.{Stands, back}
use Rattle.ipc_format.proofs.SealedIds.{defaults_signed}
use Rattle.ipc_format.proofs.StoredGivenBrought.{given_of}
use Rattle.ipc_format.proofs.StoredGivenFits.{ids_are_read}
use Rattle.ipc_format.proofs.StoredGivenLists.{AreEach, Each, by_answer}
use Rattle.ipc_format.proofs.StoredGivenReady.{AgreePairs, brought_of, given_brought_of, given_few, pairs_back}
use Rattle.ipc_format.proofs.StoredGivenReady.{pairs_front, ready_of}
use Rattle.ipc_format.proofs.StoredTablesBatches.{IsBatch}
use Rattle.ipc_format.proofs.StoredTablesBlocks.{BlocksRead, all_written, blocks_stand}
use Rattle.ipc_format.proofs.StoredTablesEntries.{IsSent}
use Rattle.ipc_format.proofs.StoredTablesFiles.{batches_sent, columns_sent, contents_found, entries_found}
use Rattle.ipc_format.proofs.StoredTablesOnce.{agree_behind, given_all, given_of_all, later_batches, none_more}
use Rattle.ipc_format.proofs.StoredTablesOnce.{none_replaced_agree}
use Rattle.ipc_format.proofs.StoredTablesStreams.{all_stand, batch_dictionaries, holds_batches, layout_with}
use Rattle.ipc_format.proofs.StoredTypes.{stored_columns_read_back}
use Rattle.tables_chunks.specs.Batches.{stored_rows}
use Rattle.tables_chunks.specs.StoredTables.{IsTable}
use Rattle.tables_chunks.specs.WrittenFiles.{IsTableFile, ReadAsTableFile, table_file}
use Rattle.tables_chunks.specs.WrittenTables.{are_within, table_ids, written_batches}
use Rattle.tables_chunks.proofs.TableColumns.{table_batches, table_read}
use Rattle.tables_chunks.proofs.WithinLimits.{after_again, all_fit, messages_thinned, rooms, thinned, write_again}

-- ---- batches with those of their dictionaries alone that are written

blocks_thinned : (place : ℕ) (told : List Given) (batches : List Batch)
    → batch_blocks place told (thinned told batches) ≡ batch_blocks place told batches
blocks_thinned place told [] = refl
blocks_thinned place told (next ∷ batches) =
    let after = written_after told next.given in
    let message = record_message next.rows next.columns in
    let rest : (here : ℕ) → batch_blocks here (written_after told (to_write told next.given)) (thinned after batches)
    ≡ batch_blocks here after batches =
    λ (here : ℕ). ap (λ (them : List Given). batch_blocks here them (thinned after batches)) (after_again told next.given)
    ∙ blocks_thinned here after batches in
    λ j. dictionary_blocks place (write_again told next.given j)
    (λ (here : ℕ). with_record_batch (block_of here message) (rest (place_after here message) j))

given_thinned : (told : List Given) (batches : List Batch) → all_written told (thinned told batches) ≡ all_written told batches
given_thinned told [] = refl
given_thinned told (next ∷ batches) =
    let after = written_after told next.given in
    (λ j. write_again told next.given j ++ all_written (after_again told next.given j) (thinned after batches))
    ∙ ap (λ (more : List Given). to_write told next.given ++ more) (given_thinned after batches)

columns_thick : (told : List Given) (batches : List Batch) (columns : List Entry)
    → AreEach (λ (b : Batch). IsSent (batch b)) (thinned told batches) columns → AreEach (λ (b : Batch). IsSent (batch b)) batches columns
columns_thick told [] [] are = tt
columns_thick told [] (entry ∷ columns) are = absurd are
columns_thick told (next ∷ batches) [] are = absurd are
columns_thick told (next ∷ batches) (entry ∷ columns) are = (are.0, columns_thick (written_after told next.given) batches columns are.1)

blocks_thick : {bytes : List ℕ} (blocks : Blocks) (given told : List Given) (batches : List Batch)
    → BlocksRead bytes blocks given (thinned told batches) → BlocksRead bytes blocks given batches
blocks_thick blocks given told batches read = record {
  count = read.count;
  fit_dictionaries = read.fit_dictionaries;
  fit_batches = read.fit_batches;
  values = read.values;
  values_read = read.values_read;
  are_values = read.are_values;
  values_end = read.values_end;
  columns = read.columns;
  columns_read = read.columns_read;
  are_columns = columns_thick told batches read.columns read.are_columns;
  columns_end = read.columns_end;
}

-- ---- the entries of a file, as what was sent

abbrev all_sent : List Given → List Batch → List Sent
all_sent given batches = map dictionary given ++ map batch batches

entries_sent : (given : List Given) (values : List Entry) (batches : List Batch) (columns : List Entry)
    → AreEach (λ (g : Given). IsSent (dictionary g)) given values → AreEach (λ (b : Batch). IsSent (batch b)) batches columns
    → AreEach IsSent (all_sent given batches) (values ++ columns)
entries_sent [] [] batches columns are they = batches_sent batches columns they
entries_sent [] (entry ∷ values) batches columns are they = absurd are
entries_sent (g ∷ given) [] batches columns are they = absurd are
entries_sent (g ∷ given) (entry ∷ values) batches columns are they = (are.0, entries_sent given values batches columns are.1 they)

more_sent : (given more : List Given) (batches : List Batch) → all_sent (given ++ more) batches ≡ map dictionary given ++ all_sent more batches
more_sent given more batches = ap (λ (sent : List Sent). sent ++ map batch batches) (map-append dictionary given more)
    ∙ append_assoc (map dictionary given) (map dictionary more) (map batch batches)

few_written : (written given : List Given) → length (to_write written given) ≤ length given
few_written written [] = omega arith
few_written written (next ∷ given) =
    by_answer (λ (answer : Bool). length (if answer then to_write written given else next ∷ to_write (next ∷ written) given) ≤ length (next ∷ given))
    (stands_for next (last_under next.id written)) (λ is. omega (arith, few_written written given))
    (λ is. omega (arith, few_written (next ∷ written) given))

-- ---- what they give

module _ (layout : Layout) (us : List Field) (little : layout.is_little_endian ≡ true) (fields : layout.fields ≡ map normalised_field us) where
  -- what the entries of a file give, and how many dictionaries are written: those of its first batch
  record FileReads (batches : List (List Column)) (entries : List Entry) : Type 0 where
    reads : batches_of layout [] entries ≡ Some (read_batches batches)
    few : length (all_written [] (map (batch_of_stored layout.below) batches)) ≤ most_dictionaries

  file_reads : (first : List Column) (batches : List (List Column)) (entries : List Entry) → IsBatch us layout.below first
      → Each (IsBatch us layout.below) batches → AgreePairs (given_of_all layout.below (first ∷ batches))
      → length (given_of_stored layout.below first) ≤ most_dictionaries
      → AreEach IsSent (all_sent (all_written [] (map (batch_of_stored layout.below) (first ∷ batches)))
      (map (batch_of_stored layout.below) (first ∷ batches))) entries → FileReads (first ∷ batches) entries
  unfolding batch_of_stored
  file_reads first batches entries its_first its pairs few are =
      let stored = stored_columns_read_back in
      let below = layout.below in
      let given = given_of_stored below first in
      let others = given_of_all below batches in
      let now = written_after [] given in
      let more = all_written now (map (batch_of_stored below) batches) in
      let all = map (batch_of_stored below) (first ∷ batches) in
      let same = given_brought_of below first in
      let pairs_first : AgreePairs (map given_of (brought_of below first)) = subst AgreePairs (sym same) (pairs_front given others pairs) in
      let sent : AreEach IsSent (map dictionary (to_write [] given) ++ all_sent more all) entries =
      subst (λ (them : List Sent). AreEach IsSent them entries) (more_sent (to_write [] given) more all) are in
      let behind = batch_dictionaries stored layout us little fields [] [] first (all_sent more all) entries
      (ready_of us below first [] its_first.columns tt pairs_first) tt sent in
      let later = later_batches us below first batches now its_first.columns pairs_first its (pairs_back given others pairs) behind.stand
      (agree_behind below first others pairs) in
      let none : more ≡ [] = none_more below batches now later in
      let columns : AreEach IsSent (map batch all) behind.others =
      subst (λ (them : List Given). AreEach IsSent (all_sent them all) behind.others) none behind.are in
      record {
        reads = behind.reads
            ∙ columns_sent stored layout us little fields now (first ∷ batches) behind.others (its_first, its)
            (all_stand stored layout us little fields now [] first behind.stand, later) columns;
        few = omega (
          arith,
          few,
          few_written [] given,
          ap length (ap (λ (them : List Given). to_write [] given ++ them) none ∙ append-nil (to_write [] given)),
        );
      }

not_none : {X Y : Type 0} (R : X → Y → Type 0) (x : X) (xs : List X) (ys : List Y) → AreEach R (x ∷ xs) ys → ys ≡ [] → ⊥
not_none R x xs [] are none = are
not_none R x xs (y ∷ ys) are none = absurd cc

-- the entries of a file, and what they give
record FileEntries (bytes : List ℕ) (schema : Schema) (below : IdsList) (batches : List (List Column)) (blocks : Blocks) : Type 0 where
  entries : List Entry
  found : file_entries bytes (map block_read blocks.dictionaries) (map block_read blocks.record_batches) ≡ Some entries
  reads : batches_of (layout_with (normalised schema) below) [] entries ≡ Some (read_batches batches)

file_found : (bytes : List ℕ) (schema : Schema) (below : IdsList) (batches : List (List Column)) (place : ℕ)
    → Each (IsBatch schema.fields below) batches → AgreePairs (given_of_all below batches)
    → ((cs : List Column) → IsBatch schema.fields below cs → length (given_of_stored below cs) ≤ most_dictionaries)
    → BlocksRead bytes (batch_blocks place [] (map (batch_of_stored below) batches)) (all_written [] (map (batch_of_stored below) batches))
    (map (batch_of_stored below) batches)
    → FileEntries bytes schema below batches (batch_blocks place [] (map (batch_of_stored below) batches))
unfolding normalised
file_found bytes schema below [] place its pairs few blocks = record { entries = []; found = refl; reads = refl }
file_found bytes schema below (first ∷ batches) place its pairs few blocks =
    let layout = layout_with (normalised schema) below in
    let all = map (batch_of_stored below) (first ∷ batches) in
    let its_blocks = batch_blocks place [] all in
    let sent = entries_sent (all_written [] all) blocks.values all blocks.columns blocks.are_values blocks.are_columns in
    let reads = file_reads layout schema.fields refl refl first batches (blocks.values ++ blocks.columns) its.0 its.1 pairs (few first its.0) sent in
    let count : length (map block_read its_blocks.dictionaries) ≤ most_dictionaries =
    omega (arith, reads.few, blocks.count, length-map its_blocks.dictionaries block_read) in
    record {
      entries = blocks.values ++ blocks.columns;
      found = entries_found bytes (map block_read its_blocks.dictionaries) (map block_read its_blocks.record_batches) blocks.values blocks.columns
          count blocks.values_read blocks.columns_read
          (not_none (λ (b : Batch). IsSent (batch b)) (batch_of_stored below first) (map (batch_of_stored below) batches) blocks.columns
          blocks.are_columns);
      reads = reads.reads;
    }

-- ---- the bytes of a file

file_is : (messages footer : List ℕ) → file_start ++ messages ++ file_end footer ≡ file_with messages footer
file_is messages footer =
    let before = file_start ++ messages in
    let size = to_le_bytes w32 (length footer) in
    sym (append_assoc before (footer ++ size) file_mark) ∙ ap (λ (xs : List ℕ). xs ++ file_mark) (sym (append_assoc before footer size))

whole_file : (schema : Schema) (below : IdsList) (batches : List Batch)
    → file_start ++ stream_bytes schema below batches ++ file_end (footer_bytes schema below batches) ≡ file_bytes schema below batches
unfolding file_bytes
whole_file schema below batches = refl

-- the messages behind the schema's stand behind it
messages_stand : (schema : Schema) (below : IdsList) (batches : List Batch)
    → Stands (file_bytes schema below batches) (place_after (length file_start) (schema_written schema below))
    (bytes_of_messages (messages_after [] batches))
unfolding file_bytes stream_bytes stream_messages
messages_stand schema below batches =
    let first = message_bytes (schema_written schema below) in
    let later = bytes_of_messages (messages_after [] batches) in
    let behind = file_end (footer_bytes schema below batches) in
    let all : Stands (file_bytes schema below batches) (length file_start) (first ++ later) = record {
      before = file_start;
      after = end_mark ++ behind;
      whole = append_assoc file_start (first ++ later ++ end_mark) behind
          ∙ ap (λ (xs : List ℕ). file_start ++ xs) (append_assoc (first ++ later) end_mark behind);
      at = refl;
    } in
    back first later (place_after (length file_start) (schema_written schema below)) refl refl all

-- ---- what they hold

-- the blocks of a table's file, whose messages are within their limits
blocks_of_table : (schema : Schema) (batches : List (List Column)) (bytes : List ℕ) (place : ℕ) → IsTable schema batches
    → are_within [] (written_batches schema batches) ≡ true → length bytes < 2 ^ 63
    → Stands bytes place (bytes_of_messages (messages_after [] (written_batches schema batches)))
    → BlocksRead bytes (batch_blocks place [] (written_batches schema batches)) (all_written [] (written_batches schema batches))
    (written_batches schema batches)
blocks_of_table schema batches bytes place may within short stands =
    let below = table_ids schema in
    let all = written_batches schema batches in
    let same = messages_thinned [] all in
    let room = rooms schema [] below batches may.form.writable (defaults_signed schema may.form.writable) (table_batches schema batches may) within in
    let fit : list_all fits_limit (messages_after [] (thinned [] all)) ≡ true = ap (list_all fits_limit) same ∙ all_fit [] all within in
    let stand : Stands bytes place (bytes_of_messages (messages_after [] (thinned [] all))) =
    subst (λ (them : _). Stands bytes place (bytes_of_messages them)) (sym same) stands in
    let thin_read = blocks_stand (thinned [] all) [] place room fit short stand in
    let read : BlocksRead bytes (batch_blocks place [] all) (all_written [] all) (thinned [] all) =
    subst (λ (them : List Given). BlocksRead bytes (batch_blocks place [] all) them (thinned [] all)) (given_thinned [] all)
    (subst (λ (them : Blocks). BlocksRead bytes them (all_written [] (thinned [] all)) (thinned [] all)) (blocks_thinned place [] all) thin_read) in
    blocks_thick (batch_blocks place [] all) (all_written [] all) [] all read

holds_file : (schema : Schema) (batches : List (List Column)) → IsTable schema batches → IsTableFile schema batches → HasTexts schema
    → length (rows_of_batches (read_batches batches)) < 2 ^ 64 → HoldsBatches file (table_file schema batches) schema (read_batches batches)
unfolding footer_bytes
holds_file schema batches may is texts small =
    let below = table_ids schema in
    let all = written_batches schema batches in
    let bytes = table_file schema batches in
    let place = place_after (length file_start) (schema_written schema below) in
    let within = and_parts (fits_limit (schema_written schema below)) (are_within [] all) is.within in
    let short : length bytes < 2 ^ 63 = ltb-true (length bytes) file_limit is.room in
    let blocks = blocks_of_table schema batches bytes place may within.1 short (messages_stand schema below all) in
    let its_blocks = batch_blocks place [] all in
    let footer = footer_bytes schema below all in
    let stream = stream_bytes schema below all in
    let has : HasFooter (file_with stream footer) footer (normalised schema) (ids_read schema below) its_blocks =
    footers_read_back schema below its_blocks stream may.form.writable texts (fit_ids_list below (defaults_signed schema may.form.writable))
    blocks.fit_dictionaries blocks.fit_batches (ltb-true (length footer) (2 ^ 31) is.footer) in
    let its_footer = subst (λ (them : List ℕ). HasFooter them footer (normalised schema) (ids_read schema below) its_blocks)
    (sym (file_is stream footer) ∙ whole_file schema below all) has in
    let pairs : AgreePairs (given_of_all below batches) =
    subst AgreePairs (given_all below batches) (none_replaced_agree [] (all_given all) is.once) in
    let found = file_found bytes schema below batches place (table_batches schema batches may) pairs
    (λ (cs : List Column) (one : IsBatch schema.fields below cs). given_few schema below cs may.form.writable one.columns) blocks in
    holds_batches file bytes schema below found.entries (read_batches batches) texts
    (ids_are_read schema.fields below (defaults_fit schema may.form.writable)) small
    (contents_found bytes footer schema below its_blocks found.entries its_footer found.found) found.reads

-- The file of a table reads as it, where it is within its limits and replaces no dictionary, its names and metadata are texts, and its rows fit 64
-- bits.
pub file_reads_back : (schema : Schema) (batches : List (List Column)) → IsTable schema batches → IsTableFile schema batches → HasTexts schema
    → length (stored_rows batches) < 2 ^ 64 → ReadAsTableFile (table_file schema batches) schema batches
file_reads_back schema batches may is texts small =
    let same = table_read schema batches may in
    let few = subst (λ (some : List (List (List Slot))). length (rows_of_batches some) < 2 ^ 64) (sym same) small in
    let holds = holds_file schema batches may is texts few in
    let normal = may.form.normal in
    record {
      in_batches = holds.in_batches ∙ ap Some same;
      as_table = holds.as_table ∙ (λ j. Some (record { schema = normal j; rows = rows_of_batches (same j) }));
    }
