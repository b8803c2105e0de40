-- A file that was written of batches of stored columns holds their slots.
use Rattle.std.proofs.Common.{◌≡◌, ◌∙◌, ℕ, ◌<◌, ◌≤◌, ◌^◌, List, [], ◌∷◌, ◌++◌, length, map, refl, sym, ap, subst, Bool, true, arith, append_assoc}
use Rattle.std.proofs.Common.{append-nil}
use Rattle.std.specs.Prelude.{◌&&◌, Some, if◌then◌else◌, nat_le}
use Rattle.std.specs.Int.{w32, to_le_bytes}
use Rattle.std.specs.List.{All, list_all}
use Rattle.std.proofs.lemmas.Bool.{and_parts, le-leb, ltb-true}
use Rattle.std.proofs.lemmas.List.{length-map, map-append}
use Rattle.std.proofs.lemmas.Option.{same_Some}
use Rattle.std.proofs.lemmas.List.Elements.{All-head, All-tail, All-nil, All-cons}
use Rattle.ipc_format_laws.specs.columnar_memory.declared.Field.{Field}
use Rattle.ipc_format_laws.specs.columnar_memory.declared.Schema.{Schema}
use Rattle.ipc_format_laws.specs.columns.StoredColumns.{Column}
use Rattle.ipc_format_laws.specs.grammar.Schemas.{IdsList}
use Rattle.ipc_format_laws.specs.grammar.Writable.{is_writable, normalised, normalised_field}
use Rattle.ipc_format_laws.specs.grammar.Limits.{most_dictionaries, file_limit}
use Rattle.ipc_format_laws.specs.grammar.Dictionaries.{Entry, Layout}
use Rattle.ipc_format_laws.specs.grammar.Files as read
use Rattle.ipc_format_laws.specs.grammar.Files.{file_mark, is_dictionary, is_record_batch, entries_at, file_entries}
use Rattle.ipc_format_laws.specs.grammar.Tables.{file, batches_of, contents_of}
use Rattle.ipc_format_laws.specs.grammar.GivenDictionaries.{Given, last_under, stands_for, to_write, written_after}
use Rattle.ipc_format_laws.specs.grammar.Ids.{ids_fit_fields, all_are_ids}
use Rattle.ipc_format_laws.specs.grammar.WrittenMessages.{message_bytes, fits_limit, end_mark, schema_written}
use Rattle.ipc_format_laws.specs.grammar.WrittenStreams.{Batch, Chunk, stored_columns, batch_of_stored, batches_written, given_of_stored}
use Rattle.ipc_format_laws.specs.grammar.WrittenStreams.{belongs, is_written_with, is_in_room, are_columns_of, are_equal, chunk_lengths, messages_after}
use Rattle.ipc_format_laws.specs.grammar.WrittenStreams.{stream_messages, stream_bytes, bytes_of_messages}
use Rattle.ipc_format_laws.specs.grammar.WrittenFiles.{Blocks, place_after, batch_blocks, file_start, footer_bytes, is_footer, file_end, file_bytes}
use Rattle.ipc_format_laws.specs.grammar.WrittenFiles.{fits_file_limit, none_replaced, all_given, written_file}
use Rattle.ipc_format_laws.specs.Contents.{schema_read, Sent, dictionary, batch}
use Rattle.ipc_format_laws.specs.Footers.{block_read, file_with, HasFooter}
use Rattle.ipc_format_laws.specs.Schemas.{HasTexts, ids_read}
use Rattle.ipc_format_laws.proofs.Footers.{footers_read_back}
use Rattle.ipc_format_laws.proofs.GivenIds.{batch_ids}
use Rattle.ipc_format_laws.proofs.Places.{Stands, back}
use Rattle.ipc_format_laws.proofs.Room.{HasRoomForColumns, has_room_for_columns, fit_ids_list}
use Rattle.ipc_format_laws.proofs.StreamReaders.{passed}
use Rattle.ipc_format_reading_laws.specs.StoredColumns.{StoredColumnsReadBack}
use Rattle.ipc_format_reading_laws.specs.StoredTables.{stored_chunks, read_batches, StoredFilesReadBack}
use Rattle.ipc_format_reading_laws.proofs.StoredGivenBrought.{given_of}
use Rattle.ipc_format_reading_laws.proofs.StoredGivenFits.{ids_are_read}
use Rattle.ipc_format_reading_laws.proofs.StoredGivenLists.{Each, AreEach, by_answer}
use Rattle.ipc_format_reading_laws.proofs.StoredGivenReady.{brought_of, given_brought_of, AgreePairs, pairs_front, pairs_back, ready_of, given_few}
use Rattle.ipc_format_reading_laws.proofs.StoredGivenStanding.{as_read, StandsIn}
use Rattle.ipc_format_reading_laws.proofs.StoredTablesBatches.{IsBatch}
use Rattle.ipc_format_reading_laws.proofs.StoredTablesBelong.{IsAsked, asked_of, batches_same, are_batches, all_bring_few}
use Rattle.ipc_format_reading_laws.proofs.StoredTablesBlocks.{BlocksRead, all_written, blocks_stand}
use Rattle.ipc_format_reading_laws.proofs.StoredTablesEntries.{IsSent}
use Rattle.ipc_format_reading_laws.proofs.StoredTablesOnce.{none_replaced_agree, given_of_all, given_all, later_batches, agree_behind, none_more}
use Rattle.ipc_format_reading_laws.proofs.StoredTablesStreams.{layout_with, holds_batches, batch_step, batch_dictionaries, all_stand}

-- ---- the entries of a file, as what was sent

abbrev all_sent : List Given → List Batch → List Sent
all_sent given batches = map dictionary given ++ map batch batches

pub batches_sent : (batches : List Batch) (columns : List Entry) → AreEach (λ (b : Batch). IsSent (batch b)) batches columns
    → AreEach IsSent (map batch batches) columns
batches_sent [] [] are = tt
batches_sent [] (entry ∷ columns) are = absurd are
batches_sent (b ∷ batches) [] are = absurd are
batches_sent (b ∷ batches) (entry ∷ columns) are = (are.0, batches_sent batches columns are.1)

entries_sent : (given : List Given) (values : List Entry) (batches : List Batch) (columns : List Entry)
    → AreEach (λ (g : Given). IsSent (dictionary g)) given values → AreEach (λ (b : Batch). IsSent (batch b)) batches columns
    → AreEach IsSent (all_sent given batches) (values ++ columns)
entries_sent [] [] batches columns are they = batches_sent batches columns they
entries_sent [] (entry ∷ values) batches columns are they = absurd are
entries_sent (g ∷ given) [] batches columns are they = absurd are
entries_sent (g ∷ given) (entry ∷ values) batches columns are they = (are.0, entries_sent given values batches columns are.1 they)

more_sent : (given more : List Given) (batches : List Batch) → all_sent (given ++ more) batches ≡ map dictionary given ++ all_sent more batches
more_sent given more batches = ap (λ (sent : List Sent). sent ++ map batch batches) (map-append dictionary given more)
    ∙ append_assoc (map dictionary given) (map dictionary more) (map batch batches)

few_written : (written given : List Given) → length (to_write written given) ≤ length given
few_written written [] = omega arith
few_written written (next ∷ given) =
    by_answer (λ (answer : Bool). length (if answer then to_write written given else next ∷ to_write (next ∷ written) given) ≤ length (next ∷ given))
    (stands_for next (last_under next.id written)) (λ is. omega (arith, few_written written given))
    (λ is. omega (arith, few_written (next ∷ written) given))

-- ---- what they give

module _ (stored : StoredColumnsReadBack) (layout : Layout) (us : List Field) (little : layout.is_little_endian ≡ true)
    (fields : layout.fields ≡ map normalised_field us) where
  pub columns_sent : (written : List Given) (batches : List (List Column)) (entries : List Entry) → Each (IsBatch us layout.below) batches
      → Each (λ (cs : List Column). Each (StandsIn written) (given_of_stored layout.below cs)) batches
      → AreEach IsSent (map batch (map (batch_of_stored layout.below) batches)) entries
      → batches_of layout (map as_read written) entries ≡ Some (read_batches batches)
  columns_sent written [] [] its stand are = refl
  columns_sent written [] (entry ∷ entries) its stand are = absurd are
  columns_sent written (cs ∷ batches) entries its stand are =
      batch_step stored layout us little fields written cs (map batch (map (batch_of_stored layout.below) batches)) (read_batches batches) entries
      its.0 stand.0 (λ (others : List Entry) they. columns_sent written batches others its.1 stand.1 they) are

  -- what the entries of a file give, and how many dictionaries are written: those of its first batch
  record FileReads (batches : List (List Column)) (entries : List Entry) : Type 0 where
    reads : batches_of layout [] entries ≡ Some (read_batches batches)
    few : length (all_written [] (map (batch_of_stored layout.below) batches)) ≤ most_dictionaries

  file_reads : (first : List Column) (batches : List (List Column)) (entries : List Entry) → IsBatch us layout.below first
      → Each (IsBatch us layout.below) batches → AgreePairs (given_of_all layout.below (first ∷ batches))
      → length (given_of_stored layout.below first) ≤ most_dictionaries
      → AreEach IsSent (all_sent (all_written [] (map (batch_of_stored layout.below) (first ∷ batches)))
      (map (batch_of_stored layout.below) (first ∷ batches))) entries → FileReads (first ∷ batches) entries
  unfolding batch_of_stored
  file_reads first batches entries its_first its pairs few are =
      let below = layout.below in
      let given = given_of_stored below first in
      let others = given_of_all below batches in
      let now = written_after [] given in
      let more = all_written now (map (batch_of_stored below) batches) in
      let all = map (batch_of_stored below) (first ∷ batches) in
      let same = given_brought_of below first in
      let pairs_first : AgreePairs (map given_of (brought_of below first)) = subst AgreePairs (sym same) (pairs_front given others pairs) in
      let sent : AreEach IsSent (map dictionary (to_write [] given) ++ all_sent more all) entries =
      subst (λ (them : List Sent). AreEach IsSent them entries) (more_sent (to_write [] given) more all) are in
      let behind = batch_dictionaries stored layout us little fields [] [] first (all_sent more all) entries
      (ready_of us below first [] its_first.columns tt pairs_first) tt sent in
      let later = later_batches us below first batches now its_first.columns pairs_first its (pairs_back given others pairs) behind.stand
      (agree_behind below first others pairs) in
      let none : more ≡ [] = none_more below batches now later in
      let columns : AreEach IsSent (map batch all) behind.others =
      subst (λ (them : List Given). AreEach IsSent (all_sent them all) behind.others) none behind.are in
      record {
        reads = behind.reads
            ∙ columns_sent now (first ∷ batches) behind.others (its_first, its)
            (all_stand stored layout us little fields now [] first behind.stand, later) columns;
        few = omega (
          arith,
          few,
          few_written [] given,
          ap length (ap (λ (them : List Given). to_write [] given ++ them) none ∙ append-nil (to_write [] given)),
        );
      }

-- ---- the bytes of a file

file_is : (messages footer : List ℕ) → file_start ++ messages ++ file_end footer ≡ file_with messages footer
file_is messages footer =
    let before = file_start ++ messages in
    let size = to_le_bytes w32 (length footer) in
    sym (append_assoc before (footer ++ size) file_mark) ∙ ap (λ (xs : List ℕ). xs ++ file_mark) (sym (append_assoc before footer size))

whole_file : (schema : Schema) (below : IdsList) (batches : List Batch)
    → file_start ++ stream_bytes schema below batches ++ file_end (footer_bytes schema below batches) ≡ file_bytes schema below batches
unfolding file_bytes
whole_file schema below batches = refl

-- the messages behind the schema's stand behind it
messages_stand : (schema : Schema) (below : IdsList) (batches : List Batch)
    → Stands (file_bytes schema below batches) (place_after (length file_start) (schema_written schema below))
    (bytes_of_messages (messages_after [] batches))
unfolding file_bytes stream_bytes stream_messages
messages_stand schema below batches =
    let first = message_bytes (schema_written schema below) in
    let later = bytes_of_messages (messages_after [] batches) in
    let behind = file_end (footer_bytes schema below batches) in
    let all : Stands (file_bytes schema below batches) (length file_start) (first ++ later) = record {
      before = file_start;
      after = end_mark ++ behind;
      whole = append_assoc file_start (first ++ later ++ end_mark) behind
          ∙ ap (λ (xs : List ℕ). file_start ++ xs) (append_assoc (first ++ later) end_mark behind);
      at = refl;
    } in
    back first later (place_after (length file_start) (schema_written schema below)) refl refl all

-- ---- rooms

pub rooms : (schema : Schema) (below : IdsList) (batches : List (List Column)) → all_are_ids below ≡ true
    → list_all (belongs schema below) (stored_chunks batches) ≡ true
    → All (λ (b : Batch). length b.given ≤ most_dictionaries) (map (batch_of_stored below) batches)
    → All HasRoomForColumns (map (batch_of_stored below) batches)
unfolding belongs
rooms schema below [] its_ids belong few = All-nil HasRoomForColumns
rooms schema below (cs ∷ batches) its_ids belong few =
    let Few : Batch → Type 0 = λ (b : Batch). length b.given ≤ most_dictionaries in
    let chunk : Chunk = stored_columns cs in
    let its_batch = batch_of_stored below cs in
    let others = map (batch_of_stored below) batches in
    let tests = and_parts (belongs schema below chunk) (list_all (belongs schema below) (stored_chunks batches)) belong in
    let is_in = and_parts (are_columns_of schema.fields chunk && are_equal (chunk_lengths chunk)) (is_in_room its_batch) tests.0 in
    All-cons HasRoomForColumns its_batch others
    (has_room_for_columns its_batch is_in.1 (batch_ids schema.fields below chunk its_ids) (All-head Few its_batch others few))
    (rooms schema below batches its_ids tests.1 (All-tail Few its_batch others few))

-- ---- what a file's bytes hold

-- what is asked of a file that is written
record WasAsked (schema : Schema) (below : IdsList) (batches : List (List Column)) (bytes : List ℕ) : Type 0 where
  is : is_written_with schema below ≡ true
  belong : list_all (belongs schema below) (stored_chunks batches) ≡ true
  once : none_replaced [] (all_given (map (batch_of_stored below) batches)) ≡ true
  fit : list_all fits_limit (messages_after [] (map (batch_of_stored below) batches)) ≡ true
  footer : is_footer (footer_bytes schema below (map (batch_of_stored below) batches)) ≡ true
  bytes_are : file_bytes schema below (map (batch_of_stored below) batches) ≡ bytes
  short : length bytes < 2 ^ 63

asked_with : (schema : Schema) (below : IdsList) (batches : List (List Column)) (all : List Batch) (bytes : List ℕ)
    → batches_written schema below (stored_chunks batches) ≡ all → written_file schema below (stored_chunks batches) ≡ Some bytes
    → (is_written_with schema below ≡ true) × (list_all (belongs schema below) (stored_chunks batches) ≡ true)
    × (none_replaced [] (all_given all) ≡ true) × (list_all fits_limit (stream_messages schema below all) ≡ true)
    × (is_footer (footer_bytes schema below all) ≡ true) × (fits_file_limit bytes ≡ true) × (file_bytes schema below all ≡ bytes)
unfolding written_file
asked_with schema below batches all bytes same e =
    let chunks = stored_chunks batches in
    let written = batches_written schema below chunks in
    let asked = passed (is_written_with schema below) _ bytes e in
    let belong = passed (list_all (belongs schema below) chunks) _ bytes asked.1 in
    let once = passed (none_replaced [] (all_given written)) _ bytes belong.1 in
    let fit = passed (list_all fits_limit (stream_messages schema below written)) _ bytes once.1 in
    let footer = passed (is_footer (footer_bytes schema below written)) _ bytes fit.1 in
    let short = passed (fits_file_limit (file_bytes schema below written)) _ bytes footer.1 in
    let whole : file_bytes schema below written ≡ bytes = same_Some (file_bytes schema below written) bytes short.1 in
    subst (λ (them : List Batch).
    (is_written_with schema below ≡ true) × (list_all (belongs schema below) (stored_chunks batches) ≡ true)
    × (none_replaced [] (all_given them) ≡ true) × (list_all fits_limit (stream_messages schema below them) ≡ true)
    × (is_footer (footer_bytes schema below them) ≡ true) × (fits_file_limit bytes ≡ true) × (file_bytes schema below them ≡ bytes)) same
    (asked.0, belong.0, once.0, fit.0, footer.0, subst (λ (them : List ℕ). fits_file_limit them ≡ true) whole short.0, whole)

was_asked : (schema : Schema) (below : IdsList) (batches : List (List Column)) (bytes : List ℕ)
    → written_file schema below (stored_chunks batches) ≡ Some bytes → WasAsked schema below batches bytes
unfolding stream_messages
was_asked schema below batches bytes e =
    let all = map (batch_of_stored below) batches in
    let parts = asked_with schema below batches all bytes (batches_same schema below batches) e in
    record {
      is = parts.0;
      belong = parts.1;
      once = parts.2;
      fit = (and_parts (fits_limit (schema_written schema below)) (list_all fits_limit (messages_after [] all)) parts.3).1;
      footer = parts.4;
      short = ltb-true (length bytes) file_limit parts.5;
      bytes_are = parts.6;
    }

-- the entries at the blocks of a footer
pub entries_found : (bytes : List ℕ) (dictionaries record_batches : List read.Block) (values columns : List Entry)
    → length dictionaries ≤ most_dictionaries → entries_at is_dictionary bytes dictionaries ≡ Some values
    → entries_at is_record_batch bytes record_batches ≡ Some columns → (columns ≡ [] → ⊥)
    → file_entries bytes dictionaries record_batches ≡ Some (values ++ columns)
entries_found bytes dictionaries [] values columns few found they some = absurd (some (sym (same_Some [] columns they)))
entries_found bytes dictionaries (block ∷ blocks) values columns few found they some =
    let enough : nat_le (length dictionaries) most_dictionaries ≡ true = le-leb (length dictionaries) most_dictionaries few in
    rw (enough, found, they) refl

-- the bytes have a footer, whose blocks are those of the messages
pub contents_found : (bytes footer : List ℕ) (schema : Schema) (below : IdsList) (blocks : Blocks) (entries : List Entry)
    → HasFooter bytes footer (normalised schema) (ids_read schema below) blocks
    → file_entries bytes (map block_read blocks.dictionaries) (map block_read blocks.record_batches) ≡ Some entries
    → contents_of file bytes ≡ Some (record { schema = schema_read schema below; entries = entries })
unfolding contents_of
contents_found bytes footer schema below blocks entries has found = rw (has.found, has.its_schema, found) refl

not_none : {X Y : Type 0} (R : X → Y → Type 0) (x : X) (xs : List X) (ys : List Y) → AreEach R (x ∷ xs) ys → ys ≡ [] → ⊥
not_none R x xs [] are none = are
not_none R x xs (y ∷ ys) are none = absurd cc

-- the entries of a file, and what they give
record FileEntries (bytes : List ℕ) (schema : Schema) (below : IdsList) (batches : List (List Column)) (blocks : Blocks) : Type 0 where
  entries : List Entry
  found : file_entries bytes (map block_read blocks.dictionaries) (map block_read blocks.record_batches) ≡ Some entries
  reads : batches_of (layout_with (normalised schema) below) [] entries ≡ Some (read_batches batches)

file_found : StoredColumnsReadBack → (bytes : List ℕ) (schema : Schema) (below : IdsList) (batches : List (List Column)) (place : ℕ)
    → Each (IsBatch schema.fields below) batches → AgreePairs (given_of_all below batches)
    → ((cs : List Column) → IsBatch schema.fields below cs → length (given_of_stored below cs) ≤ most_dictionaries)
    → BlocksRead bytes (batch_blocks place [] (map (batch_of_stored below) batches)) (all_written [] (map (batch_of_stored below) batches))
    (map (batch_of_stored below) batches)
    → FileEntries bytes schema below batches (batch_blocks place [] (map (batch_of_stored below) batches))
unfolding normalised
file_found stored bytes schema below [] place its pairs few blocks = record { entries = []; found = refl; reads = refl }
file_found stored bytes schema below (first ∷ batches) place its pairs few blocks =
    let layout = layout_with (normalised schema) below in
    let all = map (batch_of_stored below) (first ∷ batches) in
    let its_blocks = batch_blocks place [] all in
    let sent = entries_sent (all_written [] all) blocks.values all blocks.columns blocks.are_values blocks.are_columns in
    let reads = file_reads stored layout schema.fields refl refl first batches (blocks.values ++ blocks.columns) its.0 its.1 pairs
    (few first its.0) sent in
    let count : length (map block_read its_blocks.dictionaries) ≤ most_dictionaries =
    omega (arith, reads.few, blocks.count, length-map its_blocks.dictionaries block_read) in
    record {
      entries = blocks.values ++ blocks.columns;
      found = entries_found bytes (map block_read its_blocks.dictionaries) (map block_read its_blocks.record_batches) blocks.values blocks.columns
          count blocks.values_read blocks.columns_read
          (not_none (λ (b : Batch). IsSent (batch b)) (batch_of_stored below first) (map (batch_of_stored below) batches) blocks.columns
          blocks.are_columns);
      reads = reads.reads;
    }

-- ---- the parts of a file that is written

-- what is known of a written file's parts
pub record FileParts (schema : Schema) (below : IdsList) (batches : List (List Column)) (bytes : List ℕ) : Type 0 where
  pub place : ℕ
  pub asked : IsAsked schema below
  pub its : Each (IsBatch schema.fields below) batches
  pub once : none_replaced [] (all_given (map (batch_of_stored below) batches)) ≡ true
  pub blocks : BlocksRead bytes (batch_blocks place [] (map (batch_of_stored below) batches))
      (all_written [] (map (batch_of_stored below) batches)) (map (batch_of_stored below) batches)
  pub footer : List ℕ
  pub has : HasFooter bytes footer (normalised schema) (ids_read schema below) (batch_blocks place [] (map (batch_of_stored below) batches))

pub file_parts : (schema : Schema) (below : IdsList) (batches : List (List Column)) (bytes : List ℕ)
    → written_file schema below (stored_chunks batches) ≡ Some bytes → HasTexts schema → FileParts schema below batches bytes
unfolding footer_bytes
file_parts schema below batches bytes e texts =
    let was = was_asked schema below batches bytes e in
    let asked = asked_of schema below was.is in
    let its_ids : all_are_ids below ≡ true = (and_parts (is_writable schema && ids_fit_fields schema.fields below) (all_are_ids below) was.is).1 in
    let its = are_batches schema below batches asked.fit was.belong in
    let all = map (batch_of_stored below) batches in
    let few = all_bring_few schema below batches asked.writable its in
    let place = place_after (length file_start) (schema_written schema below) in
    let stands : Stands bytes place (bytes_of_messages (messages_after [] all)) =
    subst (λ (them : List ℕ). Stands them place (bytes_of_messages (messages_after [] all))) was.bytes_are (messages_stand schema below all) in
    let blocks = blocks_stand all [] place (rooms schema below batches its_ids was.belong few) was.fit was.short stands in
    let its_blocks = batch_blocks place [] all in
    let footer = footer_bytes schema below all in
    let short_footer : length footer < 2 ^ 31 = ltb-true (length footer) (2 ^ 31) was.footer in
    let stream = stream_bytes schema below all in
    let has_footer : HasFooter (file_with stream footer) footer (normalised schema) (ids_read schema below) its_blocks =
    footers_read_back schema below its_blocks stream asked.writable texts (fit_ids_list below its_ids) blocks.fit_dictionaries blocks.fit_batches
    short_footer in
    record {
      place = place;
      asked = asked;
      its = its;
      once = was.once;
      blocks = blocks;
      footer = footer;
      has = subst (λ (them : List ℕ). HasFooter them footer (normalised schema) (ids_read schema below) its_blocks)
          (sym (file_is stream footer) ∙ whole_file schema below all ∙ was.bytes_are) has_footer;
    }

-- ---- the law

pub stored_files : StoredColumnsReadBack → StoredFilesReadBack
stored_files stored schema below batches bytes e texts small =
    let parts = file_parts schema below batches bytes e texts in
    let all = map (batch_of_stored below) batches in
    let its_blocks = batch_blocks parts.place [] all in
    let pairs : AgreePairs (given_of_all below batches) =
    subst AgreePairs (given_all below batches) (none_replaced_agree [] (all_given all) parts.once) in
    let found = file_found stored bytes schema below batches parts.place parts.its pairs
    (λ (cs : List Column) (is : IsBatch schema.fields below cs). given_few schema below cs parts.asked.writable is.columns) parts.blocks in
    holds_batches file bytes schema below found.entries (read_batches batches) texts (ids_are_read schema.fields below parts.asked.fit) small
    (contents_found bytes parts.footer schema below its_blocks found.entries parts.has found.found) found.reads
