-- The stream that is written of a table reads as it.
use Rattle.std.proofs.Common.{◌≡◌, ◌∙◌, ℕ, ◌<◌, ◌^◌, true, List, [], ◌∷◌, ◌++◌, length, map, refl, sym, ap, subst, append-nil}
use Rattle.std.specs.Prelude.{Some}
use Rattle.std.proofs.lemmas.Bool.{and_parts}
use Rattle.ipc_format.specs.Reading.{window_at}
use Rattle.ipc_format.specs.columnar_memory.declared.Field.{Field}
use Rattle.ipc_format.specs.columnar_memory.declared.Schema.{Schema}
use Rattle.ipc_format.specs.columns.Slots.{Slot}
use Rattle.ipc_format.specs.columns.StoredColumns.{Column}
use Rattle.ipc_format.specs.columns.Tables.{rows_of_batches}
use Rattle.ipc_format.specs.Dictionaries.{Entry, Layout}
use Rattle.ipc_format.specs.Framing.{Framed}
use Rattle.ipc_format.specs.GivenDictionaries.{Given, written_after}
use Rattle.ipc_format.specs.Messages.{V5}
use Rattle.ipc_format.specs.Tables.{stream, stream_entry, batches_of}
use Rattle.ipc_format.specs.Writable.{normalised, normalised_field}
use Rattle.ipc_format.specs.WrittenMessages.{Written, fits_limit, schema_written}
use Rattle.ipc_format.specs.WrittenStreams.{batch_of_stored, given_of_stored, stream_bytes}
use Rattle.ipc_format.specs.reading_laws.laws.Contents.{AreThoseOf, IsOfSent, Sent, sent_after}
use Rattle.ipc_format.specs.reading_laws.laws.Contents as contents
use Rattle.ipc_format.specs.reading_laws.laws.Schemas.{HasTexts}
use Rattle.ipc_format.specs.reading_laws.StoredTables.{HoldsBatches, read_batches}
use Rattle.ipc_format.proofs.DefaultIds.{defaults_fit}
use Rattle.ipc_format.proofs.Places.{window_stands}
use Rattle.ipc_format.proofs.LimitsOfRoom.{fit_ids_list}
use Rattle.ipc_format.proofs.StreamContents.{IsWritten, stream_holds}
use Rattle.ipc_format.proofs.SealedIds.{defaults_signed}
use Rattle.ipc_format.proofs.StoredGivenFits.{ids_are_read}
use Rattle.ipc_format.proofs.StoredGivenLists.{AreEach, Each}
use Rattle.ipc_format.proofs.StoredGivenBrought.{given_of}
use Rattle.ipc_format.proofs.StoredGivenReady.{AgreePairs, agree_pairs, brought_of, given_brought_of, ready_of}
use Rattle.ipc_format.proofs.StoredGivenStanding.{as_read}
use Rattle.ipc_format.proofs.StoredTablesBatches.{IsBatch}
use Rattle.ipc_format.proofs.StoredTablesEntries.{IsSent}
use Rattle.ipc_format.proofs.StoredTablesStreams.{Agreed, all_stand, batch_dictionaries, batch_step, holds_batches}
use Rattle.ipc_format.proofs.StoredTablesStreams.{layout_with}
use Rattle.ipc_format.proofs.StoredTypes.{stored_columns_read_back}
use Rattle.tables_chunks.specs.Batches.{stored_rows}
use Rattle.tables_chunks.specs.WrittenTables.{ReadAsTable, are_within, is_table_within, table_bytes, table_ids, written_batches}
use Rattle.tables_chunks.specs.StoredTables.{IsTable}
use Rattle.tables_chunks.proofs.TableColumns.{table_batches, table_read}
use Rattle.tables_chunks.proofs.WithinLimits.{all_fit, within_read}
use Rattle.tables_chunks.proofs.WrittenIds.{columns_agree}

-- ---- the entries of a stream

whole_window : (bytes : List ℕ) → window_at bytes 0 (length bytes) ≡ Some bytes
whole_window bytes = window_stands (length bytes) refl (record { before = []; after = []; whole = sym (append-nil bytes); at = refl })

body_is : (bytes body : List ℕ) → bytes ≡ body → window_at bytes 0 (length body) ≡ Some body
body_is bytes body e = ap (λ (room : List ℕ). window_at room 0 (length body)) e ∙ whole_window body

entries_of : (sent : List Sent) (messages : List Framed) → AreThoseOf IsOfSent sent messages → AreEach IsSent sent (map (stream_entry V5) messages)
entries_of [] [] are = tt
entries_of [] (message ∷ messages) are = absurd are
entries_of (next ∷ sent) [] are = absurd are
entries_of (contents.dictionary given ∷ sent) (message ∷ messages) are = (
  record {
    metadata = ap (λ (w : Written). w.metadata) are.0.written;
    version = refl;
    body = body_is message.body _ (ap (λ (w : Written). w.body) are.0.written);
    table = are.0.table;
    header = are.0.header;
    has_table = are.0.has_table;
  },
  entries_of sent messages are.1,
)
entries_of (contents.batch its_batch ∷ sent) (message ∷ messages) are = (
  record {
    metadata = ap (λ (w : Written). w.metadata) are.0.written;
    version = refl;
    body = body_is message.body _ (ap (λ (w : Written). w.body) are.0.written);
    table = are.0.table;
    header = are.0.header;
    has_table = are.0.has_table;
  },
  entries_of sent messages are.1,
)

-- ---- batches one after another

module _ (layout : Layout) (us : List Field) (little : layout.is_little_endian ≡ true) (fields : layout.fields ≡ map normalised_field us) where
  batches_read : (written : List Given) (batches : List (List Column)) (entries : List Entry) → Each (IsBatch us layout.below) batches
      → Each (Agreed layout.below) batches → AreEach IsSent (sent_after written (map (batch_of_stored layout.below) batches)) entries
      → batches_of layout (map as_read written) entries ≡ Some (read_batches batches)
  unfolding batch_of_stored
  batches_read written [] [] its agreed are = refl
  batches_read written [] (entry ∷ entries) its agreed are = absurd are
  batches_read written (cs ∷ batches) entries its agreed are =
      let bs = brought_of layout.below cs in
      let given = given_of_stored layout.below cs in
      let now = written_after written given in
      let others = sent_after now (map (batch_of_stored layout.below) batches) in
      let sent = contents.batch (batch_of_stored layout.below cs) ∷ others in
      let pairs : AgreePairs (map given_of bs) = subst AgreePairs (sym (given_brought_of layout.below cs)) agreed.0 in
      let behind = batch_dictionaries stored_columns_read_back layout us little fields [] written cs sent entries
      (ready_of us layout.below cs [] its.0.columns tt pairs) tt are in
      behind.reads ∙ batch_step stored_columns_read_back layout us little fields now cs others (read_batches batches) behind.others its.0
      (all_stand stored_columns_read_back layout us little fields now [] cs behind.stand)
      (λ (rest : List Entry) they. batches_read now batches rest its.1 agreed.1 they) behind.are

-- ---- the dictionaries of each batch agree

all_agree : (schema : Schema) (batches : List (List Column)) (may : IsTable schema batches) (some : List (List Column))
    → Each (IsBatch schema.fields (table_ids schema)) some → Each (Agreed (table_ids schema)) some
all_agree schema batches may [] its = tt
all_agree schema batches may (cs ∷ some) its = (
  agree_pairs (given_of_stored (table_ids schema) cs) (columns_agree schema cs may.form.writable its.0.columns),
  all_agree schema batches may some its.1,
)

-- ---- the stream

-- the batches of a table are held by its stream, where it is within its limits
holds_table : (schema : Schema) (batches : List (List Column)) (behind : List ℕ) → IsTable schema batches
    → is_table_within schema batches ≡ true → HasTexts schema → length (rows_of_batches (read_batches batches)) < 2 ^ 64
    → HoldsBatches stream (table_bytes schema batches ++ behind) schema (read_batches batches)
unfolding normalised stream_bytes
holds_table schema batches behind may within texts small =
    let below = table_ids schema in
    let all = written_batches schema batches in
    let its = table_batches schema batches may in
    let limits = and_parts (fits_limit (schema_written schema below)) (are_within [] all) within in
    let ids = defaults_signed schema may.form.writable in
    let written : IsWritten schema below all (table_bytes schema batches) = record {
      is_writable = may.form.writable;
      fit = fit_ids_list below ids;
      first = limits.0;
      later = all_fit [] all limits.1;
      bytes = refl;
    } in
    let holds = stream_holds schema below all (AreThoseOf IsOfSent (sent_after [] all)) (table_bytes schema batches) behind written texts
    (λ _. within_read schema below batches may.form.writable ids its limits.1) in
    let entries : List Entry = map (stream_entry V5) holds.messages.later in
    let read : batches_of (layout_with (normalised schema) below) [] entries ≡ Some (read_batches batches) =
    batches_read (layout_with (normalised schema) below) schema.fields refl refl [] batches entries its (all_agree schema batches may batches its)
    (entries_of (sent_after [] all) holds.messages.later holds.later) in
    holds_batches stream (table_bytes schema batches ++ behind) schema below entries (read_batches batches) texts
    (ids_are_read schema.fields below (defaults_fit schema may.form.writable)) small holds.contents read

-- The stream of a table reads as it, where its messages are within their limits, its names and metadata are texts, and its rows fit 64 bits.
pub table_reads_back : (schema : Schema) (batches : List (List Column)) → IsTable schema batches → is_table_within schema batches ≡ true
    → HasTexts schema → length (stored_rows batches) < 2 ^ 64 → ReadAsTable (table_bytes schema batches) schema batches
table_reads_back schema batches may within texts small behind =
    let same = table_read schema batches may in
    let few = subst (λ (some : List (List (List Slot))). length (rows_of_batches some) < 2 ^ 64) (sym same) small in
    let holds = holds_table schema batches behind may within texts few in
    let normal = may.form.normal in
    record {
      in_batches = holds.in_batches ∙ ap Some same;
      as_table = holds.as_table ∙ (λ j. Some (record { schema = normal j; rows = rows_of_batches (same j) }));
    }
