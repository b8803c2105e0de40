-- A stream that was written of batches of stored columns holds their slots.
use Rattle.std.proofs.Common.{◌≡◌, ◌∙◌, ℕ, ◌<◌, ◌^◌, List, [], ◌∷◌, ◌++◌, length, map, refl, sym, ap, ap₂, subst, true, append-nil}
use Rattle.std.specs.Prelude.{Some, nat_lt}
use Rattle.std.specs.List.{All, list_all}
use Rattle.std.proofs.lemmas.Bool.{and_parts, lt-ltb}
use Rattle.ipc_format_laws.specs.flatbuffers.Reading.{window_at}
use Rattle.ipc_format_laws.specs.columnar_memory.declared.Field.{Field}
use Rattle.ipc_format_laws.specs.columnar_memory.declared.Schema.{Schema}
use Rattle.ipc_format_laws.specs.columns.Slots.{Slot}
use Rattle.ipc_format_laws.specs.columns.StoredColumns.{Column}
use Rattle.ipc_format_laws.specs.columns.Tables.{rows_of_batches}
use Rattle.ipc_format_laws.specs.grammar.Messages.{V5}
use Rattle.ipc_format_laws.specs.grammar.Schemas.{SchemaIn, IdsList}
use Rattle.ipc_format_laws.specs.grammar.Writable.{normalised, normalised_field}
use Rattle.ipc_format_laws.specs.grammar.Framing.{Framed}
use Rattle.ipc_format_laws.specs.grammar.Dictionaries.{Entry, Layout}
use Rattle.ipc_format_laws.specs.grammar.Tables.{Form, stream, stream_entry, layout_of, batches_of, contents_of, batches_in, table_of}
use Rattle.ipc_format_laws.specs.grammar.GivenDictionaries.{Given, to_write, written_after, agree}
use Rattle.ipc_format_laws.specs.grammar.WrittenMessages.{Written}
use Rattle.ipc_format_laws.specs.grammar.WrittenStreams.{Batch, batch_of_stored, batches_written, given_of_stored, belongs, is_written_with}
use Rattle.ipc_format_laws.specs.grammar.WrittenStreams.{written_stream}
use Rattle.ipc_format_laws.specs.Contents.{AreThoseOf, schema_read, Sent, dictionary, batch, IsOfSent, sent_after, BringsFew}
use Rattle.ipc_format_laws.specs.Schemas.{HasTexts, ids_read}
use Rattle.ipc_format_laws.proofs.Places.{window_stands}
use Rattle.ipc_format_laws.proofs.StreamContents.{streams_read_back}
use Rattle.ipc_format_laws.proofs.StreamReaders.{passed}
use Rattle.ipc_format_reading_laws.specs.StoredColumns.{StoredColumnsReadBack}
use Rattle.ipc_format_reading_laws.specs.StoredTables.{stored_chunks, read_slots, read_batches, HoldsBatches, StoredStreamsReadBack}
use Rattle.ipc_format_reading_laws.proofs.StoredGivenLists.{Each, AreEach}
use Rattle.ipc_format_reading_laws.proofs.StoredGivenBrought.{given_of}
use Rattle.ipc_format_reading_laws.proofs.StoredGivenFits.{ids_are_read}
use Rattle.ipc_format_reading_laws.proofs.StoredGivenFold.{onto, Along, IsReady, Behind, dictionaries_read}
use Rattle.ipc_format_reading_laws.proofs.StoredGivenReady.{brought_of, given_brought_of, AgreePairs, agree_pairs, each_onto, ready_of}
use Rattle.ipc_format_reading_laws.proofs.StoredGivenStanding.{as_read, StandsIn}
use Rattle.ipc_format_reading_laws.proofs.StoredTablesBatches.{IsBatch, batch_reads, batch_then}
use Rattle.ipc_format_reading_laws.proofs.StoredTablesBelong.{asked_of, batches_same, are_batches, all_bring_few}
use Rattle.ipc_format_reading_laws.proofs.StoredTablesEntries.{IsSent}
use Rattle.ipc_format_reading_laws.proofs.StoredTablesNormal.{normal_again}

-- ---- the entries of a stream

whole_window : (bytes : List ℕ) → window_at bytes 0 (length bytes) ≡ Some bytes
whole_window bytes = window_stands (length bytes) refl (record { before = []; after = []; whole = sym (append-nil bytes); at = refl })

body_is : (bytes body : List ℕ) → bytes ≡ body → window_at bytes 0 (length body) ≡ Some body
body_is bytes body e = ap (λ (room : List ℕ). window_at room 0 (length body)) e ∙ whole_window body

entries_of : (sent : List Sent) (messages : List Framed) → AreThoseOf IsOfSent sent messages
    → AreEach IsSent sent (map (stream_entry V5) messages)
entries_of [] [] are = tt
entries_of [] (message ∷ messages) are = absurd are
entries_of (next ∷ sent) [] are = absurd are
entries_of (dictionary given ∷ sent) (message ∷ messages) are = (
  record {
    metadata = ap (λ (w : Written). w.metadata) are.0.written;
    version = refl;
    body = body_is message.body _ (ap (λ (w : Written). w.body) are.0.written);
    table = are.0.table;
    header = are.0.header;
    has_table = are.0.has_table;
  },
  entries_of sent messages are.1,
)
entries_of (batch its_batch ∷ sent) (message ∷ messages) are = (
  record {
    metadata = ap (λ (w : Written). w.metadata) are.0.written;
    version = refl;
    body = body_is message.body _ (ap (λ (w : Written). w.body) are.0.written);
    table = are.0.table;
    header = are.0.header;
    has_table = are.0.has_table;
  },
  entries_of sent messages are.1,
)

-- ---- batches one after another

-- each agrees with itself: of one id its dictionaries say the same
abbrev pub Agreed : IdsList → List Column → Type 0
Agreed below cs = AgreePairs (given_of_stored below cs)

module _ (stored : StoredColumnsReadBack) (layout : Layout) (us : List Field) (little : layout.is_little_endian ≡ true)
    (fields : layout.fields ≡ map normalised_field us) where
  pub batch_step : (written : List Given) (cs : List Column) (sent : List Sent) (batches : List (List (List Slot))) (entries : List Entry)
      → IsBatch us layout.below cs → Each (StandsIn written) (given_of_stored layout.below cs)
      → ((others : List Entry) → AreEach IsSent sent others → batches_of layout (map as_read written) others ≡ Some batches)
      → AreEach IsSent (batch (batch_of_stored layout.below cs) ∷ sent) entries
      → batches_of layout (map as_read written) entries ≡ Some (map read_slots cs ∷ batches)
  batch_step written cs sent batches [] its stand rest are = absurd are
  batch_step written cs sent batches (entry ∷ others) its stand rest are =
      batch_then layout (map as_read written) entry others are.0.table (map read_slots cs) batches are.0.header
      (batch_reads stored layout us written cs entry little fields its are.0 stand) (rest others are.1)

  -- the dictionaries of a batch, and what is sent behind them
  pub batch_dictionaries : (before written : List Given) (cs : List Column) (sent : List Sent) (entries : List Entry)
      → Along (IsReady (map normalised_field us) layout.below) before (brought_of layout.below cs) → Each (StandsIn written) before
      → AreEach IsSent (map dictionary (to_write written (given_of_stored layout.below cs)) ++ sent) entries
      → Behind layout written (written_after written (given_of_stored layout.below cs)) (onto before (brought_of layout.below cs)) sent entries
  batch_dictionaries before written cs sent entries ready stand are =
      let bs = brought_of layout.below cs in
      let it : Along (IsReady layout.fields layout.below) before bs =
      subst (λ (all : List Field). Along (IsReady all layout.below) before bs) (sym fields) ready in
      subst (λ (given : List Given). AreEach IsSent (map dictionary (to_write written given) ++ sent) entries
      → Behind layout written (written_after written given) (onto before bs) sent entries) (given_brought_of layout.below cs)
      (dictionaries_read stored layout little before written bs sent entries it stand) are

  pub all_stand : (now before : List Given) (cs : List Column) → Each (StandsIn now) (onto before (brought_of layout.below cs))
      → Each (StandsIn now) (given_of_stored layout.below cs)
  all_stand now before cs stand = subst (λ (given : List Given). Each (StandsIn now) given) (given_brought_of layout.below cs)
      (each_onto (StandsIn now) before (brought_of layout.below cs) stand)

  stream_reads : (written : List Given) (batches : List (List Column)) (entries : List Entry) → Each (IsBatch us layout.below) batches
      → Each (Agreed layout.below) batches → AreEach IsSent (sent_after written (map (batch_of_stored layout.below) batches)) entries
      → batches_of layout (map as_read written) entries ≡ Some (read_batches batches)
  unfolding batch_of_stored
  stream_reads written [] [] its agreed are = refl
  stream_reads written [] (entry ∷ entries) its agreed are = absurd are
  stream_reads written (cs ∷ batches) entries its agreed are =
      let bs = brought_of layout.below cs in
      let given = given_of_stored layout.below cs in
      let now = written_after written given in
      let sent = batch (batch_of_stored layout.below cs) ∷ sent_after now (map (batch_of_stored layout.below) batches) in
      let pairs : AgreePairs (map given_of bs) = subst AgreePairs (sym (given_brought_of layout.below cs)) agreed.0 in
      let behind = batch_dictionaries [] written cs sent entries (ready_of us layout.below cs [] its.0.columns tt pairs) tt are in
      behind.reads ∙ batch_step now cs (sent_after now (map (batch_of_stored layout.below) batches)) (read_batches batches) behind.others its.0
      (all_stand now [] cs behind.stand) (λ (others : List Entry) they. stream_reads now batches others its.1 agreed.1 they) behind.are

-- ---- what bytes hold

-- the layout of columns under the one form of a schema
abbrev pub layout_with : Schema → IdsList → Layout
layout_with schema below = record { fields = schema.fields; below = below; is_little_endian = true }

abbrev found_with : Schema → IdsList → SchemaIn
found_with schema below = record { schema = schema; ids = below; is_little_endian = true }

-- what some contents hold, whose batches are read under the one form of a schema
pub holds_batches : (form : Form) (bytes : List ℕ) (schema : Schema) (below : IdsList) (entries : List Entry) (batches : List (List (List Slot)))
    → HasTexts schema → ids_read schema below ≡ below → length (rows_of_batches batches) < 2 ^ 64
    → contents_of form bytes ≡ Some (record { schema = schema_read schema below; entries = entries })
    → batches_of (layout_with (normalised schema) below) [] entries ≡ Some batches → HoldsBatches form bytes schema batches
unfolding batches_in table_of
holds_batches form bytes schema below entries batches texts its_ids small contents read =
    let again : normalised (normalised schema) ≡ normalised schema = normal_again schema texts in
    let layout : layout_of (schema_read schema below) ≡ layout_with (normalised schema) below = ap₂ layout_with again its_ids in
    let reads : batches_of (layout_of (schema_read schema below)) [] entries ≡ Some batches =
    ap (λ (l : Layout). batches_of l [] entries) layout ∙ read in
    let fits : nat_lt (length (rows_of_batches batches)) (2 ^ 64) ≡ true = lt-ltb (length (rows_of_batches batches)) (2 ^ 64) small in
    record { in_batches = rw (contents, reads) refl; as_table = rw (contents, reads, fits, again) refl }

-- ---- the law

agreed_of : (below : IdsList) (batches : List (List Column))
    → list_all (λ (its_batch : Batch). agree its_batch.given) (map (batch_of_stored below) batches) ≡ true → Each (Agreed below) batches
unfolding batch_of_stored
agreed_of below [] h = tt
agreed_of below (cs ∷ batches) h =
    let parts = and_parts (agree (given_of_stored below cs))
    (list_all (λ (its_batch : Batch). agree its_batch.given) (map (batch_of_stored below) batches)) h in
    (agree_pairs (given_of_stored below cs) parts.0, agreed_of below batches parts.1)

-- what is asked of a stream that is written
record WasAsked (schema : Schema) (below : IdsList) (batches : List (List Column)) : Type 0 where
  is : is_written_with schema below ≡ true
  belong : list_all (belongs schema below) (stored_chunks batches) ≡ true
  agreed : list_all (λ (its_batch : Batch). agree its_batch.given) (map (batch_of_stored below) batches) ≡ true

was_asked : (schema : Schema) (below : IdsList) (batches : List (List Column)) (bytes : List ℕ)
    → written_stream schema below (stored_chunks batches) ≡ Some bytes → WasAsked schema below batches
unfolding written_stream
was_asked schema below batches bytes e =
    let chunks = stored_chunks batches in
    let all = batches_written schema below chunks in
    let asked = passed (is_written_with schema below) _ bytes e in
    let belong = passed (list_all (belongs schema below) chunks) _ bytes asked.1 in
    let agreed = passed (list_all (λ (its_batch : Batch). agree its_batch.given) all) _ bytes belong.1 in
    record {
      is = asked.0;
      belong = belong.0;
      agreed = subst (λ (them : List Batch). list_all (λ (its_batch : Batch). agree its_batch.given) them ≡ true)
          (batches_same schema below batches) agreed.0;
    }

pub stored_streams : StoredColumnsReadBack → StoredStreamsReadBack
unfolding normalised
stored_streams stored schema below batches bytes behind e texts small =
    let was = was_asked schema below batches bytes e in
    let asked = asked_of schema below was.is in
    let its = are_batches schema below batches asked.fit was.belong in
    let same = batches_same schema below batches in
    let few : All BringsFew (batches_written schema below (stored_chunks batches)) =
    subst (λ (them : List Batch). All BringsFew them) (sym same) (all_bring_few schema below batches asked.writable its) in
    let holds = streams_read_back schema below (stored_chunks batches) bytes behind e texts few in
    let later : AreThoseOf IsOfSent (sent_after [] (map (batch_of_stored below) batches)) holds.messages.later =
    subst (λ (them : List Batch). AreThoseOf IsOfSent (sent_after [] them) holds.messages.later) same holds.later in
    let layout = layout_with (normalised schema) below in
    let entries = map (stream_entry V5) holds.messages.later in
    let read : batches_of layout [] entries ≡ Some (read_batches batches) =
    stream_reads stored layout schema.fields refl refl [] batches entries its (agreed_of below batches was.agreed)
    (entries_of (sent_after [] (map (batch_of_stored below) batches)) holds.messages.later later) in
    holds_batches stream (bytes ++ behind) schema below entries (read_batches batches) texts (ids_are_read schema.fields below asked.fit) small
    holds.contents read
