-- What a stream holds that was written of a schema and of batches.
use Rattle.std.proofs.Common.{◌≡◌, ℕ, ◌<◌, ◌^◌, true, ◌&&◌, List, [], ◌∷◌, ◌++◌, length, map, refl, ap, subst, ◌∙◌, arith}
use Rattle.std.specs.Prelude.{Some}
use Rattle.std.specs.List.{All, list_all}
use Rattle.std.proofs.lemmas.List.Elements.{All-head, All-tail, All-nil, All-cons}
use Rattle.ipc_format_grammar.specs.flatbuffers.Objects.{laid}
use Rattle.ipc_format_grammar.specs.columnar_memory.declared.Schema.{Schema}
use Rattle.ipc_format_grammar.specs.Messages as grammar
use Rattle.ipc_format_grammar.specs.Messages.{V5}
use Rattle.ipc_format_grammar.specs.Schemas.{IdsList}
use Rattle.ipc_format_grammar.specs.SchemaObjects.{schema_message}
use Rattle.ipc_format_grammar.specs.Writable.{is_writable, normalised}
use Rattle.ipc_format_grammar.specs.Framing.{Framed, Stream, messages_of}
use Rattle.ipc_format_grammar.specs.Tables.{stream, stream_entry, contents_of}
use Rattle.ipc_format_grammar.specs.GivenDictionaries.{agree}
use Rattle.ipc_format_grammar.specs.Ids.{ids_fit_fields, all_are_ids}
use Rattle.ipc_format_grammar.specs.WrittenMessages.{Written, fits_limit, end_mark, schema_written}
use Rattle.ipc_format_grammar.specs.WrittenStreams.{Batch, Chunk, messages_after, stream_messages, bytes_of_messages, stream_bytes}
use Rattle.ipc_format_grammar.specs.WrittenStreams.{written_stream, batch_of, batches_written, belongs, is_written_with, is_in_room}
use Rattle.ipc_format_grammar.specs.WrittenStreams.{are_columns_of, are_equal, chunk_lengths}
use Rattle.ipc_format_laws.specs.BatchMessages.{IsMessage}
use Rattle.ipc_format_laws.specs.Schemas.{HasTexts, FitIdsList, IsSchema, ids_read}
use Rattle.ipc_format_laws.proofs.SchemaParts.{both}
use Rattle.ipc_format_laws.proofs.SchemaMessages.{schemas_read_back}
use Rattle.ipc_format_laws.specs.Messages.{as_written, all_written}
use Rattle.ipc_format_laws.specs.Contents.{schema_read, HoldsStream, AreThoseOf, IsOfSent, sent_after, BringsFew, StreamsReadBack}
use Rattle.ipc_format_laws.proofs.StreamReaders.{passed}
use Rattle.ipc_format_laws.proofs.StreamMessages.{messages_read_back}
use Rattle.ipc_format_laws.proofs.LaterMessages.{has_room, ReadLater}
use Rattle.ipc_format_laws.proofs.Room.{HasRoomForColumns, has_room_for_columns, fit_ids_list}
use Rattle.ipc_format_laws.proofs.GivenIds.{batch_ids}
use Rattle.ipc_format_laws.proofs.SentMessages.{sent_read}

-- what is known of a stream that is written of batches
pub record IsWritten (schema : Schema) (below : IdsList) (batches : List Batch) (stream : List ℕ) : Type 0 where
  pub is_writable : is_writable schema ≡ true
  pub fit : FitIdsList below
  pub first : fits_limit (schema_written schema below) ≡ true
  pub later : list_all fits_limit (messages_after [] batches) ≡ true
  pub bytes : bytes_of_messages (stream_messages schema below batches) ++ end_mark ≡ stream

-- what is known of chunks of which one is written
pub record WasWritten (schema : Schema) (below : IdsList) (chunks : List Chunk) (stream : List ℕ) : Type 0 where
  pub is : IsWritten schema below (batches_written schema below chunks) stream
  pub ids : all_are_ids below ≡ true
  pub belong : list_all (belongs schema below) chunks ≡ true

pub was_written : (schema : Schema) (below : IdsList) (chunks : List Chunk) (bytes : List ℕ) → written_stream schema below chunks ≡ Some bytes
    → WasWritten schema below chunks bytes
unfolding written_stream stream_messages stream_bytes
was_written schema below chunks bytes e =
    let batches = batches_written schema below chunks in
    let asked = passed (is_written_with schema below) _ bytes e in
    let belong = passed (list_all (belongs schema below) chunks) _ bytes asked.1 in
    let agreed = passed (list_all (λ (batch : Batch). agree batch.given) batches) _ bytes belong.1 in
    let fit = passed (list_all fits_limit (stream_messages schema below batches)) _ bytes agreed.1 in
    let tests = both (fits_limit (schema_written schema below)) (list_all fits_limit (messages_after [] batches)) fit.0 in
    let schema_is = both (is_writable schema && ids_fit_fields schema.fields below) (all_are_ids below) asked.0 in
    record {
      is = record {
        is_writable = (both (is_writable schema) (ids_fit_fields schema.fields below) schema_is.0).0;
        fit = fit_ids_list below schema_is.1;
        first = tests.0;
        later = tests.1;
        bytes = cc;
      };
      ids = schema_is.1;
      belong = belong.0;
    }

-- the schema's message, as it is read
abbrev schema_bytes : Schema → IdsList → List ℕ
schema_bytes schema below = laid (schema_message schema below)

abbrev ReadSchema : Schema → IdsList → Type 0
ReadSchema schema below = IsMessage (schema_bytes schema below) grammar.schema 0
    (IsSchema (schema_bytes schema below) (normalised schema) (ids_read schema below))

schema_reads : (schema : Schema) (below : IdsList) → is_writable schema ≡ true → HasTexts schema → FitIdsList below
    → fits_limit (schema_written schema below) ≡ true → (length (schema_bytes schema below) < 2 ^ 31) × ReadSchema schema below
unfolding schema_written
schema_reads schema below writable texts fit limit =
    let room = has_room (schema_written schema below) limit in
    (room.metadata, schemas_read_back schema below writable texts fit (omega (arith, room.metadata)))

-- the schema's message and those behind it
abbrev messages_with : (schema : Schema) (below : IdsList) → ReadSchema schema below → List Framed → Stream
messages_with schema below first later =
    record { first = record { metadata = schema_bytes schema below; header = grammar.schema first.header_at; body = [] }; later = later }

all_are_written : (schema : Schema) (below : IdsList) (batches : List Batch) (first : ReadSchema schema below) (later : List Framed)
    → map as_written later ≡ messages_after [] batches
    → all_written (messages_with schema below first later) ≡ stream_messages schema below batches
unfolding schema_written stream_messages
all_are_written schema below batches first later written = ap (λ (ms : List Written). schema_written schema below ∷ ms) written

contents_are : (bytes : List ℕ) (schema : Schema) (below : IdsList) (first : ReadSchema schema below) (later : List Framed)
    → messages_of bytes ≡ Some (messages_with schema below first later)
    → contents_of stream bytes ≡ Some (record { schema = schema_read schema below; entries = map (stream_entry V5) later })
unfolding contents_of
contents_are bytes schema below first later read = rw (read, first.version, first.header) refl

-- a stream that is written is read, where the messages behind its schema's are
pub stream_holds : (schema : Schema) (below : IdsList) (batches : List Batch) (AreLater : List Framed → Type 0) (bytes behind : List ℕ)
    → IsWritten schema below batches bytes → HasTexts schema
    → (list_all fits_limit (messages_after [] batches) ≡ true → ReadLater 0 (messages_after [] batches) AreLater)
    → HoldsStream (bytes ++ behind) schema below batches AreLater
stream_holds schema below batches AreLater bytes behind written texts read_later =
    let first = schema_reads schema below written.is_writable texts written.fit written.first in
    let later = read_later written.later in
    let messages = messages_with schema below first.1 later.messages in
    let all = all_are_written schema below batches first.1 later.messages later.are_written in
    let same : bytes_of_messages (all_written messages) ++ end_mark ++ behind ≡ bytes ++ behind =
    ap (λ (ms : List Written). bytes_of_messages ms ++ end_mark ++ behind) all
    ∙ ap (λ (xs : List ℕ). xs ++ behind) written.bytes in
    let read : messages_of (bytes ++ behind) ≡ Some messages = subst (λ (b : List ℕ). messages_of b ≡ Some messages) same
    (messages_read_back messages behind (record {
      begins = tt;
      first = record { tells = first.1.message; is_short = first.0 };
      later = later.readable;
      in_a_row = later.follow;
    })) in
    record {
      messages = messages;
      read = read;
      written = all;
      later = later.are_later;
      contents = contents_are (bytes ++ behind) schema below first.1 later.messages read;
    }

-- ---- batches of chunks

-- batches have room that belong to a schema and bring few dictionaries
rooms : (schema : Schema) (below : IdsList) (chunks : List Chunk) → all_are_ids below ≡ true → list_all (belongs schema below) chunks ≡ true
    → All BringsFew (batches_written schema below chunks) → All HasRoomForColumns (batches_written schema below chunks)
unfolding belongs
rooms schema below [] ids belong few = All-nil HasRoomForColumns
rooms schema below (chunk ∷ chunks) ids belong few =
    let batch = batch_of schema.fields below chunk in
    let batches = batches_written schema below chunks in
    let tests = both (belongs schema below chunk) (list_all (belongs schema below) chunks) belong in
    let is_in = both (are_columns_of schema.fields chunk && are_equal (chunk_lengths chunk)) (is_in_room batch) tests.0 in
    All-cons HasRoomForColumns batch batches
    (has_room_for_columns batch is_in.1 (batch_ids schema.fields below chunk ids) (All-head BringsFew batch batches few))
    (rooms schema below chunks ids tests.1 (All-tail BringsFew batch batches few))

pub streams_read_back : StreamsReadBack
streams_read_back schema below chunks bytes behind e texts few =
    let batches = batches_written schema below chunks in
    let was = was_written schema below chunks bytes e in
    stream_holds schema below batches (AreThoseOf IsOfSent (sent_after [] batches)) bytes behind was.is texts
    (sent_read [] batches (rooms schema below chunks was.ids was.belong few))
