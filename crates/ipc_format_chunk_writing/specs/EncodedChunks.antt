-- The messages of a batch as they are encoded: of the dictionaries that go before it, and of the batch (Arrow IPC, "RecordBatch message",
-- "Dictionary Messages").
use Rattle.std.specs.Prelude.{◌≡◌, ℕ, ℤ, Bool, true, false, ◌&&◌, List, [], map, Option, Some, None, Result, Ok, Err}
use Rattle.std.specs.List.{list_all}
use Rattle.std.specs.declared.alloc.Global.{Global}
use Rattle.std.specs.declared.vec.Vec.{Vec}
use Rattle.ipc_format_batch_reading.specs.Placing.{IsNotEncoded, is_within}
use Rattle.ipc_format_batch_reading.specs.columnar_memory.declared.Error.{Error}
use Rattle.ipc_format_batch_reading.specs.columnar_memory.declared.Error.TheVariants as errors
use Rattle.ipc_format_batch_reading.specs.columns.StoredColumns.{Column}
use Rattle.ipc_format_batch_reading.specs.grammar.Encoding.{Encoded, joined_columns}
use Rattle.ipc_format_batch_reading.specs.grammar.GivenDictionaries.{Given, to_write, written_after}
use Rattle.ipc_format_batch_reading.specs.grammar.Schemas.{IdsList}
use Rattle.ipc_format_batch_reading.specs.grammar.WriterRuns.{may_tell}
use Rattle.ipc_format_batch_reading.specs.grammar.WrittenMessages.{Written, dictionary_message, record_message}
use Rattle.ipc_format_batch_reading.specs.grammar.WrittenStreams.{Batch, batch_of_stored}
use Rattle.ipc_format_batch_reading.specs.streams.declared.EncodedData.{EncodedData}
use Rattle.ipc_format_batch_reading.specs.reading.array_reading.column_writing.declared.Compression.{Compression}
use Rattle.ipc_format_chunk_writing.specs.Tracking.{Tells, form_by}
use Rattle.ipc_format_chunk_writing.specs.Types.{ids_fit_columns}

-- an encoded message as it is written
abbrev pub message_in : EncodedData → Written
message_in encoded = record { metadata = encoded.ipc_message.items; body = encoded.arrow_data.items }

-- ---- one message

-- a message of a column is encoded, which is within its limits; or it is past them, or memory ran out
abbrev pub EncodesMessage : Result (Unit {0}) Error → Written → Encoded → Written → Type 0
EncodesMessage (Ok _) encoded column message = (encoded ≡ message) × (is_within column message ≡ true)
EncodesMessage (Err error) encoded column message = IsNotEncoded error (is_within column message)

abbrev pub EncodesDictionary : Result EncodedData Error → Given → Type 0
EncodesDictionary (Ok encoded) given =
    (message_in encoded ≡ dictionary_message given) × (is_within given.column (dictionary_message given) ≡ true)
EncodesDictionary (Err error) given = IsNotEncoded error (is_within given.column (dictionary_message given))

-- the nodes of a dictionary and its message are within their limits
abbrev pub is_given_within : Given → Bool
is_given_within given = is_within given.column (dictionary_message given)

-- the messages of dictionaries are encoded, which are all within their limits; or one is past them, or memory ran out
abbrev pub EncodesDictionaries : Result (List Written) Error → List Given → Type 0
EncodesDictionaries (Ok messages) given = (messages ≡ map dictionary_message given) × (list_all is_given_within given ≡ true)
EncodesDictionaries (Err error) given = IsNotEncoded error (list_all is_given_within given)

-- ---- a batch

-- so are those of the dictionaries that are written before a batch where some are told, and those of the batch
abbrev pub is_batch_within : List Given → Batch → Bool
is_batch_within told batch =
    list_all is_given_within (to_write told batch.given) && is_within (joined_columns batch.columns) (record_message batch.rows batch.columns)

-- Where some dictionaries are told, the messages of a batch are these: of the dictionaries that are to be written before it, and its own. The
-- tracker is told of these.
pub record IsEncoded (old new : List (ℤ × Column) × Bool) (told : List Given) (batch : Batch) (dictionaries : List Written) (encoded : Written)
    : Type 0 where
  pub may : may_tell (form_by old.1) told batch.given ≡ true
  pub within : is_batch_within told batch ≡ true
  pub sent : dictionaries ≡ map dictionary_message (to_write told batch.given)
  pub own : encoded ≡ record_message batch.rows batch.columns
  pub tells : Tells new.0 (written_after told batch.given)
  pub kind : new.1 ≡ old.1

-- Why a batch is not encoded where some dictionaries are told: two of its dictionaries of one id differ, or one would replace another, which
-- can't be; or a message is past its limits; or memory ran out.
abbrev pub IsBarred : Error → Bool → List Given → Batch → Type 0
IsBarred (errors.InvalidArgumentError what) cannot_replace told batch = may_tell (form_by cannot_replace) told batch.given ≡ false
IsBarred errors.Overflow cannot_replace told batch =
    (may_tell (form_by cannot_replace) told batch.given ≡ true) × (is_batch_within told batch ≡ false)
IsBarred errors.OutOfMemory cannot_replace told batch = Unit {0}
IsBarred _ cannot_replace told batch = ⊥

-- a batch is encoded behind what was told; or it is barred, and the tracker is as it was
abbrev pub EncodesAfter : List (ℤ × Column) × Bool → List (ℤ × Column) × Bool → List Given → Batch → Result (List Written) Error → Written → Type 0
EncodesAfter old new told batch (Ok dictionaries) encoded = IsEncoded old new told batch dictionaries encoded
EncodesAfter old new told batch (Err error) encoded = IsBarred error old.1 told batch × (new ≡ old)

-- the messages of dictionaries
abbrev pub messages_in : List EncodedData → List Written
messages_in encoded = map message_in encoded

-- the same wherever the tracker tells what was told
abbrev pub Encodes : List (ℤ × Column) × Bool → List (ℤ × Column) × Bool → Batch → Result (List Written) Error → Written → Type 0
Encodes old new batch result encoded = (told : List Given) → Tells old.0 told → EncodesAfter old new told batch result encoded

-- ---- a chunk

-- A chunk is encoded with ids that fit its columns. One whose ids don't fit is an invalid argument, and no body is compressed: the tracker is
-- then as it was.
abbrev pub EncodesFitting : Bool → List (ℤ × Column) × Bool → List (ℤ × Column) × Bool → Batch → Result (List Written) Error → Written → Type 0
EncodesFitting true old new batch result encoded = Encodes old new batch result encoded
EncodesFitting false old new batch (Err (errors.InvalidArgumentError what)) encoded = new ≡ old
EncodesFitting false old new batch (Err errors.OutOfMemory) encoded = new ≡ old
EncodesFitting false old new batch _ encoded = ⊥

abbrev pub EncodesChunk : Option Compression → List (ℤ × Column) × Bool → List (ℤ × Column) × Bool → IdsList → List Column
    → Result (List Written) Error → Written → Type 0
EncodesChunk None old new ids columns result encoded =
    EncodesFitting (ids_fit_columns columns ids) old new (batch_of_stored ids columns) result encoded
EncodesChunk (Some compression) old new ids columns (Err (errors.NotYetImplemented what)) encoded = new ≡ old
EncodesChunk (Some compression) old new ids columns _ encoded = ⊥

-- what is answered with the messages of dictionaries in a vector
abbrev pub dictionaries_in : Result (Vec EncodedData Global) Error → Result (List Written) Error
dictionaries_in (Ok dictionaries) = Ok (messages_in dictionaries.items)
dictionaries_in (Err error) = Err error

-- the same with the batch's own message beside them
abbrev pub EncodesBoth : Option Compression → List (ℤ × Column) × Bool → List (ℤ × Column) × Bool → IdsList → List Column
    → Result (Vec EncodedData Global × EncodedData) Error → Type 0
EncodesBoth compression old new ids columns (Ok messages) =
    EncodesChunk compression old new ids columns (Ok (messages_in messages.0.items)) (message_in messages.1)
EncodesBoth compression old new ids columns (Err error) =
    EncodesChunk compression old new ids columns (Err error) (record { metadata = []; body = [] })
