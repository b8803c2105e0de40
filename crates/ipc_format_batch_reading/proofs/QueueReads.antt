-- What is read at the fronts of a batch's nodes and buffers, in rooms of a stated size.
use Rattle.std.proofs.Common.{◌≡◌, ◌∙◌, ◌==◌, ℕ, Bool, true, false, List, length, refl, sym, ap}
use Rattle.std.specs.Prelude.{Option, Some, None, Result, Ok, Err}
use Rattle.std.proofs.lemmas.Bool.Decides.{Decides-eqb}
use Rattle.ipc_format_reading.specs.Rooms.{ForBytes, IsRefusal, ReadsAs, Stays, Told}
use Rattle.ipc_format_reading.specs.columnar_memory.declared.Error.{Error}
use Rattle.ipc_format_reading.specs.columnar_memory.declared.Error.TheVariants as errors
use Rattle.ipc_format_reading.specs.flatbuffers.FlatBuffers.{TablePlace}
use Rattle.ipc_format_reading.specs.flatbuffers.Reading.{◌>>=◌, guard}
use Rattle.ipc_format_reading.specs.grammar.Columns.{Source}
use Rattle.ipc_format_reading.specs.grammar.Dictionaries.{source_in}
use Rattle.ipc_format_reading.specs.grammar.Messages.{Header, Version}
use Rattle.ipc_format_reading.specs.array_reading.column_writing.column_reading.column_bytes.streams.Queues.{MakesQueues, is_compressed, source_with}
use Rattle.ipc_format_reading.specs.array_reading.column_writing.column_reading.column_bytes.streams.declared.queues.BatchQueues.{BatchQueues}
use Rattle.ipc_format_batch_reading.specs.BatchReads.{entry_in, sized}
use Rattle.ipc_format_batch_reading.proofs.CoveredSchemas.{same_value}

-- ---- rooms of a stated size

-- the bytes of a room, where they are as many as stated
abbrev sized_bytes : ℕ → Option (List ℕ) → Option (List ℕ)
sized_bytes size bytes = bytes >>= (λ room. guard (length room == size) >>= (λ _. Some room))

by_size : (size : ℕ) (bytes room : List ℕ) (test : Bool) → (length bytes == size) ≡ test → (guard test >>= (λ _. Some bytes)) ≡ Some room
    → (Some bytes ≡ Some room) × (length room ≡ size)
by_size size bytes room true is e = (e, ap length (sym (same_value bytes room e)) ∙ (Decides-eqb (length bytes) size).0 is)
by_size size bytes room false is e = absurd cc

sized_room : (size : ℕ) (bytes : Option (List ℕ)) (room : List ℕ) → sized_bytes size bytes ≡ Some room → (bytes ≡ Some room) × (length room ≡ size)
sized_room size None room e = absurd cc
sized_room size (Some bytes) room e = by_size size bytes room (length bytes == size) refl e

sized_stays : (size : ℕ) (old new : Told) → Stays old new → Stays (sized size old) (sized size new)
sized_stays size old new stays = (ap (sized_bytes size) stays.0, stays.1)

sized_refusal : (size : ℕ) (old new : Told) (Cause Other : Type 0) (compressed : Bool) (error : Error) → compressed ≡ false → (Cause → Other)
    → IsRefusal false old new Cause error → IsRefusal compressed (sized size old) (sized size new) Other error
sized_refusal size old new Cause Other compressed (errors.NotYetImplemented what) plain follows refusal = absurd cc
sized_refusal size old new Cause Other compressed (errors.Io what) plain follows refusal = (plain, refusal.1)
sized_refusal size old new Cause Other compressed errors.OutOfMemory plain follows refusal = plain
sized_refusal size old new Cause Other compressed (errors.OutOfSpec what) plain follows refusal = (plain, follows refusal.1)
sized_refusal size old new Cause Other compressed (errors.InvalidArgumentError what) plain follows refusal = absurd refusal
sized_refusal size old new Cause Other compressed (errors.ExternalFormat what) plain follows refusal = absurd refusal
sized_refusal size old new Cause Other compressed (errors.External from what) plain follows refusal = absurd refusal
sized_refusal size old new Cause Other compressed errors.Overflow plain follows refusal = absurd refusal

-- ---- at the fronts of queues

-- what is given by the batch of a message
abbrev given_by : {B : Type 0} → Bool → List ℕ → Header → Version → ℕ → TablePlace → (Source → Option B) → List ℕ → Option B
given_by little metadata header version origin table next room = source_in little (entry_in metadata header version origin room) table >>= next

-- a batch without queues
pub queues_refused : {A B : Type 0} (metadata : List ℕ) (table : TablePlace) (size : ℕ) (told : Told) (little : Bool) (header : Header)
    (version : Version) (origin : ℕ) (next : Source → Option B) (view : A → B) (error : Error) → MakesQueues metadata table size (Err error)
    → ReadsAs (is_compressed metadata table) (sized size told) (sized size told) view (given_by little metadata header version origin table next)
    (Err error)
queues_refused metadata table size told little header version origin next view (errors.NotYetImplemented what) made = made
queues_refused metadata table size told little header version origin next view (errors.OutOfSpec what) made = (
  made.0,
  λ room known. ap (λ (source : Option Source). source >>= next)
      (made.1 little (entry_in metadata header version origin room) refl (sized_room size told.bytes room known).1),
)
queues_refused metadata table size told little header version origin next view errors.OutOfMemory made = made
queues_refused metadata table size told little header version origin next view (errors.Io what) made = absurd made
queues_refused metadata table size told little header version origin next view (errors.InvalidArgumentError what) made = absurd made
queues_refused metadata table size told little header version origin next view (errors.ExternalFormat what) made = absurd made
queues_refused metadata table size told little header version origin next view (errors.External from what) made = absurd made
queues_refused metadata table size told little header version origin next view errors.Overflow made = absurd made

-- what is read of a batch is what is read of its queues
pub queues_read : {A B : Type 0} (metadata : List ℕ) (table : TablePlace) (size : ℕ) (old new : Told) (little : Bool) (header : Header)
    (version : Version) (origin : ℕ) (queues : BatchQueues) (next : Source → Option B) (view : A → B) (r : Result A Error)
    → MakesQueues metadata table size (Ok queues)
    → ReadsAs false old new view (λ room. next (source_with queues little (entry_in metadata header version origin room))) r
    → ReadsAs (is_compressed metadata table) (sized size old) (sized size new) view (given_by little metadata header version origin table next) r
queues_read metadata table size old new little header version origin queues next view (Ok found) made read = (
  made.0,
  sized_stays size old new read.1,
  λ room known. ap (λ (source : Option Source). source >>= next)
      (made.1 little (entry_in metadata header version origin room) refl (sized_room size old.bytes room known).1)
      ∙ read.2 room (sized_room size old.bytes room known).0,
)
queues_read metadata table size old new little header version origin queues next view (Err error) made read =
    sized_refusal size old new
    (ForBytes old (λ room. next (source_with queues little (entry_in metadata header version origin room)) ≡ None))
    (ForBytes (sized size old) (λ room. given_by little metadata header version origin table next room ≡ None)) (is_compressed metadata table) error
    made.0
    (λ none room known. ap (λ (source : Option Source). source >>= next)
    (made.1 little (entry_in metadata header version origin room) refl (sized_room size old.bytes room known).1)
    ∙ none room (sized_room size old.bytes room known).0) read
