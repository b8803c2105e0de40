-- How many buffers are read of a record batch (Arrow IPC, "RecordBatch message").
use Rattle.std.specs.Prelude.{◌≡◌, ◌+◌, ◌≤◌, ◌<◌, ℕ, Bool, true, List, length, Option, Some, None, Result, Ok, Err}
use Rattle.std.specs.List.{list_all}
use Rattle.ipc_format_reading.specs.array_reading.column_writing.column_reading.column_bytes.streams.Queues.{fits_by}
use Rattle.ipc_format_reading.specs.columnar_memory.declared.Error.{Error}
use Rattle.ipc_format_reading.specs.flatbuffers.FlatBuffers.{TablePlace}
use Rattle.ipc_format_reading.specs.flatbuffers.Reading.{◌>>=◌}
use Rattle.ipc_format_reading.specs.grammar.Messages.{Buffer, as_buffer, natural, record_batch_in, structs_in}

-- A call that takes so many buffers off a queue takes a step for each of them; where it is refused, it has taken no more steps than the queue
-- had buffers.
abbrev pub CountsTaken : {A : Type 0} → ℕ → ℕ → ℕ → ℕ → Result A Error → Type 0
CountsTaken count had old new (Ok found) = (count ≤ had) × (new ≡ old + count)
CountsTaken count had old new (Err error) = (old ≤ new) × (new ≤ old + had)

-- the buffers that a batch states, where all of them stand in its message
abbrev pub stated_buffers : List ℕ → TablePlace → Option (List Buffer)
stated_buffers bytes table = do
  batch ← record_batch_in bytes table
  structs_in as_buffer bytes batch.buffers

-- each of some buffers states a number of bytes, and no more than a room has
abbrev pub are_within : ℕ → List Buffer → Bool
are_within size buffers = list_all (λ buffer. fits_by size (natural buffer.length)) buffers

-- Each step is a buffer that a batch states: there are no more steps than such buffers, and where there is one, no buffer states more bytes than
-- the room has. Where no buffers stand in the message, there is no step.
abbrev pub AreStated : ℕ → Option (List Buffer) → ℕ → ℕ → Type 0
AreStated size None old new = new ≡ old
AreStated size (Some buffers) old new = (old ≤ new) × (new ≤ old + length buffers) × (old < new → are_within size buffers ≡ true)
