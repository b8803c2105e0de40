-- What the code that reads a file's footer answers, part by part (Arrow IPC, "IPC File Format").
use Rattle.std.specs.Prelude.{◌≡◌, ◌==◌, ◌≤◌, ℕ, ◌+◌, true, false, List, length, Option, Some, None, IsSomeAnd, nat_le, Result, Ok, Err}
use Rattle.std.specs.Int.{w32}
use Rattle.ipc_format_chunk_writing.specs.Rooms.{ForBytes, Stays, Told}
use Rattle.ipc_format_chunk_writing.specs.columnar_memory.declared.Error.{Error}
use Rattle.ipc_format_chunk_writing.specs.columnar_memory.declared.Error.TheVariants as errors
use Rattle.ipc_format_chunk_writing.specs.flatbuffers.FlatBuffers.{TablePlace, root_of, signed_at, table_field}
use Rattle.ipc_format_chunk_writing.specs.flatbuffers.Reading.{◌>>=◌, guard}
use Rattle.ipc_format_chunk_writing.specs.grammar.Files.{file_mark, footer_bytes_in, stands_at}
use Rattle.ipc_format_chunk_writing.specs.grammar.Messages.{natural}
use Rattle.ipc_format_chunk_writing.specs.grammar.Refusals.{HasFeatherMark, feather_mark}
use Rattle.ipc_format_chunk_writing.specs.grammar.SchemaGrammar.{schema_in}
use Rattle.ipc_format_chunk_writing.specs.grammar.SlotNumbers as slots
use Rattle.ipc_format_chunk_writing.specs.grammar.Tables.{file}
use Rattle.ipc_format_chunk_writing.specs.metadata.Steps.{FloatInSchema}
use Rattle.ipc_format_readers.specs.FileReads.{RefusesOf}
use Rattle.ipc_format_readers.specs.FileStarts.{Start, blocks_in}

-- what a file begins with is its mark, or that of Feather, or another
abbrev pub TestsMark : {A : Type 0} → List ℕ → Result A Error → Type 0
TestsMark mark (Ok done) = stands_at file_mark mark 0 ≡ true
TestsMark mark (Err (errors.NotYetImplemented text)) = (stands_at file_mark mark 0 ≡ false) × (stands_at feather_mark mark 0 ≡ true)
TestsMark mark (Err (errors.OutOfSpec text)) = stands_at file_mark mark 0 ≡ false
TestsMark mark (Err _) = ⊥

-- how many bytes a footer has, by the last ten bytes of a file of so many
abbrev pub footer_size : List ℕ → ℕ → Option ℕ
footer_size tail size = do
  _ ← guard (length tail == 10)
  _ ← guard (stands_at file_mark tail 4)
  stated ← signed_at w32 tail 0
  length ← natural stated
  _ ← guard (nat_le (length + 10) size)
  Some length

abbrev pub SizesFooter : List ℕ → ℕ → Result ℕ Error → Type 0
SizesFooter tail size (Ok found) = (footer_size tail size ≡ Some found) × (found + 10 ≤ size)
SizesFooter tail size (Err (errors.OutOfSpec text)) = footer_size tail size ≡ None
SizesFooter tail size (Err _) = ⊥

-- The footer's bytes are taken, and the file's size is answered; or the file has no footer, or the mark of Feather.
abbrev pub TakesFooter : Told → Told → List ℕ → Result ℕ Error → Type 0
TakesFooter old new footer (Ok size) = Stays old new × ForBytes old (λ bytes. (footer_bytes_in bytes ≡ Some footer) × (size ≡ length bytes))
TakesFooter old new footer (Err error) = RefusesOf old new (HasFeatherMark file) footer_bytes_in error

-- ---- a footer's bytes

-- the place of the schema's table in a footer
abbrev pub schema_place : List ℕ → Option TablePlace
schema_place footer = do
  root ← root_of footer
  found ← table_field footer root slots.footer_schema
  found

-- what the bytes of a footer say
abbrev pub start_of_footer : List ℕ → Option Start
start_of_footer footer = do
  table ← schema_place footer
  lists ← blocks_in footer
  found ← schema_in footer table
  Some (record { schema = found; dictionaries = lists.0; record_batches = lists.1 })

-- a float stands in the schema of a footer
abbrev pub HasFloatIn : List ℕ → Type 0
HasFloatIn footer = IsSomeAnd (schema_place footer) (FloatInSchema footer)
