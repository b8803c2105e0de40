-- How many bytes the buffers of a batch state.
use Rattle.std.specs.Prelude.{◌≡◌, ℕ, List, Option, ◌≤◌, ◌^◌, Some}
use Rattle.ipc_format_metadata.specs.flatbuffers.Reading.{◌>>=◌}
use Rattle.ipc_format_metadata.specs.flatbuffers.FlatBuffers.{Vector}
use Rattle.ipc_format_metadata.specs.grammar.Messages.{struct_at, natural}

-- how many bytes buffer k states; a negative number is none
unfoldable pub length_at : List ℕ → Vector → ℕ → Option ℕ
length_at bytes buffers k = do
  buffer ← struct_at bytes buffers k
  natural buffer.second

-- there is no such sum, or it has more than 64 bits
abbrev pub IsNoneOrLong : Option ℕ → Type 0
IsNoneOrLong total = (n : ℕ) → total ≡ Some n → 2 ^ 64 ≤ n
