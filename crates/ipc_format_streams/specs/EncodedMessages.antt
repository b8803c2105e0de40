-- Encoded messages as they are written to a device (Arrow IPC, "Encapsulated message format").
use Rattle.std.specs.Prelude.{◌≡◌, ℕ, ◌+◌, ◌-◌, ◌<◌, ℤ, Bool, List, ◌++◌, length, replicate, Option, Result, Ok, Err}
use Rattle.std.specs.Int.{w32, next_multiple_of, to_le_bytes, cast_unsigned}
use Rattle.std.specs.Io.KnownBytes.{Appends, Keeps}
use Rattle.ipc_format_values.specs.columnar_memory.declared.Error.{Error}
use Rattle.ipc_format_values.specs.columnar_memory.declared.Error.TheVariants as errors
use Rattle.ipc_format_values.specs.grammar.WrittenMessages.{continuation_marker, framed, most_metadata, padded_buffer, prefix_size}
use Rattle.ipc_format_streams.specs.Devices.{AppendsBeginning, IsRefusedWrite}

-- the metadata of a message is a whole number of eights of bytes, with zeros behind it
abbrev pub padded_metadata : List ℕ → List ℕ
padded_metadata bytes = bytes ++ replicate (next_multiple_of (length bytes) 8 - length bytes) 0

-- the bytes of a message of some metadata and some buffers
abbrev pub encoded_bytes : List ℕ → List ℕ → List ℕ
encoded_bytes metadata body = framed (padded_metadata metadata) (padded_buffer body)

-- how many bytes its prefix and its metadata take, and how many its body
abbrev pub encoded_sizes : List ℕ → List ℕ → ℕ × ℕ
encoded_sizes metadata body = (prefix_size + length (padded_metadata metadata), length (padded_buffer body))

-- the continuation marker, and a length
abbrev pub prefix_bytes : ℕ → List ℕ
prefix_bytes length = continuation_marker ++ to_le_bytes w32 length

-- the same of a signed length
abbrev pub continuation_bytes : ℤ → List ℕ
continuation_bytes length = prefix_bytes (cast_unsigned w32 length)

-- Bytes are appended, and this is answered, and the device has failed as often as before; or it refused, and a beginning of them is.
abbrev pub Writes : {A : Type 0} → Result A Error → A → Bool → ℕ → ℕ → Option (List ℕ) → Option (List ℕ) → List ℕ → Type 0
Writes (Ok answer) given in_memory before after old new bytes = (answer ≡ given) × (after ≡ before) × Appends old new bytes
Writes (Err error) given in_memory before after old new bytes = IsRefusedWrite in_memory before after error × AppendsBeginning old new bytes

-- An encoded message is written, and how many bytes its parts take is answered. Where its metadata is past the limit, that is an overflow,
-- and nothing is written.
abbrev pub WritesEncoded : Result (ℕ × ℕ) Error → Bool → ℕ → ℕ → Option (List ℕ) → Option (List ℕ) → List ℕ → List ℕ → Type 0
WritesEncoded (Err errors.Overflow) in_memory before after old new metadata body =
    (most_metadata < prefix_size + length (padded_metadata metadata)) × Keeps old new
WritesEncoded result in_memory before after old new metadata body =
    Writes result (encoded_sizes metadata body) in_memory before after old new (encoded_bytes metadata body)
