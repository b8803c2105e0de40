-- What a stream says before its batches (Arrow IPC, "IPC Streaming Format", "Schema message").
use Rattle.std.specs.Prelude.{◌≡◌, ◌⊎◌, ℕ, ◌<◌, ◌≤◌, Bool, true, false, List, drop, codes, Option, Some, None, Result, Ok, Err}
use Rattle.ipc_format_values.specs.columnar_memory.Error.{IsOutOfMemory}
use Rattle.ipc_format_values.specs.columnar_memory.declared.Error.{Error}
use Rattle.ipc_format_values.specs.columnar_memory.declared.Error.TheVariants as errors
use Rattle.ipc_format_values.specs.flatbuffers.Reading.{◌>>=◌}
use Rattle.ipc_format_values.specs.grammar.Framing.{first_of}
use Rattle.ipc_format_values.specs.grammar.Messages.{Version, version_in}
use Rattle.ipc_format_values.specs.grammar.Refusals.{HasFloat}
use Rattle.ipc_format_values.specs.grammar.Schemas.{SchemaIn}
use Rattle.ipc_format_values.specs.grammar.Tables.{schema_of, stream}
use Rattle.ipc_format_values.specs.messages.MessageViews.{version_view}
use Rattle.ipc_format_values.specs.metadata.SchemaViews.{schema_view}
use Rattle.ipc_format_values.specs.metadata.Names.{IsNamed}
use Rattle.ipc_format_values.specs.metadata.Steps.{schema_message_in}
use Rattle.ipc_format_streams.specs.Incoming.{ForLeft}
use Rattle.ipc_format_streams.specs.declared.stream_metadata.StreamMetadata.{StreamMetadata}

-- a schema, and the version by which the unions of all batches lie
pub record Start : Type 0 where
  pub version : Version
  pub schema : SchemaIn

abbrev pub start_view : StreamMetadata → Start
start_view metadata = record { version = version_view metadata.version; schema = schema_view (metadata.schema, metadata.ipc_schema) }

-- what the metadata of a message says
abbrev pub start_of_message : List ℕ → Option Start
start_of_message metadata = do
  version ← version_in metadata
  found ← schema_message_in metadata
  Some (record { version = version; schema = found })

-- what the first message of a stream says, and the place behind it
abbrev pub start_in : List ℕ → Option (Start × ℕ)
start_in bytes = do
  first ← first_of bytes
  version ← version_in first.0.metadata
  found ← schema_of first.0 first.0.header
  Some (record { version = version; schema = found }, first.1)

-- the bytes begin with a message that says this, and what stands behind it is left
abbrev pub StartsAs : Option (List ℕ) → Start → List ℕ → Type 0
StartsAs left_after start bytes = (place : ℕ) × (start_in bytes ≡ Some (start, place)) × (left_after ≡ Some (drop place bytes))

-- The first message of the bytes that are left says this. It is out of specification exactly where the format gives nothing, and not
-- implemented where a float stands in the schema; else the device refused, or memory ran out.
abbrev pub ReadsStart : Option (List ℕ) → Option (List ℕ) → Result StreamMetadata Error → Type 0
ReadsStart left left_after (Ok metadata) = ForLeft left (StartsAs left_after (start_view metadata))
ReadsStart left left_after (Err (errors.OutOfSpec text)) = ForLeft left (λ bytes. start_in bytes ≡ None)
ReadsStart left left_after (Err (errors.NotYetImplemented text)) = ForLeft left (λ bytes. (start_in bytes ≡ None) × HasFloat stream bytes)
ReadsStart left left_after (Err (errors.Io what)) = Unit {0}
ReadsStart left left_after (Err errors.OutOfMemory) = Unit {0}
ReadsStart left left_after (Err _) = ⊥

-- Why a device refused to read, which is memory alone or is not, had failed so often before the call, and so often after it. Memory refuses for
-- want of memory alone. Of another device `Io` says that it failed in the call, `OutOfSpec` by a text of its own that it refused without a failure
-- or that its count fell, and `OutOfMemory` that it had no memory.
abbrev pub IsRefusedRead : Bool → ℕ → ℕ → Error → Type 0
IsRefusedRead true before after error = IsOutOfMemory error
IsRefusedRead false before after (errors.Io what) = before < after
IsRefusedRead false before after (errors.OutOfSpec text) = (after ≤ before) × IsNamed (codes "a read was refused") (errors.OutOfSpec text)
IsRefusedRead false before after errors.OutOfMemory = after ≤ before
IsRefusedRead false before after _ = ⊥

-- What a refusal is called: a device's by why it refused. Another error keeps its name.
abbrev pub IsReadRefusal : Error → Bool → ℕ → ℕ → Error → Type 0
IsReadRefusal (errors.Io what) in_memory before after named = IsRefusedRead in_memory before after named
IsReadRefusal error in_memory before after named = named ≡ error

-- What a call answers whose reads gave a result. It is a success only where the device has failed as often as before; a refusal has its name, and
-- a count that changed is a refusal.
abbrev pub IsReadOutcome : {A : Type 0} → Result A Error → Bool → ℕ → ℕ → Result A Error → Type 0
IsReadOutcome (Ok value) in_memory before after (Ok same) = (same ≡ value) × (after ≡ before)
IsReadOutcome (Ok value) in_memory before after (Err error) = IsRefusedRead in_memory before after error × (after ≡ before → ⊥)
IsReadOutcome (Err error) in_memory before after (Ok value) = ⊥
IsReadOutcome (Err error) in_memory before after (Err named) = IsReadRefusal error in_memory before after named

-- What is read of the first message, where each refusal of the device has its name, and where it fails as often as before if nothing is refused.
abbrev pub IsNamedStart : Option (List ℕ) → Option (List ℕ) → Bool → ℕ → ℕ → Result StreamMetadata Error → Type 0
IsNamedStart left left_after in_memory before after (Ok metadata) = (after ≡ before) × ReadsStart left left_after (Ok metadata)
IsNamedStart left left_after in_memory before after (Err (errors.Io what)) = IsRefusedRead in_memory before after (errors.Io what)
IsNamedStart left left_after in_memory before after (Err (errors.OutOfSpec text)) =
    IsRefusedRead in_memory before after (errors.OutOfSpec text) ⊎ ForLeft left (λ bytes. start_in bytes ≡ None)
IsNamedStart left left_after in_memory before after result = ReadsStart left left_after result
