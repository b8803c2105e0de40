-- What is written of a schema, and why one is not.
use Rattle.std.specs.Prelude.{◌≡◌, ℕ, ◌<◌, Bool, true, false, ◌&&◌, Result, Ok, Err}
use Rattle.std.specs.declared.vec.Vec.{Vec}
use Rattle.std.specs.declared.alloc.Global.{Global}
use Rattle.ipc_format_messages.specs.columnar_memory.declared.Error.{Error}
use Rattle.ipc_format_messages.specs.columnar_memory.declared.Error.TheVariants.{NotYetImplemented, InvalidArgumentError, Overflow, OutOfMemory}
use Rattle.ipc_format_messages.specs.columnar_memory.declared.Schema.{Schema}
use Rattle.ipc_format_messages.specs.flatbuffers.declared.LayError.{LayError}
use Rattle.ipc_format_messages.specs.flatbuffers.declared.LayError.TheVariants.{Memory, TooLong}
use Rattle.ipc_format_messages.specs.grammar.Schemas.{IdsList}
use Rattle.ipc_format_messages.specs.grammar.Writable.{is_writable}
use Rattle.ipc_format_messages.specs.grammar.Ids.{ids_fit_fields}
use Rattle.ipc_format_messages.specs.grammar.WrittenMessages.{schema_written, fits_limit}
use Rattle.ipc_format_writing.specs.Floats.{has_float}

-- a schema that is written, with ids that fit it
abbrev pub may_write : Schema → IdsList → Bool
may_write schema ids = is_writable schema && ids_fit_fields schema.fields ids

-- The metadata of the schema's message; or a float stands in the schema; or it breaks another rule, or the ids don't fit; or the message
-- is too long; or memory ran out.
abbrev pub WritesSchema : Result (Vec ℕ Global) Error → Schema → IdsList → Type 0
WritesSchema (Ok bytes) schema ids = (may_write schema ids ≡ true) × (fits_limit (schema_written schema ids) ≡ true) × (bytes.items
    ≡ (schema_written schema ids).metadata)
WritesSchema (Err (NotYetImplemented what)) schema ids = has_float schema ≡ true
WritesSchema (Err (InvalidArgumentError what)) schema ids = (has_float schema ≡ false) × (may_write schema ids ≡ false)
WritesSchema (Err Overflow) schema ids = (may_write schema ids ≡ true) × (fits_limit (schema_written schema ids) ≡ false)
WritesSchema (Err OutOfMemory) schema ids = Unit {0}
WritesSchema (Err _) schema ids = ⊥

-- a float stands in the schema; or it breaks another rule, or the ids don't fit
abbrev pub RefusesSchema : Error → Schema → IdsList → Type 0
RefusesSchema (NotYetImplemented what) schema ids = has_float schema ≡ true
RefusesSchema (InvalidArgumentError what) schema ids = (has_float schema ≡ false) × (may_write schema ids ≡ false)
RefusesSchema _ schema ids = ⊥

-- a message of so many bytes behind its first eight is too long; or memory ran out
abbrev pub IsEndRefusal : Error → ℕ → Type 0
IsEndRefusal Overflow count = 2147483624 < count
IsEndRefusal OutOfMemory count = Unit {0}
IsEndRefusal _ count = ⊥

-- the error for what could not be laid
abbrev pub IsRefusalOf : LayError → Error → Type 0
IsRefusalOf Memory OutOfMemory = Unit {0}
IsRefusalOf TooLong Overflow = Unit {0}
IsRefusalOf _ _ = ⊥
