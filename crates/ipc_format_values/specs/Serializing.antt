-- What the value of a written schema is, and why there is none.
use Rattle.std.specs.Prelude.{◌≡◌, true, Result, Ok, Err}
use Rattle.ipc_format_writing.specs.columnar_memory.declared.Error.{Error}
use Rattle.ipc_format_writing.specs.columnar_memory.declared.Error.TheVariants.{OutOfMemory}
use Rattle.ipc_format_writing.specs.columnar_memory.declared.Schema as columns
use Rattle.ipc_format_writing.specs.grammar.Schemas.{IdsList}
use Rattle.ipc_format_writing.specs.grammar.SchemaObjects.{schema_object}
use Rattle.ipc_format_writing.specs.Writing.{RefusesSchema, may_write}
use Rattle.ipc_format_values.specs.declared.fields.Schema.{Schema}
use Rattle.ipc_format_values.specs.ValueObjects.{schema_value}

-- The value is the object that is laid for the schema; or the schema is none that is written, or the ids don't fit; or memory ran out.
abbrev pub SerializesSchema : Result Schema Error → columns.Schema → IdsList → Type 0
SerializesSchema (Ok value) schema ids = (may_write schema ids ≡ true) × (schema_value value ≡ schema_object schema ids)
SerializesSchema (Err OutOfMemory) schema ids = Unit {0}
SerializesSchema (Err error) schema ids = RefusesSchema error schema ids
