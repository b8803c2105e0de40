-- The schema that metadata gives.
use Rattle.std.specs.Prelude.{ℕ, List, Option, Some, None}
use Rattle.ipc_format_flatbuffers.specs.Reading.{◌>>=◌, guard}
use Rattle.ipc_format_flatbuffers.specs.FlatBuffers.{TablePlace}
use Rattle.ipc_format_grammar.specs.Schemas.{SchemaIn, any_schema_in}
use Rattle.ipc_format_grammar.specs.Writable.{is_writable}

-- the schema of a Schema table, if it is one that is written
unfoldable pub schema_in : List ℕ → TablePlace → Option SchemaIn
schema_in bytes table = do
  found ← any_schema_in None bytes table
  _ ← guard (is_writable found.schema)
  Some found
