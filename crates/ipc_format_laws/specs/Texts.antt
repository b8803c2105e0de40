-- A schema that was read is of texts (Schema.fbs: strings are UTF-8; custom metadata).
use Rattle.std.specs.Prelude.{◌≡◌, ℕ, List, Some}
use Rattle.ipc_format_grammar.specs.flatbuffers.FlatBuffers.{TablePlace}
use Rattle.ipc_format_grammar.specs.Schemas.{SchemaIn}
use Rattle.ipc_format_grammar.specs.SchemaGrammar.{schema_in}
use Rattle.ipc_format_laws.specs.Schemas.{HasTexts}

-- the names, keys and values of a schema that is read are UTF-8, at any depth, and the keys of its metadata ascend
abbrev pub SchemasReadHaveTexts : Type 0
SchemasReadHaveTexts = (bytes : List ℕ) (table : TablePlace) (found : SchemaIn) → schema_in bytes table ≡ Some found → HasTexts found.schema
