-- A schema as it is read, as the definitions have it.
use Rattle.ipc_format_grammar.specs.Schemas as format
use Rattle.ipc_format_grammar.specs.columnar_memory.declared.Schema.{Schema}
use Rattle.ipc_format_metadata.specs.declared.ipc_schema.IpcSchema.{IpcSchema}
use Rattle.ipc_format_metadata.specs.Views.{ids_views}

abbrev pub schema_view : Schema × IpcSchema → format.SchemaIn
schema_view read = record { schema = read.0; ids = ids_views read.1.fields; is_little_endian = read.1.is_little_endian }
