-- The values of dictionaries as the definitions have them (Arrow IPC, "Dictionary Messages").
use Rattle.std.specs.Prelude.{ℤ, Bool, false, List, Option, Some, None}
use Rattle.std.specs.Ordering.{int_eq}
use Rattle.ipc_format_values.specs.columnar_memory.declared.DataType.{DataType}
use Rattle.ipc_format_values.specs.grammar.Dictionaries.{Values, or_else, values_if, values_in}
use Rattle.ipc_format_values.specs.grammar.Schemas.{Ids, IdsList, ids}
use Rattle.ipc_format_values.specs.metadata.Views.{ids_views}
use Rattle.ipc_format_values.specs.metadata.declared.ipc_schema.IpcField.{IpcField}
use Rattle.ipc_format_streams.specs.declared.values.DictionaryValues.{DictionaryValues}

abbrev pub values_view : DictionaryValues → Values
values_view values = record { data_type = values.data_type.now; below = ids_views values.ipc_fields.now }

-- the ids at a field: its own, and those beside the fields below it
abbrev pub ids_beside : Option ℤ → List IpcField → Ids
ids_beside own below = ids own (ids_views below)

-- an id that is there
abbrev pub is_id : Option ℤ → ℤ → Bool
is_id None id = false
is_id (Some own) id = int_eq id own

-- the values of a dictionary with its own id, or some within them
abbrev pub values_or_within : DataType → Option ℤ → ℤ → IdsList → Option Values
values_or_within value own id below =
    or_else (values_if own id (record { data_type = value; below = below })) (values_in value id (ids None below))
