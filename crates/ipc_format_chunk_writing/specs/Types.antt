-- The types of columns beside those of fields, and beside dictionary ids (Schema.fbs, `Field`, `DictionaryEncoding`).
use Rattle.std.specs.Prelude.{Bool, true, List, [], map}
use Rattle.columnar_memory_types.specs.Equality.{same_type}
use Rattle.ipc_format_batch_reading.specs.columnar_memory.declared.DataType.{DataType}
use Rattle.ipc_format_batch_reading.specs.columnar_memory.declared.Field.{Field}
use Rattle.ipc_format_batch_reading.specs.columns.StoredColumns.{Column, column_type}
use Rattle.ipc_format_batch_reading.specs.grammar.Ids.{fit_each, ids_fit}
use Rattle.ipc_format_batch_reading.specs.grammar.Schemas.{IdsList}
use Rattle.ipc_format_batch_reading.specs.grammar.Writable.{normalised_type}

-- two types have one form
abbrev pub have_one_form : DataType → DataType → Bool
have_one_form a b = same_type (normalised_type a) (normalised_type b)

-- a field of a type, of which no more is said
abbrev pub field_of : DataType → Field
field_of data_type = record { name = []; data_type = data_type; is_nullable = true; metadata = [] }

-- as many ids as columns, each fitting the column's type: at each depth one at each field, an own id exactly where a field has a dictionary
abbrev pub ids_fit_columns : List Column → IdsList → Bool
ids_fit_columns columns ids = fit_each (map (λ (column : Column). ids_fit (column_type column)) columns) ids
