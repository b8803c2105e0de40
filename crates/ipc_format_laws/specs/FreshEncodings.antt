-- The column that stores some slots is written as the slots are, and so are the dictionaries that it brings.
use Rattle.std.specs.Prelude.{◌≡◌, true, false, List}
use Rattle.ipc_format_grammar.specs.columnar_memory.declared.DataType.{DataType}
use Rattle.ipc_format_grammar.specs.columnar_memory.declared.Field.{Field}
use Rattle.ipc_format_grammar.specs.columns.FreshColumns.{fresh}
use Rattle.ipc_format_grammar.specs.columns.FreshLaws.{is_buildable, are_buildable}
use Rattle.ipc_format_grammar.specs.columns.OpenBatch.{fits}
use Rattle.ipc_format_grammar.specs.columns.Rows.{columns_of_rows, columns_fit, batch_of_rows}
use Rattle.ipc_format_grammar.specs.columns.Slots.{Slot}
use Rattle.ipc_format_grammar.specs.Schemas.{Ids, IdsList}
use Rattle.ipc_format_grammar.specs.Encoding.{encode, has_union}
use Rattle.ipc_format_grammar.specs.StoredEncoding.{encode_stored}
use Rattle.ipc_format_grammar.specs.GivenDictionaries.{given_by, given_stored}
use Rattle.ipc_format_grammar.specs.Writable.{report_of}
use Rattle.ipc_format_grammar.specs.WrittenStreams.{batch_of_slots, batch_of_stored}

-- each type that is written and in which no union stands is one of which slots are stored as they come
abbrev pub WritableIsBuildable : Type 0
WritableIsBuildable = (data_type : DataType) → (report_of data_type).is_allowed ≡ true → has_union data_type ≡ false
    → is_buildable data_type ≡ true

-- its nodes and buffers, little-endian
abbrev pub FreshEncodes : Type 0
FreshEncodes = (data_type : DataType) (some : List Slot) → is_buildable data_type ≡ true → fits data_type some ≡ true
    → encode_stored true (fresh data_type some) ≡ encode data_type some

-- its dictionaries
abbrev pub FreshGives : Type 0
FreshGives = (data_type : DataType) (here : Ids) (some : List Slot) → is_buildable data_type ≡ true → fits data_type some ≡ true
    → given_stored here (fresh data_type some) ≡ given_by data_type here some

-- where the columns of some rows fit, what is written of the rows is what is written of the columns that a batch of them becomes
abbrev pub RowsEncode : Type 0
RowsEncode = (schema_fields : List Field) (below : IdsList) (rows : List (List Slot)) → are_buildable schema_fields ≡ true
    → columns_fit schema_fields (columns_of_rows schema_fields rows) ≡ true
    → batch_of_stored below (batch_of_rows schema_fields rows) ≡ batch_of_slots schema_fields below (columns_of_rows schema_fields rows)
