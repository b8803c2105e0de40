-- The kind of a type, as the definitions have it: the tag of its own table, and the table.
use Rattle.std.specs.Prelude.{ℕ}
use Rattle.std.specs.Int.{w8, w16}
use Rattle.ipc_format_messages.specs.flatbuffers.Objects.{Object, table, no_field, number_then}
use Rattle.ipc_format_messages.specs.grammar.SchemaObjects as objects
use Rattle.ipc_format_messages.specs.grammar.SchemaObjects.{Told, refers_if, text_if, numbers_if, truth}
use Rattle.ipc_format_writing.specs.declared.kinds.Kind.{Kind}
use Rattle.ipc_format_writing.specs.declared.kinds.TypeTable.{TypeTable}
use Rattle.ipc_format_writing.specs.declared.kinds.TypeTable.TheVariants as tables

abbrev pub table_view : TypeTable → Object
table_view tables.Empty = objects.empty_table
table_view (tables.Unit unit) = objects.short_table unit
table_view (tables.Size size) = objects.long_table size
table_view (tables.Int bits is_signed) = objects.int_object bits is_signed
table_view (tables.Decimal precision scale bits) = objects.decimal_object precision scale bits
table_view (tables.Time unit bits) = objects.time_object unit bits
table_view (tables.Timestamp unit timezone) = table (number_then w16 unit (refers_if (text_if timezone.now) no_field))
table_view (tables.Map are_keys_sorted) = table (number_then w8 (truth are_keys_sorted) no_field)
table_view (tables.Union mode ids) = table (number_then w16 mode (refers_if (numbers_if ids.now) no_field))

abbrev pub kind_view : Kind → ℕ × Object
kind_view kind = (kind.tag, table_view kind.table)

abbrev pub kind_told : Told → ℕ × Object
kind_told told = (told.tag, told.type_table)
