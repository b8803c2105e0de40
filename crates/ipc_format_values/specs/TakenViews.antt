-- What is taken, and where it is taken from, as the definitions have them.
use Rattle.std.specs.Prelude.{ℕ, List}
use Rattle.ipc_format_values.specs.declared.fields.Field.{Field}
use Rattle.ipc_format_values.specs.declared.taken_fields.FieldTaken.{FieldTaken}
use Rattle.ipc_format_values.specs.declared.taken_fields.FieldsTaken.{FieldsTaken}

abbrev pub field_taken : FieldTaken → Field × ℕ
field_taken taken = (taken.field, taken.left)

abbrev pub fields_taken : FieldsTaken → List Field × ℕ
fields_taken taken = (taken.fields, taken.left)
