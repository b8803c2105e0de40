-- Fields and types as they are read, as the definitions have them.
use Rattle.std.specs.Prelude.{ℕ, Bool, List}
use Rattle.ipc_format_grammar.specs.Schemas as format
use Rattle.ipc_format_metadata.specs.Steps as steps
use Rattle.ipc_format_metadata.specs.Views.{ids_view, ids_views}
use Rattle.ipc_format_metadata.specs.declared.schemas.Head.{Head}
use Rattle.ipc_format_metadata.specs.declared.schemas.FieldRead.{FieldRead}
use Rattle.ipc_format_metadata.specs.declared.schemas.TypeRead.{TypeRead}
use Rattle.ipc_format_metadata.specs.declared.schemas.FieldsRead.{FieldsRead}

abbrev pub head_view : Head → List ℕ × Bool
head_view head = (head.name.now, head.is_nullable)

abbrev pub field_view : FieldRead → format.FieldIn × ℕ
field_view read = (record { field = read.field; ids = ids_view read.ids }, read.left)

abbrev pub type_view : TypeRead → format.TypeIn × ℕ
type_view read = (record { data_type = read.data_type; below = ids_views read.below }, read.left)

abbrev pub fields_view : FieldsRead → steps.FieldsIn × ℕ
fields_view read = (record { fields = read.fields; below = ids_views read.below }, read.left)
