-- Dictionaries numbered in pre-order, as the code has them.
use Rattle.std.specs.Prelude.{ℕ}
use Rattle.ipc_format_messages.specs.columnar_memory.declared.DataType.TheFolds.{fold-Field}
use Rattle.ipc_format_messages.specs.columnar_memory.declared.Field.{Field}
use Rattle.ipc_format_messages.specs.grammar.Schemas.{Ids, IdsList}
use Rattle.ipc_format_messages.specs.grammar.Ids.{Numbering, number_step}
use Rattle.ipc_format_messages.specs.metadata.Views.{ids_view, ids_views}
use Rattle.ipc_format_writing.specs.declared.numbering.Numbered.{Numbered}
use Rattle.ipc_format_writing.specs.declared.numbering.NumberedFields.{NumberedFields}

-- what numbers the dictionaries of a field
abbrev pub field_numbering : Field → Numbering
field_numbering = fold-Field Numbering Numbering number_step (λ field. field.data_type)

abbrev pub numbered_view : Numbered → Ids × ℕ
numbered_view numbered = (ids_view numbered.field, numbered.next)

abbrev pub fields_view : NumberedFields → IdsList × ℕ
fields_view numbered = (ids_views numbered.fields, numbered.next)
