-- The one form of a field.
use Rattle.ipc_format_messages.specs.columnar_memory.declared.DataType.{DataType}
use Rattle.ipc_format_messages.specs.columnar_memory.declared.DataType.TheFolds.{fold-Field}
use Rattle.ipc_format_messages.specs.columnar_memory.declared.DataType.TheViews.{roll-DataType}
use Rattle.ipc_format_messages.specs.columnar_memory.declared.Field.{Field}
use Rattle.ipc_format_messages.specs.grammar.Writable.{normalised_step}

abbrev pub field_normal : Field → Field
field_normal = fold-Field DataType Field roll-DataType normalised_step
