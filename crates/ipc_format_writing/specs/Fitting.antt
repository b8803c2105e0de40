-- Whether ids fit a field.
use Rattle.ipc_format_messages.specs.columnar_memory.declared.DataType.TheFolds.{fold-Field}
use Rattle.ipc_format_messages.specs.columnar_memory.declared.Field.{Field}
use Rattle.ipc_format_messages.specs.grammar.Ids.{Fitting, fit_step}

abbrev pub field_fitting : Field → Fitting
field_fitting = fold-Field Fitting Fitting fit_step (λ field. field.data_type)
