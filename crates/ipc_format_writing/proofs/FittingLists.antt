-- Whether ids fit some fields, one after another.
use Rattle.std.proofs.Common.{◌≡◌, ◌∙◌, List, [], ◌∷◌, map, refl, ap}
use Rattle.std.specs.Prelude.{Bool, ◌&&◌}
use Rattle.ipc_format_messages.specs.columnar_memory.declared.DataType.TheFolds.{fold-roll-Field}
use Rattle.ipc_format_messages.specs.columnar_memory.declared.Field.{Field}
use Rattle.ipc_format_messages.specs.grammar.Schemas.{IdsList, no_ids, ids_then}
use Rattle.ipc_format_messages.specs.grammar.Ids.{Fitting, fit_step, fit_each, ids_fit, ids_fit_fields}
use Rattle.ipc_format_writing.specs.Fitting.{field_fitting}

field-fits : (field : Field) → field_fitting field ≡ ids_fit field.data_type
field-fits field = fold-roll-Field Fitting Fitting fit_step (λ field. field.data_type)
    (record { name = field.name; data_type = field.data_type; is_nullable = field.is_nullable; metadata = field.metadata })

-- one after another is as the definition has it
pub lists_fit : (fields : List Field) (beside : IdsList) → fit_each (map field_fitting fields) beside ≡ ids_fit_fields fields beside
lists_fit [] no_ids = refl
lists_fit [] (ids_then first others) = refl
lists_fit (field ∷ fields) no_ids = refl
lists_fit (field ∷ fields) (ids_then first others) =
    ap (λ (test : Fitting). test first && fit_each (map field_fitting fields) others) (field-fits field)
    ∙ ap (λ (rest : Bool). ids_fit field.data_type first && rest) (lists_fit fields others)
