-- The equations of `logical_type`.
use Rattle.std.proofs.Common.{◌≡◌, ◌∙◌, refl, sym, ap}
use denote.Hole.Carrier
use Rattle.std.specs.Prelude.{Option, None, unwrap_or}
use Rattle.columnar_memory_types.specs.declared.text.Text.{Text}
use Rattle.columnar_memory_types.specs.declared.kinds.PhysicalType.{PhysicalType}
use Rattle.columnar_memory_types.specs.declared.data_type.DataType.{DataType}
use Rattle.columnar_memory_types.specs.declared.data_type.DataType.TheVariants.{Extension}
use Rattle.columnar_memory_types.specs.declared.data_type.Field.{Field}
use Rattle.columnar_memory_types.specs.declared.data_type.DataType.TheOpen as layer
use Rattle.columnar_memory_types.specs.declared.data_type.DataType.TheViews.{out-DataType, roll-DataType, roll-out-DataType}
use Rattle.columnar_memory_types.specs.declared.data_type.DataType.TheFolds.{para-roll-DataType, fold-roll-DataType}
use Rattle.columnar_memory_types.specs.Layouts.{stored_step, stored_type, logical_type, physical_step, physical_type}

-- an extension is over what the type in it is, with its extensions taken off
pub logical_type-Extension : (name : Text) (inner : DataType) (more : Option Text) → logical_type (Extension name inner more) ≡ logical_type inner
unfolding roll-DataType denote.Hole.Carrier.roll
logical_type-Extension name inner more =
    ap (λ stored. unwrap_or stored (roll-DataType (layer.Extension name inner more)))
    (para-roll-DataType (Option DataType) (Unit {0}) stored_step (λ f. tt) (layer.Extension name inner more))

-- an extension lies in memory as the type in it
pub physical_type-Extension : (name : Text) (inner : DataType) (more : Option Text) → physical_type (Extension name inner more) ≡ physical_type inner
unfolding roll-DataType denote.Hole.Carrier.roll
physical_type-Extension name inner more =
    fold-roll-DataType PhysicalType (Unit {0}) physical_step (λ f. tt) (layer.Extension name inner more)

IsExtension : DataType → Type 0
IsExtension d = (name : Text) × (inner : DataType) × (more : Option Text) × (d ≡ Extension name inner more)

stored_type-roll : (x : layer.DataType-F DataType Field) → (IsExtension (roll-DataType x) → ⊥) → stored_type (roll-DataType x) ≡ None
unfolding IsExtension roll-DataType denote.Hole.Carrier.roll
stored_type-roll (layer.Extension name inner more) other = absurd (other (name, inner, more, refl))
stored_type-roll x other = para-roll-DataType (Option DataType) (Unit {0}) stored_step (λ f. tt) x

-- any other type is what it is
pub logical_type-other : (d : DataType) → ((name : Text) (inner : DataType) (more : Option Text) → d ≡ Extension name inner more → ⊥)
    → logical_type d ≡ d
unfolding IsExtension
logical_type-other d other =
    let is : roll-DataType (out-DataType d) ≡ d = roll-out-DataType d in
    let none : stored_type (roll-DataType (out-DataType d)) ≡ None =
    stored_type-roll (out-DataType d) (λ e. other e.0 e.1 e.2 (sym is ∙ e.3)) in
    ap (λ stored. unwrap_or stored d) (sym (ap stored_type is) ∙ none)
