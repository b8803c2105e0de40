-- A type's layout is that of its layer, once its extensions are taken off.
use Rattle.std.proofs.Common.{◌≡◌, ◌∙◌, refl, sym, ap, subst, Bool, true, false}
use Rattle.std.specs.Prelude.{List, ℕ, Option, unwrap_or}
use Rattle.flat_arrays_core.specs.columnar_memory.declared.DataType.{DataType, map-DataType}
use Rattle.flat_arrays_core.specs.columnar_memory.declared.DataType.TheOpen as layer
use Rattle.flat_arrays_core.specs.columnar_memory.declared.DataType.TheViews.{out-DataType, roll-DataType, out-roll-DataType}
use Rattle.flat_arrays_core.specs.columnar_memory.declared.DataType.TheFolds.{ind-DataType, fold-roll-DataType, para-roll-DataType}
use Rattle.flat_arrays_core.specs.columnar_memory.declared.Field.{Field}
use Rattle.flat_arrays_core.specs.columnar_memory.declared.PhysicalType.{PhysicalType}
use Rattle.flat_arrays_core.specs.columnar_memory.Layouts.{stored_step, physical_step, physical_type}
use Rattle.nested_arrays_columns.specs.StoredColumns.{type_layer}
use denote.Hole.Carrier

abbrev pub Layer : Type 0
Layer = layer.DataType-F DataType Field

abbrev pub is_extension : Layer → Bool
is_extension (layer.Extension name inner metadata) = true
is_extension _ = false

no_layout : Field → Unit {0}
no_layout f = tt

-- how arrays of a type of this layer lie in memory
abbrev pub layer_layout : Layer → PhysicalType
layer_layout x = physical_step (map-DataType DataType Field PhysicalType (Unit {0}) physical_type (λ f. tt) x)

-- what holds of a type that is no extension and of its layer, by layouts
abbrev Lies : DataType → Type 0
Lies t = (physical_type t ≡ layer_layout (type_layer t)) × (is_extension (type_layer t) ≡ false)

abbrev D : Type 0
D = (t : DataType) × Lies t

abbrev F : Type 0
F = (u : Field) × Unit {0}

abbrev plain_layer : layer.DataType-F D F → Layer
plain_layer y = map-DataType D F DataType Field (λ e. e.0) (λ e. e.0) y

physical_roll : (x : Layer) → physical_type (roll-DataType x) ≡ layer_layout x
physical_roll x = fold-roll-DataType PhysicalType (Unit {0}) physical_step (λ f. tt) x

pub layer_itself : (x : Layer) → is_extension x ≡ false → type_layer (roll-DataType x) ≡ x
unfolding roll-DataType denote.Hole.Carrier.roll
layer_itself (layer.Extension name inner metadata) plain = absurd cc
layer_itself x plain =
    ap out-DataType (ap (λ stored. unwrap_or stored (roll-DataType x)) (para-roll-DataType (Option DataType) (Unit {0}) stored_step
    (λ f. tt) x))
    ∙ out-roll-DataType x

layer_within : (name : List ℕ) (inner : DataType) (metadata : Option (List ℕ))
    → type_layer (roll-DataType (layer.Extension name inner metadata)) ≡ type_layer inner
unfolding roll-DataType denote.Hole.Carrier.roll
layer_within name inner metadata =
    ap out-DataType (ap (λ stored. unwrap_or stored (roll-DataType (layer.Extension name inner metadata)))
    (para-roll-DataType (Option DataType) (Unit {0}) stored_step (λ f. tt) (layer.Extension name inner metadata)))

plain_lies : (x : Layer) → is_extension x ≡ false → Lies (roll-DataType x)
plain_lies x plain =
    (physical_roll x ∙ ap layer_layout (sym (layer_itself x plain)), ap is_extension (layer_itself x plain) ∙ plain)

roll_lies : (y : layer.DataType-F D F) → Lies (roll-DataType (plain_layer y))
roll_lies (layer.Extension name inner metadata) =
    let x = layer.Extension name inner.0 metadata in (
      physical_roll x ∙ inner.1.0 ∙ ap layer_layout (sym (layer_within name inner.0 metadata)),
      ap is_extension (layer_within name inner.0 metadata) ∙ inner.1.1,
    )
roll_lies y = plain_lies (plain_layer y) refl

-- a type lies in memory as its layer does, which is no extension
pub type_lies : (t : DataType) → Lies t
type_lies = ind-DataType Lies (λ u. Unit {0}) (λ x y is. subst (λ (x : Layer). Lies (roll-DataType x)) is (roll_lies y)) (λ x y is. tt)
