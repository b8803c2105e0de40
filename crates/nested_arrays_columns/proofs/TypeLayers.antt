-- A type's layer, once its extensions are taken off; its layout is that of this layer.
use Rattle.std.proofs.Common.{◌≡◌, ◌∙◌, ℕ, List, Bool, true, false, refl, sym, ap, subst}
use Rattle.std.specs.Prelude.{Option, unwrap_or}
use Rattle.columnar_memory_core.specs.declared.DataType.{DataType, map-DataType}
use Rattle.columnar_memory_core.specs.declared.DataType.TheOpen as layer
use Rattle.columnar_memory_core.specs.declared.DataType.TheViews.{out-DataType, roll-DataType, out-roll-DataType}
use Rattle.columnar_memory_core.specs.declared.DataType.TheFolds.{fold-roll-DataType, para-roll-DataType, ind-DataType}
use Rattle.columnar_memory_core.specs.declared.Field.{Field}
use Rattle.columnar_memory_core.specs.declared.PhysicalType.{PhysicalType}
use Rattle.columnar_memory_core.specs.Layouts.{stored_step, physical_step, physical_type}
use Rattle.nested_arrays_columns.specs.StoredColumns.{type_layer}
use Rattle.nested_arrays_columns.proofs.Claims.{LayerWith, NoClaim, bare_layer}
use denote.Hole.Carrier

abbrev pub Layer : Type 0
Layer = layer.DataType-F DataType Field

abbrev pub is_extension : {A B : Type 0} → layer.DataType-F A B → Bool
is_extension (layer.Extension name inner metadata) = true
is_extension _ = false

pub layer_itself : (x : Layer) → is_extension x ≡ false → type_layer (roll-DataType x) ≡ x
unfolding roll-DataType denote.Hole.Carrier.roll
layer_itself (layer.Extension name inner metadata) plain = absurd cc
layer_itself x plain =
    ap out-DataType (ap (λ stored. unwrap_or stored (roll-DataType x)) (para-roll-DataType (Option DataType) (Unit {0}) stored_step
    (λ f. tt) x))
    ∙ out-roll-DataType x

pub layer_within : (name : List ℕ) (inner : DataType) (metadata : Option (List ℕ))
    → type_layer (roll-DataType (layer.Extension name inner metadata)) ≡ type_layer inner
unfolding roll-DataType denote.Hole.Carrier.roll
layer_within name inner metadata =
    ap out-DataType (ap (λ stored. unwrap_or stored (roll-DataType (layer.Extension name inner metadata)))
    (para-roll-DataType (Option DataType) (Unit {0}) stored_step (λ f. tt) (layer.Extension name inner metadata)))

-- how arrays of a type of this layer lie in memory
abbrev pub layer_layout : Layer → PhysicalType
layer_layout x = physical_step (map-DataType DataType Field PhysicalType (Unit {0}) physical_type (λ f. tt) x)

abbrev Lies : DataType → Type 0
Lies t = physical_type t ≡ layer_layout (type_layer t)

physical_roll : (x : Layer) → physical_type (roll-DataType x) ≡ layer_layout x
physical_roll x = fold-roll-DataType PhysicalType (Unit {0}) physical_step (λ f. tt) x

plain_lies : (x : Layer) → is_extension x ≡ false → Lies (roll-DataType x)
plain_lies x plain = physical_roll x ∙ ap layer_layout (sym (layer_itself x plain))

roll_lies : (y : LayerWith Lies NoClaim) → Lies (roll-DataType (bare_layer Lies NoClaim y))
roll_lies (layer.Extension name inner metadata) =
    physical_roll (layer.Extension name inner.0 metadata) ∙ inner.1 ∙ ap layer_layout (sym (layer_within name inner.0 metadata))
roll_lies y = plain_lies (bare_layer Lies NoClaim y) refl

-- a type's layout is that of its layer
pub layout_is : (t : DataType) → physical_type t ≡ layer_layout (type_layer t)
layout_is = ind-DataType Lies NoClaim (λ x y is. subst (λ (x : Layer). Lies (roll-DataType x)) is (roll_lies y)) (λ x y is. tt)
