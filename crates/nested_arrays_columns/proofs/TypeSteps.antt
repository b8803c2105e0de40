-- What a column of some slots stores and what fits it, by one layer of its type: its extensions stay outside, and each field stands for its type.
use Rattle.std.proofs.Common.{◌≡◌, ◌∙◌, ℕ, List, Bool, false, refl, sym, ap, subst}
use Rattle.std.specs.Prelude.{Option, ◌&&◌}
use Rattle.std.specs.List.{list_all}
use Rattle.nested_arrays_columns.specs.columnar_memory.declared.DataType.{DataType, map-DataType}
use Rattle.nested_arrays_columns.specs.columnar_memory.declared.DataType.TheOpen as layer
use Rattle.nested_arrays_columns.specs.columnar_memory.declared.DataType.TheFolds.{fold-Field, fold-roll-DataType, para-roll-DataType, fold-roll-Field, para-roll-Field}
use Rattle.nested_arrays_columns.specs.columnar_memory.declared.DataType.TheFolds.{ind-DataType}
use Rattle.nested_arrays_columns.specs.columnar_memory.declared.DataType.TheViews.{roll-DataType}
use Rattle.nested_arrays_columns.specs.columnar_memory.declared.Field.{Field}
use Rattle.nested_arrays_columns.specs.columnar_memory.Layouts.{physical_type}
use denote.Hole.Carrier
use Rattle.nested_arrays_columns.specs.Cells.{fits_step, fits_cell}
use Rattle.nested_arrays_columns.specs.FreshColumns.{Maker, MakerUnder, fresh_step, fresh_field_step, fresh_under, fresh}
use Rattle.nested_arrays_columns.specs.FreshLaws.{buildable_step, is_buildable}
use Rattle.nested_arrays_columns.specs.OpenBatch.{within_step, is_within, fits}
use Rattle.nested_arrays_columns.specs.Slots.{Slot}
use Rattle.nested_arrays_columns.specs.StoredColumns.{type_layer}
use Rattle.nested_arrays_columns.proofs.Claims.{LayerWith, NoClaim, bare_layer}
use Rattle.nested_arrays_columns.proofs.FreshLengths.{Layer, buildable_field, fresh_field, cell_field, buildable_layer, fresh_layer, cell_layer}
use Rattle.nested_arrays_columns.proofs.TypeLayers.{is_extension, layer_itself, layer_within, layer_layout, layout_is}

abbrev pub within_field : Field → List Slot → Bool
within_field = fold-Field (List Slot → Bool) (List Slot → Bool) within_step (λ field. field.data_type)

abbrev pub within_layer : Layer → List Slot → Bool
within_layer x = within_step (map-DataType DataType Field (List Slot → Bool) (List Slot → Bool) is_within within_field x)

-- ---- types by their layers

-- what passes through extensions is that of the type's layer
module _ {A : Type 0} (f : DataType → A) (g : Layer → A) (rolls : (x : Layer) → f (roll-DataType x) ≡ g x)
    (passes : (name : List ℕ) (inner : DataType) (metadata : Option (List ℕ)) → g (layer.Extension name inner metadata) ≡ f inner) where
  abbrev Same : DataType → Type 0
  Same t = f t ≡ g (type_layer t)

  plain_same : (x : Layer) → is_extension x ≡ false → Same (roll-DataType x)
  plain_same x plain = rolls x ∙ ap g (sym (layer_itself x plain))

  roll_same : (y : LayerWith Same NoClaim) → Same (roll-DataType (bare_layer Same NoClaim y))
  roll_same (layer.Extension name inner metadata) =
      rolls (layer.Extension name inner.0 metadata) ∙ passes name inner.0 metadata ∙ inner.1 ∙ ap g (sym (layer_within name inner.0 metadata))
  roll_same y = plain_same (bare_layer Same NoClaim y) refl

  pub by_layer : (t : DataType) → f t ≡ g (type_layer t)
  by_layer = ind-DataType Same NoClaim (λ x y is. subst (λ (x : Layer). Same (roll-DataType x)) is (roll_same y)) (λ x y is. tt)

pub fresh_is : (t : DataType) (xs : List Slot) → fresh t xs ≡ fresh_layer (type_layer t) t xs
fresh_is t xs = λ j. by_layer fresh_under fresh_layer (para-roll-DataType MakerUnder Maker fresh_step fresh_field_step)
    (λ name inner metadata. refl) t j t xs

pub cell_is : (t : DataType) → fits_cell t ≡ cell_layer (type_layer t)
cell_is = by_layer fits_cell cell_layer (fold-roll-DataType (Slot → Bool) (Slot → Bool) fits_step (λ field. field.data_type))
    (λ name inner metadata. refl)

pub within_is : (t : DataType) → is_within t ≡ within_layer (type_layer t)
within_is = by_layer is_within within_layer (fold-roll-DataType (List Slot → Bool) (List Slot → Bool) within_step (λ field. field.data_type))
    (λ name inner metadata. refl)

pub buildable_is : (t : DataType) → is_buildable t ≡ buildable_layer (type_layer t)
buildable_is = by_layer is_buildable buildable_layer (para-roll-DataType Bool Bool buildable_step (λ field. field.data_type.1))
    (λ name inner metadata. refl)

-- no layer of a type is an extension
abbrev Plain : DataType → Type 0
Plain t = is_extension (type_layer t) ≡ false

plain_plain : (x : Layer) → is_extension x ≡ false → Plain (roll-DataType x)
plain_plain x plain = ap is_extension (layer_itself x plain) ∙ plain

roll_plain : (y : LayerWith Plain NoClaim) → Plain (roll-DataType (bare_layer Plain NoClaim y))
roll_plain (layer.Extension name inner metadata) = ap is_extension (layer_within name inner.0 metadata) ∙ inner.1
roll_plain y = plain_plain (bare_layer Plain NoClaim y) refl

pub not_extended : (t : DataType) → is_extension (type_layer t) ≡ false
not_extended = ind-DataType Plain NoClaim (λ x y is. subst (λ (x : Layer). Plain (roll-DataType x)) is (roll_plain y)) (λ x y is. tt)

-- ---- a layer that is known

module _ (t : DataType) (x : Layer) (is : type_layer t ≡ x) where
  pub fresh_by_layer : (xs : List Slot) → fresh t xs ≡ fresh_layer x t xs
  fresh_by_layer xs = fresh_is t xs ∙ ap (λ x. fresh_layer x t xs) is

  pub cell_by_layer : fits_cell t ≡ cell_layer x
  cell_by_layer = cell_is t ∙ ap cell_layer is

  pub within_by_layer : is_within t ≡ within_layer x
  within_by_layer = within_is t ∙ ap within_layer is

  pub buildable_by_layer : is_buildable t ≡ buildable_layer x
  buildable_by_layer = buildable_is t ∙ ap buildable_layer is

  pub fits_by_layer : (xs : List Slot) → fits t xs ≡ (list_all (cell_layer x) xs && within_layer x xs)
  fits_by_layer xs = λ j. list_all (cell_by_layer j) xs && within_by_layer j xs

  pub layout_by_layer : physical_type t ≡ layer_layout x
  layout_by_layer = layout_is t ∙ ap layer_layout is

-- ---- fields stand for their types

abbrev field_layer : Field → layer.Field-F DataType Field
field_layer u = record { name = u.name; data_type = u.data_type; is_nullable = u.is_nullable; metadata = u.metadata }

pub fresh_field_is : (u : Field) → fresh_field u ≡ fresh u.data_type
unfolding roll-DataType denote.Hole.Carrier.roll
fresh_field_is u = para-roll-Field MakerUnder Maker fresh_step fresh_field_step (field_layer u)

pub cell_field_is : (u : Field) → cell_field u ≡ fits_cell u.data_type
unfolding roll-DataType denote.Hole.Carrier.roll
cell_field_is u = fold-roll-Field (Slot → Bool) (Slot → Bool) fits_step (λ field. field.data_type) (field_layer u)

pub within_field_is : (u : Field) → within_field u ≡ is_within u.data_type
unfolding roll-DataType denote.Hole.Carrier.roll
within_field_is u = fold-roll-Field (List Slot → Bool) (List Slot → Bool) within_step (λ field. field.data_type) (field_layer u)

pub buildable_field_is : (u : Field) → buildable_field u ≡ is_buildable u.data_type
unfolding roll-DataType denote.Hole.Carrier.roll
buildable_field_is u = para-roll-Field Bool Bool buildable_step (λ field. field.data_type.1) (field_layer u)
