-- The array of lists that parts make, where their type is of lists with offsets of that width.
use Rattle.std.proofs.Common.{◌≡◌, ◌∙◌, Bool, true, false, refl, ap}
use Rattle.std.specs.Prelude.{Result, Ok, Err, is_some}
use mathlib.Core.Logic.{inr}
use Rattle.nested_arrays_nulls.specs.columnar_memory.declared.DataType.{DataType}
use Rattle.nested_arrays_nulls.specs.columnar_memory.declared.Error.{Error}
use Rattle.nested_arrays_nulls.specs.columnar_memory.declared.Field.{Field}
use Rattle.nested_arrays_nulls.specs.columnar_memory.Layouts.{physical_type}
use Rattle.nested_arrays_nulls.specs.columns.SoundColumns.{is_sound}
use Rattle.nested_arrays_nulls.specs.columns.StoredColumns.{Column, column_type, type_layer}
use Rattle.nested_arrays_nulls.specs.arrays.Answers.{IsCheckedAs}
use Rattle.nested_arrays_nulls.specs.generic.ListTypes.{items_field, list_layout}
use Rattle.nested_arrays_cells.specs.taken.OpenColumns.{IsFrozen}
use Rattle.nested_arrays_nulls.proofs.flat_lemmas.Layers.{layer_layout, type_lies}
use Rattle.nested_arrays_generic_builders.proofs.ListsStored.{layered, list_layer, there}

layout_of : (large : Bool) (item : Field) → layer_layout (list_layer large item) ≡ list_layout large
layout_of false item = refl
layout_of true item = refl

-- such a type lies in memory as lists of that width
lies_so : (large : Bool) (t : DataType) → is_some (items_field large (type_layer t)) ≡ true → physical_type t ≡ list_layout large
lies_so large t lies =
    let item = there (items_field large (type_layer t)) lies in
    (type_lies t).0 ∙ ap layer_layout (layered large t item.0 item.1) ∙ layout_of large item.0

not_sound : (b : Bool) → ¬ (b ≡ true) → b ≡ false
not_sound true h = absurd (h refl)
not_sound false h = refl

-- what is tested of the parts is whether their column is sound
pub frozen_lists : (large : Bool) (t : DataType) (column : Column) (r : Result Column Error)
    → is_some (items_field large (type_layer t)) ≡ true → column_type column ≡ t → IsCheckedAs (list_layout large) column r
    → IsFrozen (λ (array : Column). array) column r
frozen_lists large t column (Ok array) lies type is = (is.0, is.1.0)
frozen_lists large t column (Err error) lies type is =
    inr (is.0, not_sound (is_sound column) (λ sound. is.1 (sound, ap physical_type type ∙ lies_so large t lies)))
