-- The column that stores some slots has the type that it was made for.
use Rattle.std.proofs.Common.{◌≡◌, List, refl, subst}
use Rattle.columnar_memory_core.specs.declared.DataType.{DataType}
use Rattle.columnar_memory_core.specs.declared.DataType.TheOpen as layer
use Rattle.columnar_memory_core.specs.declared.DataType.TheFolds.{para-roll-DataType, ind-DataType}
use Rattle.columnar_memory_core.specs.declared.DataType.TheViews.{roll-DataType}
use Rattle.columnar_memory_core.specs.declared.IntervalUnit.TheVariants as intervals
use Rattle.nested_arrays_columns.specs.FreshColumns.{Maker, MakerUnder, fresh_step, fresh_field_step, fresh_under}
use Rattle.nested_arrays_columns.specs.FreshLaws.{FreshTypes}
use Rattle.nested_arrays_columns.specs.Slots.{Slot}
use Rattle.nested_arrays_columns.specs.StoredColumns.{column_type}
use Rattle.nested_arrays_columns.proofs.Claims.{LayerWith, NoClaim, bare_layer}
use Rattle.nested_arrays_columns.proofs.FreshLengths.{Layer, fresh_layer}

abbrev HasType : DataType → Type 0
HasType t = (whole : DataType) (xs : List Slot) → column_type (fresh_under t whole xs) ≡ whole

at_roll : (x : Layer) → ((whole : DataType) (xs : List Slot) → column_type (fresh_layer x whole xs) ≡ whole) → HasType (roll-DataType x)
at_roll x h = rw (para-roll-DataType MakerUnder Maker fresh_step fresh_field_step x) h

type_step : (y : LayerWith HasType NoClaim) → HasType (roll-DataType (bare_layer HasType NoClaim y))
type_step (layer.Extension name inner metadata) = at_roll (layer.Extension name inner.0 metadata) inner.1
type_step (layer.Interval intervals.YearMonth) = at_roll (layer.Interval intervals.YearMonth) (λ whole xs. refl)
type_step (layer.Interval intervals.DayTime) = at_roll (layer.Interval intervals.DayTime) (λ whole xs. refl)
type_step (layer.Interval intervals.MonthDayNano) = at_roll (layer.Interval intervals.MonthDayNano) (λ whole xs. refl)
type_step y = at_roll (bare_layer HasType NoClaim y) (λ whole xs. refl)

pub fresh_type : (t : DataType) → HasType t
fresh_type = ind-DataType HasType NoClaim (λ x y is. subst (λ (x : Layer). HasType (roll-DataType x)) is (type_step y)) (λ x y is. tt)

pub fresh_types : FreshTypes
fresh_types t xs = fresh_type t t xs
