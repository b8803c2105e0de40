-- A slot that fits a type is a cell of it.
use Rattle.std.proofs.Common.{◌≡◌, ℕ, Bool, true, false, List, [], ◌∷◌, length, map, refl}
use Rattle.std.specs.Prelude.{◌==◌}
use Rattle.std.specs.List.{list_all}
use Rattle.std.proofs.lemmas.Bool.{and_parts, and_from, false≢true}
use Rattle.tables_chunks.specs.ipc_format.columnar_memory.declared.DataType.{DataType, map-DataType}
use Rattle.tables_chunks.specs.ipc_format.columnar_memory.declared.DataType.TheOpen as layer
use Rattle.tables_chunks.specs.ipc_format.columnar_memory.declared.DataType.TheFolds.{fold-Field, fold-roll-DataType, fold-roll-Field, ind-DataType}
use Rattle.tables_chunks.specs.ipc_format.columnar_memory.declared.DataType.TheViews.{roll-DataType, roll-Field}
use Rattle.tables_chunks.specs.ipc_format.columnar_memory.declared.Field.{Field, map-Field}
use Rattle.tables_chunks.specs.ipc_format.columnar_memory.declared.IntervalUnit.TheVariants as intervals
use Rattle.tables_chunks.specs.ipc_format.columns.Cells.{fits_step, fits_cell, fit_each, is_list_of, is_list_of_size, is_record_of}
use Rattle.tables_chunks.specs.ipc_format.columns.Slots.{Slot, Slots, null, items, fields, no_slot, slot_then, slot_list}
use Rattle.nested_arrays_cells.specs.ArrayCells.{has_cell, has_cell_step}
use Rattle.tables_chunks.proofs.ipc_format_lemmas.Claims.{TypeWith, FieldWith, LayerWith, bare_layer}
use Rattle.std.proofs.Common.{subst}

abbrev Layer : Type 0
Layer = layer.DataType-F DataType Field

abbrev fits_field : Field → Slot → Bool
fits_field = fold-Field (Slot → Bool) (Slot → Bool) fits_step (λ field. field.data_type)

abbrev has_field : Field → Slot → Bool
has_field = fold-Field (Slot → Bool) (Slot → Bool) has_cell_step (λ field. field.data_type)

-- what passes one test passes the other
abbrev Implies : (Slot → Bool) → (Slot → Bool) → Type 0
Implies first second = (slot : Slot) → first slot ≡ true → second slot ≡ true

abbrev TypeHas : DataType → Type 0
TypeHas t = Implies (fits_cell t) (has_cell t)

abbrev FieldHas : Field → Type 0
FieldHas u = Implies (fits_field u) (has_field u)

at_roll : (x : Layer) → Implies (fits_step (map-DataType DataType Field (Slot → Bool) (Slot → Bool) fits_cell fits_field x))
    (has_cell_step (map-DataType DataType Field (Slot → Bool) (Slot → Bool) has_cell has_field x)) → TypeHas (roll-DataType x)
at_roll x h = rw (
  fold-roll-DataType (Slot → Bool) (Slot → Bool) fits_step (λ field. field.data_type) x,
  fold-roll-DataType (Slot → Bool) (Slot → Bool) has_cell_step (λ field. field.data_type) x,
) h

refused : {P : Type 0} → false ≡ true → P
refused e = absurd (false≢true e)

each_passes : (first second : Slot → Bool) → Implies first second → (slots : List Slot) → list_all first slots ≡ true
    → list_all second slots ≡ true
each_passes first second implies [] h = refl
each_passes first second implies (slot ∷ slots) h =
    let parts = and_parts (first slot) (list_all first slots) h in
    and_from (second slot) (list_all second slots) (implies slot parts.0) (each_passes first second implies slots parts.1)

lists_have : (first second : Slot → Bool) → Implies first second → Implies (is_list_of first) (is_list_of second)
lists_have first second implies null h = refl
lists_have first second implies (items slots) h = each_passes first second implies (slot_list slots) h
lists_have first second implies _ h = refused h

sized_have : (size : ℕ) (first second : Slot → Bool) → Implies first second → Implies (is_list_of_size size first) (is_list_of second)
sized_have size first second implies null h = refl
sized_have size first second implies (items slots) h =
    each_passes first second implies (slot_list slots)
    (and_parts (length (slot_list slots) == size) (list_all first (slot_list slots)) h).1
sized_have size first second implies _ h = refused h

abbrev Children : Type 0
Children = List (FieldWith FieldHas)

abbrev fields_of : Children → List Field
fields_of ys = map (λ e. e.0) ys

each_has : (ys : Children) (slots : Slots) → fit_each (map fits_field (fields_of ys)) slots ≡ true
    → fit_each (map has_field (fields_of ys)) slots ≡ true
each_has [] no_slot h = refl
each_has [] (slot_then slot slots) h = refused h
each_has (y ∷ ys) no_slot h = refused h
each_has (y ∷ ys) (slot_then slot slots) h =
    let parts = and_parts (fits_field y.0 slot) (fit_each (map fits_field (fields_of ys)) slots) h in
    and_from (has_field y.0 slot) (fit_each (map has_field (fields_of ys)) slots) (y.1 slot parts.0) (each_has ys slots parts.1)

records_have : (ys : Children) → Implies (is_record_of (map fits_field (fields_of ys))) (is_record_of (map has_field (fields_of ys)))
records_have ys null h = refl
records_have ys (fields slots) h = each_has ys slots h
records_have ys _ h = refused h

type_step : (y : LayerWith TypeHas FieldHas) → TypeHas (roll-DataType (bare_layer TypeHas FieldHas y))
type_step (layer.List item) = at_roll (layer.List item.0) (lists_have (fits_field item.0) (has_field item.0) item.1)
type_step (layer.LargeList item) = at_roll (layer.LargeList item.0) (lists_have (fits_field item.0) (has_field item.0) item.1)
type_step (layer.FixedSizeList item size) =
    at_roll (layer.FixedSizeList item.0 size) (sized_have size (fits_field item.0) (has_field item.0) item.1)
type_step (layer.Struct children) = at_roll (layer.Struct (fields_of children)) (records_have children)
type_step (layer.Union children ids mode) = at_roll (layer.Union (fields_of children) ids mode) (λ slot h. h)
type_step (layer.Map entry is_sorted) = at_roll (layer.Map entry.0 is_sorted) (λ slot h. h)
type_step (layer.Dictionary key value is_ordered) = at_roll (layer.Dictionary key value.0 is_ordered) value.1
type_step (layer.Extension name inner metadata) = at_roll (layer.Extension name inner.0 metadata) inner.1
type_step (layer.Interval intervals.YearMonth) = at_roll (layer.Interval intervals.YearMonth) (λ slot h. refl)
type_step (layer.Interval intervals.DayTime) = at_roll (layer.Interval intervals.DayTime) (λ slot h. refl)
type_step (layer.Interval intervals.MonthDayNano) = at_roll (layer.Interval intervals.MonthDayNano) (λ slot h. refl)
type_step y = at_roll (bare_layer TypeHas FieldHas y) (λ slot h. refl)

field_step : (x : layer.Field-F DataType Field) → TypeHas x.data_type → FieldHas (roll-Field x)
field_step x h = rw (
  fold-roll-Field (Slot → Bool) (Slot → Bool) fits_step (λ field. field.data_type) x,
  fold-roll-Field (Slot → Bool) (Slot → Bool) has_cell_step (λ field. field.data_type) x,
) h

pub fits_has_cell : (t : DataType) → TypeHas t
fits_has_cell = ind-DataType TypeHas FieldHas (λ x y is. subst (λ (x : Layer). TypeHas (roll-DataType x)) is (type_step y))
    (λ x y is. subst (λ (x : layer.Field-F DataType Field). FieldHas (roll-Field x)) is
    (field_step (map-Field (TypeWith TypeHas) (FieldWith FieldHas) DataType Field (λ e. e.0) (λ e. e.0) y) y.data_type.1))
