-- The column of so many nulls of a type, layer by layer.
use Rattle.std.proofs.Common.{◌≡◌, ◌∙◌, refl, ap, subst, ℕ, ◌*◌, List, [], ◌∷◌, map}
use Rattle.std.specs.Prelude.{ℤ, pos, min, replicate, Bool, Option}
use Rattle.nested_arrays_iterators.specs.columnar_memory.Layouts.{physical_type}
use Rattle.nested_arrays_iterators.specs.columnar_memory.declared.DataType.{DataType, map-DataType}
use Rattle.nested_arrays_iterators.specs.columnar_memory.declared.DataType.TheFolds.{para-Field, para-roll-DataType, para-roll-Field}
use Rattle.nested_arrays_iterators.specs.columnar_memory.declared.DataType.TheOpen as layer
use Rattle.nested_arrays_iterators.specs.columnar_memory.declared.DataType.TheVariants as types
use Rattle.nested_arrays_iterators.specs.columnar_memory.declared.DataType.TheViews.{roll-DataType, out-DataType, out-Field, roll-out-DataType, roll-out-Field}
use Rattle.nested_arrays_iterators.specs.columnar_memory.declared.Field.{Field}
use Rattle.nested_arrays_iterators.specs.columnar_memory.declared.IntegerType.{IntegerType}
use Rattle.nested_arrays_iterators.specs.columnar_memory.declared.UnionMode.{UnionMode}
use Rattle.nested_arrays_iterators.specs.columns.StoredColumns.{lists, fixed_lists, records, unions, dictionary, in_columns}
use Rattle.nested_arrays_nulls.specs.NullColumns.{Maker, first_id, no_marks, no_items, null_places, null_step, null_field_step, field_nulls, flat_nulls}
use Rattle.nested_arrays_nulls.specs.NullColumns.{nulls_as, null_column, null_columns}
use denote.Hole.Carrier

abbrev pub Layer : Type 0
Layer = layer.DataType-F DataType Field

abbrev pub field_as : Field → Maker
field_as = para-Field Maker Maker null_step null_field_step

-- a layer with the makers of the types below it
abbrev pub with_makers : Layer → layer.DataType-F (DataType × Maker) (Field × Maker)
with_makers x = map-DataType DataType Field (DataType × Maker) (Field × Maker) (λ t. (t, nulls_as t)) (λ u. (u, field_as u)) x

pub roll_makes : (x : Layer) → nulls_as (roll-DataType x) ≡ null_step (with_makers x)
roll_makes x = para-roll-DataType Maker Maker null_step null_field_step x

field_makes : (u : Field) → field_as u ≡ nulls_as u.data_type
unfolding roll-DataType denote.Hole.Carrier.roll
field_makes u = subst (λ (v : Field). field_as v ≡ nulls_as v.data_type) (roll-out-Field u)
    (para-roll-Field Maker Maker null_step null_field_step (out-Field u))

-- the nulls of a field are those of its type
item_nulls : (n : ℕ) (u : Field) → field_nulls n (u, field_as u) ≡ null_column u.data_type n
item_nulls n u = ap (λ (make : Maker). make u.data_type n) (field_makes u)

each_nulls : (n : ℕ) (fields : List Field) → map (field_nulls n) (map (λ (u : Field). (u, field_as u)) fields) ≡ null_columns fields n
each_nulls n [] = refl
each_nulls n (u ∷ fields) = λ j. item_nulls n u j ∷ each_nulls n fields j

-- ---- each layer

pub list_nulls : (item : Field) (whole : DataType) (n : ℕ)
    → nulls_as (types.List item) whole n ≡ lists whole (no_marks n) (no_items n) (null_column item.data_type 0)
unfolding roll-DataType denote.Hole.Carrier.roll
list_nulls item whole n = ap (λ (make : Maker). make whole n) (roll_makes (layer.List item))
    ∙ ap (λ child. lists whole (no_marks n) (no_items n) child) (item_nulls 0 item)

pub large_list_nulls : (item : Field) (whole : DataType) (n : ℕ)
    → nulls_as (types.LargeList item) whole n ≡ lists whole (no_marks n) (no_items n) (null_column item.data_type 0)
unfolding roll-DataType denote.Hole.Carrier.roll
large_list_nulls item whole n = ap (λ (make : Maker). make whole n) (roll_makes (layer.LargeList item))
    ∙ ap (λ child. lists whole (no_marks n) (no_items n) child) (item_nulls 0 item)

pub map_nulls : (entry : Field) (is_sorted : Bool) (whole : DataType) (n : ℕ)
    → nulls_as (types.Map entry is_sorted) whole n ≡ lists whole (no_marks n) (no_items n) (null_column entry.data_type 0)
unfolding roll-DataType denote.Hole.Carrier.roll
map_nulls entry is_sorted whole n = ap (λ (make : Maker). make whole n) (roll_makes (layer.Map entry is_sorted))
    ∙ ap (λ child. lists whole (no_marks n) (no_items n) child) (item_nulls 0 entry)

pub fixed_list_nulls : (item : Field) (size : ℕ) (whole : DataType) (n : ℕ)
    → nulls_as (types.FixedSizeList item size) whole n ≡ fixed_lists whole (no_marks n) size (null_column item.data_type (size * n))
unfolding roll-DataType denote.Hole.Carrier.roll
fixed_list_nulls item size whole n = ap (λ (make : Maker). make whole n) (roll_makes (layer.FixedSizeList item size))
    ∙ ap (λ child. fixed_lists whole (no_marks n) size child) (item_nulls (size * n) item)

pub struct_nulls : (fields : List Field) (whole : DataType) (n : ℕ)
    → nulls_as (types.Struct fields) whole n ≡ records whole (no_marks n) n (in_columns (null_columns fields n))
unfolding roll-DataType denote.Hole.Carrier.roll
struct_nulls fields whole n = ap (λ (make : Maker). make whole n) (roll_makes (layer.Struct fields))
    ∙ ap (λ children. records whole (no_marks n) n (in_columns children)) (each_nulls n fields)

pub union_nulls : (fields : List Field) (ids : Option (List ℤ)) (mode : UnionMode) (whole : DataType) (n : ℕ)
    → nulls_as (types.Union fields ids mode) whole n
    ≡ unions whole (replicate n (first_id ids)) (null_places mode n) (in_columns (null_columns fields n))
unfolding roll-DataType denote.Hole.Carrier.roll
union_nulls fields ids mode whole n = ap (λ (make : Maker). make whole n) (roll_makes (layer.Union fields ids mode))
    ∙ ap (λ children. unions whole (replicate n (first_id ids)) (null_places mode n) (in_columns children)) (each_nulls n fields)

pub dictionary_nulls : (key : IntegerType) (value : DataType) (is_ordered : Bool) (whole : DataType) (n : ℕ)
    → nulls_as (types.Dictionary key value is_ordered) whole n
    ≡ dictionary whole (no_marks n) (replicate n (pos 0)) (null_column value (min n 1))
unfolding roll-DataType denote.Hole.Carrier.roll
dictionary_nulls key value is_ordered whole n = ap (λ (make : Maker). make whole n) (roll_makes (layer.Dictionary key value is_ordered))

pub extension_nulls : (name : List ℕ) (inner : DataType) (more : Option (List ℕ)) (whole : DataType) (n : ℕ)
    → nulls_as (types.Extension name inner more) whole n ≡ nulls_as inner whole n
unfolding roll-DataType denote.Hole.Carrier.roll
extension_nulls name inner more whole n = ap (λ (make : Maker). make whole n) (roll_makes (layer.Extension name inner more))

-- no layer with types below it
pub record IsChildless (t : DataType) : Type 0 where
  pub not-List : (item : Field) → t ≡ types.List item → ⊥
  pub not-LargeList : (item : Field) → t ≡ types.LargeList item → ⊥
  pub not-FixedSizeList : (item : Field) (size : ℕ) → t ≡ types.FixedSizeList item size → ⊥
  pub not-Map : (entry : Field) (is_sorted : Bool) → t ≡ types.Map entry is_sorted → ⊥
  pub not-Struct : (fields : List Field) → t ≡ types.Struct fields → ⊥
  pub not-Union : (fields : List Field) (ids : Option (List ℤ)) (mode : UnionMode) → t ≡ types.Union fields ids mode → ⊥
  pub not-Dictionary : (key : IntegerType) (value : DataType) (is_ordered : Bool) → t ≡ types.Dictionary key value is_ordered → ⊥
  pub not-Extension : (name : List ℕ) (inner : DataType) (more : Option (List ℕ)) → t ≡ types.Extension name inner more → ⊥

childless_roll : (x : Layer) → IsChildless (roll-DataType x) → (whole : DataType) (n : ℕ)
    → nulls_as (roll-DataType x) whole n ≡ flat_nulls (physical_type whole) whole n
unfolding roll-DataType denote.Hole.Carrier.roll
childless_roll (layer.List item) h whole n = absurd (h.not-List item refl)
childless_roll (layer.LargeList item) h whole n = absurd (h.not-LargeList item refl)
childless_roll (layer.FixedSizeList item size) h whole n = absurd (h.not-FixedSizeList item size refl)
childless_roll (layer.Map entry is_sorted) h whole n = absurd (h.not-Map entry is_sorted refl)
childless_roll (layer.Struct fields) h whole n = absurd (h.not-Struct fields refl)
childless_roll (layer.Union fields ids mode) h whole n = absurd (h.not-Union fields ids mode refl)
childless_roll (layer.Dictionary key value is_ordered) h whole n = absurd (h.not-Dictionary key value is_ordered refl)
childless_roll (layer.Extension name inner more) h whole n = absurd (h.not-Extension name inner more refl)
childless_roll x h whole n = ap (λ (make : Maker). make whole n) (roll_makes x)

pub childless_nulls : (t : DataType) → IsChildless t → (whole : DataType) (n : ℕ) → nulls_as t whole n ≡ flat_nulls (physical_type whole) whole n
childless_nulls t h whole n =
    let P : DataType → Type 0 = λ u. IsChildless u → nulls_as u whole n ≡ flat_nulls (physical_type whole) whole n in
    subst P (roll-out-DataType t) (λ k. childless_roll (out-DataType t) k whole n) h
