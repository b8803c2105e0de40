-- Which columns are of nulls alone.
use Rattle.std.proofs.Common.{◌≡◌, ◌∙◌, true, false, refl, ap, subst}
use Rattle.std.specs.Prelude.{ℕ, ℤ, Bool, ◌||◌, not, if◌then◌else◌, ◌-◌, ◌/◌, List, Option, min, length, IsTrue, ◌↔◌}
use Rattle.std.specs.List.{list_all}
use Rattle.std.proofs.lemmas.Bool.{false≢true}
use Rattle.nested_arrays_arrays.specs.columnar_memory.Layouts.{physical_type}
use Rattle.nested_arrays_arrays.specs.columnar_memory.declared.DataType.{DataType}
use Rattle.nested_arrays_arrays.specs.columnar_memory.declared.DataType.TheOpen as layer
use Rattle.nested_arrays_arrays.specs.columnar_memory.declared.PhysicalType.{PhysicalType}
use Rattle.nested_arrays_arrays.specs.columnar_memory.declared.PhysicalType.TheVariants as physical
use Rattle.nested_arrays_arrays.proofs.columns_lemmas.Conditions.{parts_of_3, parts_of_4, parts_of_5}
use Rattle.nested_arrays_arrays.specs.columns.Kinds.{is_signed, most_offset}
use Rattle.nested_arrays_arrays.specs.columns.SoundColumns.{are_offsets, are_pieces, are_sound, has_child_at, has_child_types, has_field_types}
use Rattle.nested_arrays_arrays.specs.columns.SoundColumns.{has_fixed_item_type, has_item_type, has_places, has_size, has_value_at, has_value_type, have_len}
use Rattle.nested_arrays_arrays.specs.columns.SoundColumns.{holds_below, is_null_type, is_sound, is_stored_as, mask_fits}
use Rattle.nested_arrays_arrays.specs.columns.StoredColumns.{Column, Columns, Stored, nulls, flat, lists, fixed_lists, records, unions, dictionary}
use Rattle.nested_arrays_arrays.specs.columns.StoredColumns.{bits, numbers, pairs, triples, texts, byte_strings, fixed_bytes, column_len, column_type}
use Rattle.nested_arrays_arrays.specs.columns.StoredColumns.{is_valid_at, stored_len, type_layer}
use Rattle.nested_arrays_arrays.proofs.flat_lemmas.Layers.{Layer}
use Rattle.nested_arrays_arrays.proofs.flat_lemmas.NullTypes.{null_types}
use Rattle.nested_arrays_arrays.specs.flat.ColumnMasks.{column_mask, unset_in}
use Rattle.nested_arrays_access.specs.Nulls.{is_nulls, is_null_at, null_count_of}

-- nothing is stored of nulls, and they have no children
no_stored : (layout : PhysicalType) (stored : Stored) → layout ≡ physical.Null → is_stored_as layout stored ≡ true → ⊥
no_stored physical.Null (bits values) is h = false≢true h
no_stored physical.Null (numbers kind values) is h = false≢true h
no_stored physical.Null (pairs kind values) is h = false≢true h
no_stored physical.Null (triples kind values) is h = false≢true h
no_stored physical.Null (texts offsets content) is h = false≢true h
no_stored physical.Null (byte_strings offsets content) is h = false≢true h
no_stored physical.Null (fixed_bytes size content) is h = false≢true h
no_stored _ stored is h = absurd cc

no_items : (x : Layer) (child : DataType) → is_null_type x ≡ true → has_item_type x child ≡ true → ⊥
no_items layer.Null child is h = false≢true h
no_items _ child is h = false≢true is

no_fixed_items : (x : Layer) (size : ℕ) (child : DataType) → is_null_type x ≡ true → has_fixed_item_type x size child ≡ true → ⊥
no_fixed_items layer.Null size child is h = false≢true h
no_fixed_items _ size child is h = false≢true is

no_fields : (x : Layer) (children : Columns) → is_null_type x ≡ true → has_field_types x children ≡ true → ⊥
no_fields layer.Null children is h = false≢true h
no_fields _ children is h = false≢true is

no_children : (x : Layer) (offsets : Option (List ℤ)) (children : Columns) → is_null_type x ≡ true → has_child_types x offsets children ≡ true → ⊥
no_children layer.Null offsets children is h = false≢true h
no_children _ offsets children is h = false≢true is

no_values : (x : Layer) (keys : List ℤ) (values : DataType) → is_null_type x ≡ true → has_value_type x keys values ≡ true → ⊥
no_values layer.Null keys values is h = false≢true h
no_values _ keys values is h = false≢true is

-- a sound column of a type of nulls is one of nulls alone
nulls_by_type : (column : Column) → is_sound column ≡ true → physical_type (column_type column) ≡ physical.Null → is_nulls column ≡ true
nulls_by_type (nulls t n) sound is = refl
nulls_by_type (flat t mask stored) sound is =
    absurd (no_stored (physical_type t) stored is
    (parts_of_3 (is_stored_as (physical_type t) stored) (has_size (type_layer t) stored) (mask_fits mask (stored_len stored)) sound).0)
nulls_by_type (lists t mask offsets child) sound is =
    let limit = min (most_offset (physical_type t)) (column_len child) in
    absurd (no_items (type_layer t) (column_type child) ((null_types t).0 is)
    (parts_of_4 (has_item_type (type_layer t) (column_type child)) (are_offsets offsets limit) (mask_fits mask (length offsets - 1))
    (is_sound child) sound).0)
nulls_by_type (fixed_lists t mask size child) sound is =
    absurd (no_fixed_items (type_layer t) size (column_type child) ((null_types t).0 is)
    (parts_of_4 (has_fixed_item_type (type_layer t) size (column_type child)) (are_pieces size (column_len child))
    (mask_fits mask (column_len child / size)) (is_sound child) sound).0)
nulls_by_type (records t mask n children) sound is =
    absurd (no_fields (type_layer t) children ((null_types t).0 is)
    (parts_of_4 (has_field_types (type_layer t) children) (have_len children n) (mask_fits mask n) (are_sound children) sound).0)
nulls_by_type (unions t ids offsets children) sound is =
    absurd (no_children (type_layer t) offsets children ((null_types t).0 is)
    (parts_of_5 (has_child_types (type_layer t) offsets children) (list_all (is_signed 8) ids) (has_places ids offsets children)
    (holds_below (length ids) (has_child_at (type_layer t) ids offsets children)) (are_sound children) sound).0)
nulls_by_type (dictionary t mask keys values) sound is =
    absurd (no_values (type_layer t) keys (column_type values) ((null_types t).0 is)
    (parts_of_4 (has_value_type (type_layer t) keys (column_type values)) (mask_fits mask (length keys))
    (holds_below (length keys) (has_value_at mask keys (column_len values))) (is_sound values) sound).0)

type_of_nulls : (column : Column) → is_sound column ≡ true → is_nulls column ≡ true → physical_type (column_type column) ≡ physical.Null
type_of_nulls (nulls t n) sound is = (null_types t).1 sound
type_of_nulls _ sound is = absurd (false≢true is)

-- a test of the type of a sound column tells whether it is of nulls alone
tells_nulls : (column : Column) (test : Bool) → is_sound column ≡ true → (IsTrue test ↔ (physical_type (column_type column) ≡ physical.Null))
    → is_nulls column ≡ test
tells_nulls column true sound exact = nulls_by_type column sound (exact.0 refl)
tells_nulls column false sound exact = elim (is_nulls column) as (λ b. is_nulls column ≡ b → b ≡ false) [
  | true ↦ λ is. absurd (false≢true (exact.1 (type_of_nulls column sound is)))
  | false ↦ λ is. refl
] refl

told : (column : Column) (t : DataType) (test : Bool) → is_sound column ≡ true → t ≡ column_type column
    → (IsTrue test ↔ (physical_type t ≡ physical.Null)) → is_nulls column ≡ test
told column t test sound is exact =
    tells_nulls column test sound (subst (λ (u : DataType). IsTrue test ↔ (physical_type u ≡ physical.Null)) is exact)

-- all slots of nulls alone are null, and of others those that the mask says
pub all_null : (column : Column) (t : DataType) (test : Bool) → is_sound column ≡ true → t ≡ column_type column
    → (IsTrue test ↔ (physical_type t ≡ physical.Null)) → test ≡ true → null_count_of column ≡ column_len column
all_null column t test sound is exact h =
    ap (λ b. if b then column_len column else unset_in (column_mask column)) (told column t test sound is exact ∙ h)

pub masked_null : (column : Column) (t : DataType) (test : Bool) → is_sound column ≡ true → t ≡ column_type column
    → (IsTrue test ↔ (physical_type t ≡ physical.Null)) → test ≡ false → null_count_of column ≡ unset_in (column_mask column)
masked_null column t test sound is exact h =
    ap (λ b. if b then column_len column else unset_in (column_mask column)) (told column t test sound is exact ∙ h)

pub each_null : (column : Column) (t : DataType) (test : Bool) (i : ℕ) → is_sound column ≡ true → t ≡ column_type column
    → (IsTrue test ↔ (physical_type t ≡ physical.Null)) → test ≡ true → is_null_at column i ≡ true
each_null column t test i sound is exact h = ap (λ b. b || not (is_valid_at (column_mask column) i)) (told column t test sound is exact ∙ h)

pub marked_null : (column : Column) (t : DataType) (test : Bool) (i : ℕ) → is_sound column ≡ true → t ≡ column_type column
    → (IsTrue test ↔ (physical_type t ≡ physical.Null)) → test ≡ false → is_null_at column i ≡ not (is_valid_at (column_mask column) i)
marked_null column t test i sound is exact h = ap (λ b. b || not (is_valid_at (column_mask column) i)) (told column t test sound is exact ∙ h)
