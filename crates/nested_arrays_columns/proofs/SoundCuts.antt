-- A cut of a sound column is sound.
use Rattle.std.proofs.Common.{◌≡◌, ℕ, zero, suc, ◌+◌, ◌-◌, ◌*◌, ◌≤◌, ◌<◌, List, [], ◌∷◌, length, refl, sym, ap, ◌∙◌, arith, true}
use Rattle.std.specs.Prelude.{Bool, ℤ, pos, min, ◌/◌, ◌&&◌, ◌||◌, not, ◌==◌, Option, Some, None, nat_le, nat_lt, int_le, slice_index, slice_index_or}
use Rattle.std.specs.List.{list_all}
use Rattle.std.proofs.lemmas.Bool.{and_parts, and_from, eq-eqb, eqb-true, leb-true, lt-ltb, ltb-true, false≢true}
use Rattle.columnar_memory_core.specs.declared.DataType.{DataType}
use Rattle.columnar_memory_core.specs.declared.DataType.TheOpen as layer
use Rattle.columnar_memory_core.specs.declared.Field.{Field}
use Rattle.columnar_memory_core.specs.declared.UnionMode.TheVariants as modes
use Rattle.columnar_memory_core.specs.Equality.{same_type}
use Rattle.columnar_memory_core.specs.Layouts.{physical_type}
use Rattle.nested_arrays_columns.specs.Kinds.{is_signed, is_key, most_offset}
use Rattle.nested_arrays_columns.specs.StoredColumns.{Column, Columns, nulls, flat, lists, fixed_lists, records, unions, dictionary, no_column}
use Rattle.nested_arrays_columns.specs.StoredColumns.{column_then, cut_list, cut_mask, cut_stored, stored_len, column_type, column_len, type_layer}
use Rattle.nested_arrays_columns.specs.StoredColumns.{place_of, child_number, cut, cut_each}
use Rattle.nested_arrays_columns.specs.SoundColumns.{holds_below, mask_fits, are_offsets, are_pieces, is_stored_as, has_size, has_item_type}
use Rattle.nested_arrays_columns.specs.SoundColumns.{has_fixed_item_type, has_value_type, have_types, has_field_types, has_an_id_each}
use Rattle.nested_arrays_columns.specs.SoundColumns.{has_child_types, column_lens, have_len, has_value_at, has_child_at, is_offset, has_places}
use Rattle.nested_arrays_columns.specs.SoundColumns.{is_sound, are_sound}
use Rattle.nested_arrays_columns.proofs.Windows.{get_or-cut_list, length-cut_list}
use Rattle.nested_arrays_columns.proofs.Conditions.{parts_of_3, parts_of_4, parts_of_5, holds_at, holds_from, list_all-cut_list}
use Rattle.nested_arrays_columns.proofs.Cuts.{is_valid_at-cut_mask, column_type-cut}
use Rattle.nested_arrays_columns.proofs.CutStored.{mask_fits-cut, are_offsets-cut, first_offset, length-cut_offsets, pieces_within, are_pieces-cut}
use Rattle.nested_arrays_columns.proofs.CutStored.{is_stored_as-cut, has_size-cut}
use Rattle.nested_arrays_columns.proofs.CutLengths.{column_len-cut, stored_len-cut_stored}

from_3 : (a b c : Bool) → a ≡ true → b ≡ true → c ≡ true → (a && b && c) ≡ true
from_3 a b c x y z = and_from (a && b) c (and_from a b x y) z

from_4 : (a b c d : Bool) → a ≡ true → b ≡ true → c ≡ true → d ≡ true → (a && b && c && d) ≡ true
from_4 a b c d x y z w = and_from (a && b && c) d (from_3 a b c x y z) w

from_5 : (a b c d e : Bool) → a ≡ true → b ≡ true → c ≡ true → d ≡ true → e ≡ true → (a && b && c && d && e) ≡ true
from_5 a b c d e x y z w v = and_from (a && b && c && d) e (from_4 a b c d x y z w) v

-- ---- types

have_types-cut : (fields : List Field) (cs : Columns) (o n : ℕ) → have_types fields (cut_each cs o n) ≡ have_types fields cs
have_types-cut [] no_column o n = refl
have_types-cut [] (column_then c cs) o n = refl
have_types-cut (field ∷ fields) no_column o n = refl
have_types-cut (field ∷ fields) (column_then c cs) o n = λ j. same_type field.data_type (column_type-cut c o n j) && have_types-cut fields cs o n j

has_field_types-cut : (type_layer : layer.DataType-F DataType Field) (cs : Columns) (o n : ℕ) → has_field_types type_layer cs ≡ true
    → has_field_types type_layer (cut_each cs o n) ≡ true
has_field_types-cut (layer.Struct (field ∷ fields)) cs o n h = have_types-cut (field ∷ fields) cs o n ∙ h
has_field_types-cut _ cs o n h = absurd (false≢true h)

has_child_types-cut : (type_layer : layer.DataType-F DataType Field) (cs : Columns) (o n : ℕ) → has_child_types type_layer None cs ≡ true
    → has_child_types type_layer None (cut_each cs o n) ≡ true
has_child_types-cut (layer.Union fields ids modes.Sparse) cs o n h =
    ap (λ b. has_an_id_each ids (length fields) && b) (have_types-cut fields cs o n) ∙ h
has_child_types-cut _ cs o n h = absurd (false≢true h)

has_offset_types-cut : (type_layer : layer.DataType-F DataType Field) (offsets others : List ℤ) (cs : Columns)
    → has_child_types type_layer (Some offsets) cs ≡ true → has_child_types type_layer (Some others) cs ≡ true
has_offset_types-cut (layer.Union fields ids modes.Dense) offsets others cs h = h
has_offset_types-cut _ offsets others cs h = absurd (false≢true h)

has_value_type-cut : (type_layer : layer.DataType-F DataType Field) (keys : List ℤ) (values : DataType) (o n : ℕ)
    → has_value_type type_layer keys values ≡ true → has_value_type type_layer (cut_list keys o n) values ≡ true
has_value_type-cut (layer.Dictionary key value is_ordered) keys values o n h =
    let parts = and_parts (same_type value values) (list_all (is_key key) keys) h in
    and_from (same_type value values) (list_all (is_key key) (cut_list keys o n)) parts.0 (list_all-cut_list (is_key key) keys o n parts.1)
has_value_type-cut _ keys values o n h = absurd (false≢true h)

-- ---- lengths and places of children

-- each child of a cut has its length
have_len-cut : (cs : Columns) (o n len : ℕ) → are_sound cs ≡ true → have_len cs len ≡ true → o + n ≤ len → have_len (cut_each cs o n) n ≡ true
have_len-cut no_column o n len sound same within = refl
have_len-cut (column_then c cs) o n len sound same within =
    let sounds = and_parts (is_sound c) (are_sound cs) sound in
    let sames = and_parts (column_len c == len) (have_len cs len) same in
    and_from (column_len (cut c o n) == n) (have_len (cut_each cs o n) n)
    (eq-eqb (column_len (cut c o n)) n (column_len-cut c o n sounds.0 (omega (arith, eqb-true (column_len c) len sames.0))))
    (have_len-cut cs o n len sounds.1 sames.1 within)

-- so has the child of a number, where there is one
len_of_child : (cs : Columns) (o n len k : ℕ) → are_sound cs ≡ true → have_len cs len ≡ true → o + n ≤ len → 0 < slice_index (column_lens cs) k
    → slice_index (column_lens (cut_each cs o n)) k ≡ n
len_of_child no_column o n len k sound same within some = absurd (omega arith)
len_of_child (column_then c cs) o n len zero sound same within some =
    let sounds = and_parts (is_sound c) (are_sound cs) sound in
    let sames = and_parts (column_len c == len) (have_len cs len) same in
    column_len-cut c o n sounds.0 (omega (arith, eqb-true (column_len c) len sames.0))
len_of_child (column_then c cs) o n len (suc k) sound same within some =
    len_of_child cs o n len k (and_parts (is_sound c) (are_sound cs) sound).1 (and_parts (column_len c == len) (have_len cs len) same).1 within some

-- a slot of a cut of a sparse union has its child
sparse-cut : (type_layer : layer.DataType-F DataType Field) (ids : List ℤ) (cs : Columns) (o n i : ℕ) → are_sound cs ≡ true
    → have_len cs (length ids) ≡ true → o + n ≤ length ids → i < n
    → has_child_at type_layer ids None cs (o + i) ≡ true → has_child_at type_layer (cut_list ids o n) None (cut_each cs o n) i ≡ true
sparse-cut type_layer ids cs o n i sound same within small h =
    let k = child_number type_layer (slice_index_or ids (o + i) (pos 0)) in
    let there = ltb-true (o + i) (slice_index (column_lens cs) k) h in
    ap (λ id. nat_lt i (slice_index (column_lens (cut_each cs o n)) (child_number type_layer id))) (get_or-cut_list ids o n i (pos 0) small)
    ∙ ap (nat_lt i) (len_of_child cs o n (length ids) k sound same within (omega arith)) ∙ lt-ltb i n small

dense-cut : (type_layer : layer.DataType-F DataType Field) (ids offsets : List ℤ) (cs : Columns) (o n i : ℕ) → i < n
    → has_child_at type_layer (cut_list ids o n) (Some (cut_list offsets o n)) cs i ≡ has_child_at type_layer ids (Some offsets) cs (o + i)
dense-cut type_layer ids offsets cs o n i small =
    λ j. nat_lt (place_of (get_or-cut_list offsets o n i (pos 0) small j))
    (slice_index (column_lens cs) (child_number type_layer (get_or-cut_list ids o n i (pos 0) small j)))

value-cut : (mask : Option (List Bool)) (keys : List ℤ) (count o n i : ℕ) → i < n
    → has_value_at (cut_mask mask o n) (cut_list keys o n) count i ≡ has_value_at mask keys count (o + i)
value-cut mask keys count o n i small =
    λ j. not (is_valid_at-cut_mask mask o n i small j) || (int_le (pos 0) (get_or-cut_list keys o n i (pos 0) small j)
    && nat_lt (place_of (get_or-cut_list keys o n i (pos 0) small j)) count)

-- ---- columns

mutual
  pub is_sound-cut : (c : Column) (o n : ℕ) → is_sound c ≡ true → o + n ≤ column_len c → is_sound (cut c o n) ≡ true
  is_sound-cut (nulls data_type count) o n h within = h
  is_sound-cut (flat data_type mask stored) o n h within =
      let layout = physical_type data_type in
      let parts = parts_of_3 (is_stored_as layout stored) (has_size (type_layer data_type) stored) (mask_fits mask (stored_len stored)) h in
      let part = cut_stored stored o n in
      from_3 (is_stored_as layout part) (has_size (type_layer data_type) part) (mask_fits (cut_mask mask o n) (stored_len part))
      (is_stored_as-cut layout stored o n parts.0 within) (has_size-cut (type_layer data_type) stored o n parts.1)
      (ap (mask_fits (cut_mask mask o n)) (stored_len-cut_stored layout stored o n parts.0 within)
      ∙ mask_fits-cut mask (stored_len stored) o n parts.2 within)
  is_sound-cut (lists data_type mask offsets child) o n h within =
      let limit = min (most_offset (physical_type data_type)) (column_len child) in
      let typed = has_item_type (type_layer data_type) (column_type child) in
      let parts = parts_of_4 typed (are_offsets offsets limit) (mask_fits mask (length offsets - 1)) (is_sound child) h in
      let part = cut_list offsets o (n + 1) in
      let size : length part - 1 ≡ n = omega (arith, length-cut_offsets offsets o n (first_offset offsets limit parts.1) within) in
      from_4 typed (are_offsets part limit) (mask_fits (cut_mask mask o n) (length part - 1)) (is_sound child)
      parts.0 (are_offsets-cut offsets limit o n parts.1 within) (ap (mask_fits (cut_mask mask o n)) size
      ∙ mask_fits-cut mask (length offsets - 1) o n parts.2 within) parts.3
  is_sound-cut (fixed_lists data_type mask size child) o n h within =
      let typed = has_fixed_item_type (type_layer data_type) size in
      let parts = parts_of_4 (typed (column_type child)) (are_pieces size (column_len child)) (mask_fits mask (column_len child / size))
      (is_sound child) h in
      let some = leb-true 1 size (and_parts (nat_le 1 size) (size * (column_len child / size) == column_len child) parts.1).0 in
      let part = cut child (size * o) (size * n) in
      let inside = pieces_within size (column_len child) o n within in
      let len : column_len part ≡ size * n = column_len-cut child (size * o) (size * n) parts.3 inside in
      from_4 (typed (column_type part)) (are_pieces size (column_len part)) (mask_fits (cut_mask mask o n) (column_len part / size)) (is_sound part)
      (ap typed (column_type-cut child (size * o) (size * n)) ∙ parts.0) (ap (are_pieces size) len ∙ are_pieces-cut size n some)
      (ap (mask_fits (cut_mask mask o n)) (column_len-cut (fixed_lists data_type mask size child) o n h within)
      ∙ mask_fits-cut mask (column_len child / size) o n parts.2 within)
      (is_sound-cut child (size * o) (size * n) parts.3 inside)
  is_sound-cut (records data_type mask count children) o n h within =
      let parts = parts_of_4 (has_field_types (type_layer data_type) children) (have_len children count) (mask_fits mask count)
      (are_sound children) h in
      let part = cut_each children o n in
      from_4 (has_field_types (type_layer data_type) part) (have_len part n) (mask_fits (cut_mask mask o n) n) (are_sound part)
      (has_field_types-cut (type_layer data_type) children o n parts.0) (have_len-cut children o n count parts.3 parts.1 within)
      (mask_fits-cut mask count o n parts.2 within) (are_sound-cut children o n count parts.3 parts.1 within)
  is_sound-cut (unions data_type ids None children) o n h within =
      let typed = type_layer data_type in
      let parts = parts_of_5 (has_child_types typed None children) (list_all (is_signed 8) ids) (has_places ids None children)
      (holds_below (length ids) (has_child_at typed ids None children)) (are_sound children) h in
      let part = cut_each children o n in
      let some = cut_list ids o n in
      let len : length some ≡ n = length-cut_list ids o n within in
      from_5 (has_child_types typed None part) (list_all (is_signed 8) some) (has_places some None part)
      (holds_below (length some) (has_child_at typed some None part)) (are_sound part)
      (has_child_types-cut typed children o n parts.0) (list_all-cut_list (is_signed 8) ids o n parts.1)
      (ap (have_len part) len ∙ have_len-cut children o n (length ids) parts.4 parts.2 within)
      (holds_from (length some) (has_child_at typed some None part) (λ i small.
      sparse-cut typed ids children o n i parts.4 parts.2 within (omega arith)
      (holds_at (length ids) (has_child_at typed ids None children) (o + i) parts.3 (omega arith))))
      (are_sound-cut children o n (length ids) parts.4 parts.2 within)
  is_sound-cut (unions data_type ids (Some offsets) children) o n h within =
      let typed = type_layer data_type in
      let parts = parts_of_5 (has_child_types typed (Some offsets) children) (list_all (is_signed 8) ids)
      (has_places ids (Some offsets) children) (holds_below (length ids) (has_child_at typed ids (Some offsets) children))
      (are_sound children) h in
      let some = cut_list ids o n in
      let others = cut_list offsets o n in
      let len : length some ≡ n = length-cut_list ids o n within in
      let places = and_parts (length offsets == length ids) (list_all is_offset offsets) parts.2 in
      let same : length others ≡ length some = length-cut_list offsets o n (omega (arith, eqb-true (length offsets) (length ids) places.0))
      ∙ sym len in
      from_5 (has_child_types typed (Some others) children) (list_all (is_signed 8) some) (has_places some (Some others) children)
      (holds_below (length some) (has_child_at typed some (Some others) children)) (are_sound children)
      (has_offset_types-cut typed offsets others children parts.0) (list_all-cut_list (is_signed 8) ids o n parts.1)
      (and_from (length others == length some) (list_all is_offset others) (eq-eqb (length others) (length some) same)
      (list_all-cut_list is_offset offsets o n places.1))
      (holds_from (length some) (has_child_at typed some (Some others) children) (λ i small.
      dense-cut typed ids offsets children o n i (omega arith)
      ∙ holds_at (length ids) (has_child_at typed ids (Some offsets) children) (o + i) parts.3 (omega arith)))
      parts.4
  is_sound-cut (dictionary data_type mask keys values) o n h within =
      let count = column_len values in
      let parts = parts_of_4 (has_value_type (type_layer data_type) keys (column_type values)) (mask_fits mask (length keys))
      (holds_below (length keys) (has_value_at mask keys count)) (is_sound values) h in
      let some = cut_list keys o n in
      let len : length some ≡ n = length-cut_list keys o n within in
      let part = cut_mask mask o n in
      from_4 (has_value_type (type_layer data_type) some (column_type values)) (mask_fits part (length some))
      (holds_below (length some) (has_value_at part some count)) (is_sound values)
      (has_value_type-cut (type_layer data_type) keys (column_type values) o n parts.0) (ap (mask_fits part) len
      ∙ mask_fits-cut mask (length keys) o n parts.1 within)
      (holds_from (length some) (has_value_at part some count) (λ i small.
      value-cut mask keys count o n i (omega arith) ∙ holds_at (length keys) (has_value_at mask keys count) (o + i) parts.2 (omega arith)))
      parts.3

  are_sound-cut : (cs : Columns) (o n len : ℕ) → are_sound cs ≡ true → have_len cs len ≡ true → o + n ≤ len → are_sound (cut_each cs o n) ≡ true
  are_sound-cut no_column o n len sound same within = refl
  are_sound-cut (column_then c cs) o n len sound same within =
      let sounds = and_parts (is_sound c) (are_sound cs) sound in
      let sames = and_parts (column_len c == len) (have_len cs len) same in
      and_from (is_sound (cut c o n)) (are_sound (cut_each cs o n))
      (is_sound-cut c o n sounds.0 (omega (arith, eqb-true (column_len c) len sames.0)))
      (are_sound-cut cs o n len sounds.1 sames.1 within)
