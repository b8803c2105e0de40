-- A union is sound where its parts are.
use Rattle.std.proofs.Common.{◌≡◌, ℕ, zero, suc, ◌<◌, List, [], ◌∷◌, length, get_or, true, false, refl, sym, ap, subst, ◌∙◌, ◌≤◌, take, add-one, arith}
use Rattle.std.specs.Prelude.{ℤ, pos, ◌+◌, ◌^◌, Bool, ◌&&◌, Option, Some, int_le, nat_lt, slice_index, slice_index_or}
use Rattle.std.specs.List.{list_all}
use Rattle.std.proofs.lemmas.Bool.{and_from, and_parts, false≢true, le-leb, lt-ltb, ltb-true}
use Rattle.std.proofs.lemmas.List.Folds.{list_all_more}
use Rattle.nested_arrays_parts.specs.columnar_memory.declared.DataType.{DataType}
use Rattle.nested_arrays_parts.specs.columns.Kinds.{is_signed}
use Rattle.nested_arrays_parts.specs.columns.SoundColumns.{are_sound, column_lens, has_child_at, has_child_types, has_places, holds_below}
use Rattle.nested_arrays_parts.specs.columns.SoundColumns.{is_offset, is_sound}
use Rattle.nested_arrays_parts.specs.columns.StoredColumns.{Column, Columns, child_number, column_len, column_type, in_columns, place_of, type_layer}
use Rattle.nested_arrays_parts.specs.columns.StoredColumns.{union_place, unions}
use Rattle.nested_arrays_parts.proofs.columns_lemmas.Conditions.{holds_at, parts_of_5}
use Rattle.nested_arrays_parts.proofs.flat_lemmas.Layers.{Layer}
use Rattle.nested_arrays_arrays.specs.Parts.{column_children, column_ids, column_places}

pub union_whole : (data_type : DataType) (ids : List ℤ) (offsets : Option (List ℤ)) (columns : List Column)
    → has_child_types (type_layer data_type) offsets (in_columns columns) ≡ true → list_all (is_signed 8) ids ≡ true
    → (has_places ids offsets (in_columns columns)
    && holds_below (length ids) (has_child_at (type_layer data_type) ids offsets (in_columns columns))) ≡ true
    → are_sound (in_columns columns) ≡ true → is_sound (unions data_type ids offsets (in_columns columns)) ≡ true
union_whole data_type ids offsets columns typed signed placed sound =
    let a = has_child_types (type_layer data_type) offsets (in_columns columns) in
    let b = list_all (is_signed 8) ids in
    let c = has_places ids offsets (in_columns columns) in
    let d = holds_below (length ids) (has_child_at (type_layer data_type) ids offsets (in_columns columns)) in
    let both = and_parts c d placed in
    and_from (a && b && c && d) (are_sound (in_columns columns))
    (and_from (a && b && c) d (and_from (a && b) c (and_from a b typed signed) both.0) both.1) sound

pub union_parts : (data_type : DataType) (ids : List ℤ) (offsets : Option (List ℤ)) (columns : List Column)
    → is_sound (unions data_type ids offsets (in_columns columns)) ≡ true
    → (has_child_types (type_layer data_type) offsets (in_columns columns) ≡ true) × ((has_places ids offsets (in_columns columns)
    && holds_below (length ids) (has_child_at (type_layer data_type) ids offsets (in_columns columns))) ≡ true)
union_parts data_type ids offsets columns sound =
    let c = has_places ids offsets (in_columns columns) in
    let d = holds_below (length ids) (has_child_at (type_layer data_type) ids offsets (in_columns columns)) in
    let parts = parts_of_5 (has_child_types (type_layer data_type) offsets (in_columns columns)) (list_all (is_signed 8) ids) c d
    (are_sound (in_columns columns)) sound in
    (parts.0, and_from c d parts.2 parts.3)

-- the length of a child, by its number
pub room_there : (columns : List Column) (k : ℕ) (column : Column) → k < length columns → column ≡ get_or columns k column
    → slice_index (column_lens (in_columns columns)) k ≡ column_len column
room_there [] k column small is = absurd (omega arith)
room_there (first ∷ columns) zero column small is = ap column_len (sym is)
room_there (first ∷ columns) (suc k) column small is = room_there columns k column (omega arith) is

pub room_nowhere : (columns : List Column) (k : ℕ) → length columns ≤ k → slice_index (column_lens (in_columns columns)) k ≡ 0
room_nowhere [] k small = refl
room_nowhere (first ∷ columns) zero small = absurd (omega arith)
room_nowhere (first ∷ columns) (suc k) small = room_nowhere columns k (omega arith)

-- a test that fails at a place below a number does not hold below it
pub fails_below : (n : ℕ) (test : ℕ → Bool) (i : ℕ) → i < n → test i ≡ false → holds_below n test ≡ false
fails_below n test i small fails = elim (holds_below n test) as (λ b. holds_below n test ≡ b → b ≡ false) [
  | true ↦ λ holds. absurd (false≢true (sym fails ∙ holds_at n test i holds small))
  | false ↦ λ holds. refl
] refl

not_below : (a b : ℕ) → b ≤ a → nat_lt a b ≡ false
not_below a b h = elim (nat_lt a b) as (λ v. nat_lt a b ≡ v → v ≡ false) [
  | true ↦ λ is. absurd (omega (arith, ltb-true a b is, h))
  | false ↦ λ is. refl
] refl

-- a slot that is past its child is not within it
pub past_child : (x : Layer) (ids : List ℤ) (offsets : Option (List ℤ)) (children : Columns) (i room : ℕ)
    → room ≡ slice_index (column_lens children) (child_number x (slice_index_or ids i (pos 0))) → room ≤ union_place offsets i
    → i < length ids → holds_below (length ids) (has_child_at x ids offsets children) ≡ false
past_child x ids offsets children i room is past small =
    let own = slice_index (column_lens children) (child_number x (slice_index_or ids i (pos 0))) in
    fails_below (length ids) (has_child_at x ids offsets children) i small (not_below (union_place offsets i) own (omega (arith, is, past)))

-- a number of 31 bits is an offset
pub offset_is : (offset : ℤ) (place : ℕ) → offset ≡ pos place → place ≤ 0x7fff_ffff → is_offset offset ≡ true
offset_is offset place is small = ap is_offset is
    ∙ and_from (int_le (pos 0) (pos place)) (is_signed 32 (pos place)) (le-leb 0 place (omega arith)) (lt-ltb place (2 ^ 31) (omega (arith, small)))

-- one more slot of a dense union that is within its child
pub dense_more : (x : Layer) (ids offsets : List ℤ) (children : Columns) (i place room : ℕ) → i < length offsets
    → slice_index_or offsets i (pos 0) ≡ pos place → place ≤ 0x7fff_ffff
    → room ≡ slice_index (column_lens children) (child_number x (slice_index_or ids i (pos 0))) → place < room
    → holds_below i (has_child_at x ids (Some offsets) children) ≡ true → list_all is_offset (take i offsets) ≡ true
    → (holds_below (i + 1) (has_child_at x ids (Some offsets) children) ≡ true) × (list_all is_offset (take (i + 1) offsets) ≡ true)
dense_more x ids offsets children i place room small is fits own within placed whole =
    let test = has_child_at x ids (Some offsets) children in
    let there : test i ≡ true =
    ap (λ o. nat_lt (place_of o) (slice_index (column_lens children) (child_number x (slice_index_or ids i (pos 0))))) is
    ∙ ap (nat_lt place) (sym own) ∙ lt-ltb place room within in (
      ap (λ n. holds_below n test) (add-one i) ∙ and_from (holds_below i test) (test i) placed there,
      list_all_more is_offset offsets i (pos 0) small
          ∙ and_from (list_all is_offset (take i offsets)) (is_offset (slice_index_or offsets i (pos 0))) whole
          (offset_is (slice_index_or offsets i (pos 0)) place is fits),
    )

and_false : (a : Bool) → (a && false) ≡ false
and_false true = refl
and_false false = refl

-- one that is past its child
pub dense_past : (x : Layer) (ids offsets : List ℤ) (children : Columns) (i place room : ℕ) → i < length ids
    → slice_index_or offsets i (pos 0) ≡ pos place
    → room ≡ slice_index (column_lens children) (child_number x (slice_index_or ids i (pos 0))) → room ≤ place
    → false ≡ (list_all is_offset offsets && holds_below (length ids) (has_child_at x ids (Some offsets) children))
dense_past x ids offsets children i place room small is own past =
    let at : union_place (Some offsets) i ≡ place = ap place_of is in
    let fails = past_child x ids (Some offsets) children i room own (omega (arith, at, past)) small in
    sym (ap (λ b. list_all is_offset offsets && b) fails ∙ and_false (list_all is_offset offsets))

-- each slot of a sound union has its child
pub child_there : (c : Column) (data_type : DataType) (ids : List ℤ) (offsets : Option (List ℤ)) (columns : List Column) (i : ℕ)
    → unions data_type ids offsets (in_columns columns) ≡ c → is_sound (unions data_type ids offsets (in_columns columns)) ≡ true
    → i < column_len c
    → has_child_at (type_layer (column_type c)) (column_ids c) (column_places c) (column_children c) i ≡ true
child_there c data_type ids offsets columns i is sound small =
    let test = has_child_at (type_layer data_type) ids offsets (in_columns columns) in
    let parts = parts_of_5 (has_child_types (type_layer data_type) offsets (in_columns columns)) (list_all (is_signed 8) ids)
    (has_places ids offsets (in_columns columns)) (holds_below (length ids) test) (are_sound (in_columns columns)) sound in
    subst (λ (whole : Column). i < column_len whole
    → has_child_at (type_layer (column_type whole)) (column_ids whole) (column_places whole) (column_children whole) i ≡ true) is
    (holds_at (length ids) test i parts.3) small
