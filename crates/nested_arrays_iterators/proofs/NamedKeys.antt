-- Keys that name values, those under nulls too.
use Rattle.std.proofs.Common.{◌≡◌, ◌∙◌, ℕ, zero, suc, ◌<◌, List, [], ◌∷◌, length, map, get_or, refl, sym, ap, subst, arith}
use Rattle.std.specs.Prelude.{◌↔◌, ℤ, pos, negsuc, ◌≤ℤ◌, IsTrue, Result, Ok, Err, is_ok, slice_index_or}
use Rattle.std.specs.List.{All}
use Rattle.std.proofs.lemmas.Bool.{false≢true}
use Rattle.std.proofs.lemmas.List.{length-map}
use Rattle.nested_arrays_core.proofs.columnar_memory_lemmas.buffer_lemmas.Runs.{nonnegative}
use Rattle.nested_arrays_core.specs.columnar_memory.declared.DataType.{DataType}
use Rattle.nested_arrays_core.specs.columnar_memory.declared.Error.{Error}
use Rattle.nested_arrays_core.specs.flat_arrays.Flat.{Flat}
use Rattle.nested_arrays_core.specs.flat_arrays.Results.{AreChecked, IsPlaceBelow}
use Rattle.nested_arrays_core.specs.columns.StoredColumns.{Column, column_len, place_of}
use Rattle.nested_arrays_core.specs.Dictionaries.{keyed_by}
use Rattle.nested_arrays_iterators.specs.NamedValues.{AreNamed}

-- a number below a length, as a key
abbrev IsPlace : ℕ → ℤ → Type 0
IsPlace n key = (pos 0 ≤ℤ key) × (place_of key < n)

is_place : (n : ℕ) (key : ℤ) → IsPlaceBelow n key → IsPlace n key
is_place n key h = (nonnegative key h.0 h.1, subst (λ (z : ℤ). place_of z < n) (sym h.1) h.2)

place_below : (n : ℕ) (key : ℤ) → IsPlace n key → IsPlaceBelow n key
place_below n (pos k) h = (k, refl, h.1)
place_below n (negsuc k) h = absurd h.0.le

-- the key at a place is that of an item
key_there : {K : Type 0} (value : K → ℤ) (keys : List K) (i : ℕ) → i < length keys
    → (x : K) × (slice_index_or (map value keys) i (pos 0) ≡ value x) × (get_or keys i x ≡ x)
key_there value [] i small = absurd (omega arith)
key_there value (x ∷ keys) zero small = (x, refl, refl)
key_there value (x ∷ keys) (suc i) small = key_there value keys i (omega arith)

key_of : {K : Type 0} (value : K → ℤ) (keys : List K) (i : ℕ) (d : K) → i < length keys
    → slice_index_or (map value keys) i (pos 0) ≡ value (slice_index_or keys i d)
key_of value [] i d small = absurd (omega arith)
key_of value (x ∷ keys) zero d small = refl
key_of value (x ∷ keys) (suc i) d small = key_of value keys i d (omega arith)

module _ {K : Type 0} (value : K → ℤ) (t : DataType) (keys : Flat K) (values : Column) where
  abbrev whole : Column
  whole = keyed_by value t keys values

  abbrev ArePlaces : Type 0
  ArePlaces = All (λ key. IsPlaceBelow (column_len values) (value key)) keys.values

  places_named : ArePlaces → AreNamed whole
  places_named all i small =
      let within : i < length keys.values = omega (arith, small, length-map keys.values value) in
      let there = key_there value keys.values i within in
      is_place (column_len values) (slice_index_or (map value keys.values) i (pos 0))
      (subst (λ (z : ℤ). IsPlaceBelow (column_len values) z) (sym there.1)
      (subst (λ (key : K). IsPlaceBelow (column_len values) (value key)) there.2 (all i there.0 within)))

  named_places : AreNamed whole → ArePlaces
  named_places named k d small =
      place_below (column_len values) (value (slice_index_or keys.values k d))
      (subst (λ (z : ℤ). IsPlace (column_len values) z) (key_of value keys.values k d small)
      (named k (omega (arith, small, length-map keys.values value))))

  checked : (r : Result (Unit {0}) Error) → AreChecked value keys.values (column_len values) r → IsTrue (is_ok r) ↔ AreNamed whole
  checked (Ok u) h = (λ is. places_named h, λ named. refl)
  checked (Err e) h = (λ is. absurd (false≢true is), λ named. absurd (h.1 (named_places named)))

-- whether keys pass the check tells whether each names a value
pub checked_named : {K : Type 0} (value : K → ℤ) (c : Column) (t : DataType) (keys : Flat K) (values : Column) (seen : List K) (count : ℕ)
    (r : Result (Unit {0}) Error) → keyed_by value t keys values ≡ c → seen ≡ keys.values → count ≡ column_len values
    → AreChecked value seen count r → IsTrue (is_ok r) ↔ AreNamed c
checked_named {K} value c t keys values seen count r is same counted h =
    subst (λ (d : Column). IsTrue (is_ok r) ↔ AreNamed d) is
    (checked value t keys values r (subst (λ (n : ℕ). AreChecked value keys.values n r) counted
    (subst (λ (ks : List K). AreChecked value ks count r) same h)))
