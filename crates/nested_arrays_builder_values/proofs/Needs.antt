-- What a slot needs of the values of its dictionary.
use Rattle.std.proofs.Common.{◌≡◌, ◌∙◌, ℕ, zero, suc, ◌+◌, ◌<◌, ◌≤◌, List, [], ◌∷◌, length, take, get_or, true, false, sym, ap, arith}
use Rattle.std.specs.Prelude.{◌||◌, not}
use Rattle.std.proofs.lemmas.Bool.{or_left, or_right}
use Rattle.nested_arrays_builder_parts.specs.arrays.columns.Cells.{is_null}
use Rattle.nested_arrays_builder_parts.specs.arrays.columns.FreshColumns.{key_among}
use Rattle.nested_arrays_builder_parts.specs.arrays.columns.SameSlots.{are_distinct, is_among, same_slot}
use Rattle.nested_arrays_builder_parts.specs.arrays.columns.Slots.{Slot, null}
use Rattle.nested_arrays_builder_parts.specs.columns.OpenParts.{used_by}
use Rattle.nested_arrays_builder_parts.proofs.columns_lemmas.Values.{among_at, key_at}
use Rattle.nested_arrays_builder_values.specs.Uses.{greatest, use_among}

-- ---- what a slot needs

pub null_needs : (values : List Slot) (s : Slot) → is_null s ≡ true
    → (0 ≡ use_among values s) × ((is_null s || is_among s values) ≡ true)
null_needs values s none =
    (sym (ap (λ b. used_by (not b) (key_among values s)) none), or_left (is_null s) (is_among s values) none)

pub value_needs : (values : List Slot) (s : Slot) (k : ℕ) → are_distinct values ≡ true → is_null s ≡ false → k < length values
    → same_slot s (get_or values k null) ≡ true → (k + 1 ≡ use_among values s) × ((is_null s || is_among s values) ≡ true)
value_needs values s k apart some lt same =
    let key : key_among values s ≡ k = key_at s values k null apart some lt same in
    let next : k + 1 ≡ suc k = omega arith in (
      next ∙ ap suc (sym key) ∙ sym (ap (λ b. used_by (not b) (key_among values s)) some),
      or_right (is_null s) (is_among s values) (among_at s values k null lt same),
    )

-- ---- the greatest

pub greatest_first : (n : ℕ) (ns : List ℕ) → greatest (take n ns) ≤ greatest ns
greatest_first zero ns = omega arith
greatest_first (suc n) [] = omega arith
greatest_first (suc n) (m ∷ ns) = omega (arith, greatest_first n ns)
