-- Whether builders are equal: by their slots alone, whatever their data types, and whatever is stored under a null.
use Rattle.std.specs.Prelude.{◌≡◌, Bool}
use Rattle.std.specs.Bool.{Decides}
use Rattle.std.specs.Option.{option_eq}
use Rattle.std.specs.Cmp.{IsEquivalence, IsPartialEquivalence, partial_equiv_from_equiv, on_equiv}
use Rattle.std.specs.Cmp.Lexicographic.{pointwise, pointwise_decides, lists_equiv, options_equiv}
use Rattle.flat_arrays_values.specs.columnar_memory.Sameness.{equivalence_from_Decides}
use Rattle.flat_arrays_values.specs.Flat.{Flat, slots_of}
use Rattle.flat_arrays_values.specs.FlatEqual.{option_eq-Decides}

-- the slots are the same by this equality of values
abbrev pub same_slots : {V : Type 0} → (V → V → Bool) → Flat V → Flat V → Bool
same_slots eq a b = pointwise (option_eq eq) (slots_of a) (slots_of b)

module _ {V : Type 0} {eq : V → V → Bool} (decides : (x y : V) → Decides (eq x y) (x ≡ y)) where
  pub same_slots-Decides : (a b : Flat V) → Decides (same_slots eq a b) (slots_of a ≡ slots_of b)
  same_slots-Decides a b = pointwise_decides (option_eq-Decides decides) (slots_of a) (slots_of b)

  pub same_slots-equivalence : IsEquivalence (same_slots eq)
  same_slots-equivalence = on_equiv (λ (a : Flat V). slots_of a) (lists_equiv (options_equiv (equivalence_from_Decides eq decides)))

  pub same_slots-per : IsPartialEquivalence (same_slots eq)
  same_slots-per = partial_equiv_from_equiv same_slots-equivalence
