-- Whether arrays are equal: their types and their slots, whatever is stored under a null.
use Rattle.std.specs.Prelude.{◌≡◌, ◌&&◌, Bool, Option, Some, None, is_some, unwrap_or}
use Rattle.std.proofs.Common.{refl, sym, ap}
use Rattle.std.specs.Bool.{Decides}
use Rattle.std.specs.Option.{option_eq}
use Rattle.std.specs.Cmp.{IsEquivalence, IsPartialEquivalence, partial_equiv_from_equiv, and_equiv, on_equiv, first_so, second_so}
use Rattle.std.specs.Cmp.Lexicographic.{pointwise, pointwise_decides, lists_equiv, options_equiv}
use Rattle.columnar_memory_core.specs.Equality.{same_type, same_type-Decides, same_type-equivalence}
use Rattle.columnar_memory_core.specs.Sameness.{equivalence_from_Decides}
use Rattle.flat_arrays_values.specs.Flat.{Flat, slots_of}
use mathlib.Core.Bool.{true≢false}

-- the types are the same, and so are the slots by this equality of values
abbrev pub same_flat : {V : Type 0} → (V → V → Bool) → Flat V → Flat V → Bool
same_flat eq a b = same_type a.data_type b.data_type && pointwise (option_eq eq) (slots_of a) (slots_of b)

-- two arrays have one type and the same slots
pub record AreEqual {V : Type 0} (a b : Flat V) : Type 0 where
  pub types : a.data_type ≡ b.data_type
  pub slots : slots_of a ≡ slots_of b

module _ {V : Type 0} {eq : V → V → Bool} (decides : (x y : V) → Decides (eq x y) (x ≡ y)) where
  pub option_eq-Decides : (p q : Option V) → Decides (option_eq eq p q) (p ≡ q)
  option_eq-Decides None None = (λ h. refl, λ e. refl)
  option_eq-Decides None (Some y) = (λ h. absurd (true≢false (sym h)), λ e. absurd (true≢false (sym (ap is_some e))))
  option_eq-Decides (Some x) None = (λ h. absurd (true≢false (sym h)), λ e. absurd (true≢false (ap is_some e)))
  option_eq-Decides (Some x) (Some y) = (λ h. ap Some ((decides x y).0 h), λ e. (decides x y).1 (ap (λ p. unwrap_or p x) e))

  pub same_flat-Decides : (a b : Flat V) → Decides (same_flat eq a b) (AreEqual a b)
  same_flat-Decides a b =
      let types = same_type-Decides a.data_type b.data_type in
      let slots = pointwise_decides option_eq-Decides (slots_of a) (slots_of b) in (
        λ h. record {
          types = types.0 (first_so (same_type a.data_type b.data_type) (pointwise (option_eq eq) (slots_of a) (slots_of b)) h);
          slots = slots.0 (second_so (same_type a.data_type b.data_type) (pointwise (option_eq eq) (slots_of a) (slots_of b)) h);
        },
        λ e i. types.1 e.types i && slots.1 e.slots i,
      )

  pub same_flat-equivalence : IsEquivalence (same_flat eq)
  same_flat-equivalence = and_equiv (on_equiv (λ (a : Flat V). a.data_type) same_type-equivalence)
      (on_equiv (λ (a : Flat V). slots_of a) (lists_equiv (options_equiv (equivalence_from_Decides eq decides))))

  pub same_flat-per : IsPartialEquivalence (same_flat eq)
  same_flat-per = partial_equiv_from_equiv same_flat-equivalence
