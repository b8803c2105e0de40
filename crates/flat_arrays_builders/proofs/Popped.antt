-- The last slot of a list taken off.
use Rattle.std.proofs.Common.{◌≡◌, ◌∙◌, ℕ, ◌-◌, Bool, List, [], ◌∷◌, length, refl, ap, sym, arith}
use Rattle.std.specs.Prelude.{Option, Some, None, slice_get, unwrap_or}
use Rattle.flat_arrays_values.specs.columnar_memory.declared.DataType.{DataType}
use Rattle.flat_arrays_values.specs.Flat.{Flat, flat, cut, slots_of, IsMaskOf}
use Rattle.flat_arrays_values.specs.Changes.{Pops}

nothing-left : {V : Type 0} (data_type : DataType) (values : List V) (validity : Option (List Bool)) → length values ≡ 0
    → IsMaskOf (length values) validity → Pops (flat data_type values validity) None (flat data_type values validity)
nothing-left data_type [] None none is = (refl, refl)
nothing-left data_type [] (Some []) none is = (refl, refl)
nothing-left data_type [] (Some (b ∷ bits)) none is = let long = is (b ∷ bits) refl in absurd (omega (arith, long))
nothing-left data_type (value ∷ values) validity none is = absurd (omega arith)

-- no slot is taken off an empty list
pub nothing_popped : {V : Type 0} (a : Flat V) → length a.values ≡ 0 → IsMaskOf (length a.values) a.validity → Pops a None a
nothing_popped a none is = nothing-left a.data_type a.values a.validity none is

pub last_popped : {V : Type 0} (a new : Flat V) (last : ℕ) (slot : Option V) → last ≡ length a.values - 1
    → slice_get (slots_of a) last ≡ Some slot → new ≡ cut a 0 last → Pops a slot new
last_popped a new last slot place found cut_there = (
  cut_there ∙ ap (λ n. cut a 0 n) place,
  sym (ap (λ o. unwrap_or o None) (ap (λ n. slice_get (slots_of a) n) (sym place) ∙ found)),
)
