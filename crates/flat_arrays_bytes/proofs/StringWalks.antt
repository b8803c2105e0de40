-- Walks over the slots of an array.
use Rattle.std.proofs.Common.{◌≡◌, ◌∙◌, ℕ, Bool, true, false, List, length, map, replicate, refl, sym, subst}
use Rattle.std.proofs.lemmas.Bool.{eqb-true}
use Rattle.std.proofs.lemmas.List.{length-replicate}
use Rattle.std.specs.Prelude.{Option, Some, None, MatchOption, ◌==◌, if◌then◌else◌}
use Rattle.std.specs.List.{zip}
use Rattle.flat_arrays_values.specs.columnar_memory.Bits.{unset_count}
use Rattle.flat_arrays_values.specs.columnar_memory.declared.ZipValidity.{ZipValidity}
use Rattle.flat_arrays_values.specs.columnar_memory.declared.ZipValidity.TheVariants.{Required, Optional}
use Rattle.flat_arrays_values.specs.Walks.{slots_left, IsEven}
use Rattle.flat_arrays_values.proofs.WalkSlots.{all_there}
use Rattle.flat_arrays_bytes.specs.ByteStrings.{len_of, marks, slot_of, values_of}
use Rattle.flat_arrays_bytes.specs.ByteWalks.{StandsBeforeSlots}
use Rattle.flat_arrays_bytes.specs.Fits.{IsMaskOf}
use Rattle.flat_arrays_bytes.proofs.Slots.{length_values, none_unset}

module _ {T : Type 0} where
  -- the walk has these slots left, and as many marks as values
  abbrev HasLeft : List (Option (List ℕ)) → ZipValidity T (List (List ℕ)) (List Bool) → Type 0
  HasLeft slots it = IsEven (λ values. values) (λ marks. marks) it × (slots_left (λ values. values) (λ marks. marks) it ≡ slots)

  begins : (values : List (List ℕ)) (mask : List Bool) (it : ZipValidity T (List (List ℕ)) (List Bool)) (all : Bool) → length mask ≡ length values
      → (all ≡ true → unset_count mask ≡ 0) → it ≡ (if all then Required values else Optional (values, mask))
      → HasLeft (map slot_of (zip values mask)) it
  begins values mask it true even none is = subst (HasLeft (map slot_of (zip values mask))) (sym is) (tt, all_there values mask even (none refl))
  begins values mask it false even none is = subst (HasLeft (map slot_of (zip values mask))) (sym is) (sym even, refl)

  stands : (values : List (List ℕ)) (n : ℕ) (validity : Option (List Bool)) (it : ZipValidity T (List (List ℕ)) (List Bool)) → length values ≡ n
      → IsMaskOf n validity
      → MatchOption validity (it ≡ Required values) (λ mask. it ≡ (if unset_count mask == 0 then Required values else Optional (values, mask)))
      → HasLeft (map slot_of (zip values (marks n validity))) it
  stands values n None it count masked is =
      subst (HasLeft (map slot_of (zip values (replicate n true)))) (sym is)
      (tt, all_there values (replicate n true) (length-replicate n true ∙ sym count) (none_unset n))
  stands values n (Some mask) it count masked is =
      begins values mask it (unset_count mask == 0) (masked ∙ sym count) (eqb-true (unset_count mask) 0) is

pub stands_before_slots : {T : Type 0} → StandsBeforeSlots T
stands_before_slots a it masked is = stands (values_of a) (len_of a) a.validity it (length_values a) masked is
