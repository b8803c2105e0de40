-- Builders that grow by the items of an iterator.
use Rattle.std.proofs.Common.{◌≡◌, ℕ, List, [], ◌∷◌, ◌++◌, map, refl, subst, ap, sym, ◌∙◌}
use Rattle.std.proofs.iter.Next.{Yields-more}
use Rattle.std.proofs.iter.runs.Made.{run_of_exit}
use Rattle.std.proofs.lemmas.List.{map-append}
use Rattle.std.specs.Prelude.{Option, Some, None}
use Rattle.std.specs.Iterator.{Yields}
use Rattle.std.specs.Iterator.Runs.{WholeRun}
use Rattle.flat_arrays_bytes.specs.columnar_memory.Growth.{IsGrowthFault}
use Rattle.flat_arrays_bytes.specs.columnar_memory.Spans.{last_of}
use Rattle.flat_arrays_bytes.specs.columnar_memory.declared.Error.{Error}
use Rattle.flat_arrays_bytes.specs.ByteStrings.{ByteStrings}
use Rattle.flat_arrays_byte_values_builders.specs.Growing.{with_slot, with_slots}

-- one more slot behind many
pub with_slots-more : (a : ByteStrings) (slots : List (Option (List ℕ))) (slot : Option (List ℕ))
    → with_slots a (slots ++ slot ∷ []) ≡ with_slot (with_slots a slots) slot
with_slots-more a [] slot = refl
with_slots-more a (s ∷ slots) slot = with_slots-more (with_slot a s) slots slot

-- one more item, whose slot this is
pub item_added : {X : Type 0} (slot : X → Option (List ℕ)) (a now new : ByteStrings) (xs : List X) (x : X) (s : Option (List ℕ)) → s ≡ slot x
    → now ≡ with_slots a (map slot xs) → new ≡ with_slot now s → new ≡ with_slots a (map slot (xs ++ x ∷ []))
item_added slot a now new xs x s is was added =
    added ∙ ap (λ b. with_slot b s) was ∙ ap (with_slot (with_slots a (map slot xs))) is ∙ sym (with_slots-more a (map slot xs) (slot x))
    ∙ ap (λ slots. with_slots a slots) (sym (map-append slot xs (x ∷ [])))

module _ {S X : Type 0} (steps : S → Option X → S → Type 0) (slot : X → Option (List ℕ)) where
  -- a run that ended at an item that was refused, whose slot this is
  pub stopped : (greatest : ℕ) (a : ByteStrings) (given it : S) (xs : List X) (here : S) (x : X) (rest : S) (now new : ByteStrings) (e : Error)
      (s : Option (List ℕ)) → s ≡ slot x → it ≡ given → Yields steps it xs here → steps here (Some x) rest → now ≡ with_slots a (map slot xs)
      → (new ≡ now) × IsGrowthFault greatest (last_of (with_slot now s).offsets) e
      → (ys : List X) × (y : X) × (last : S) × Yields steps given (ys ++ y ∷ []) last × (new ≡ with_slots a (map slot ys))
      × IsGrowthFault greatest (last_of (with_slot new (slot y)).offsets) e
  stopped greatest a given it xs here x rest now new e s is same ran step was refused = (
    xs,
    x,
    rest,
    subst (λ s. Yields steps s (xs ++ x ∷ []) rest) same (Yields-more steps it xs here x rest ran step),
    refused.0 ∙ was,
    subst (λ b. IsGrowthFault greatest (last_of (with_slot b (slot x)).offsets) e) (sym refused.0)
        (subst (λ s. IsGrowthFault greatest (last_of (with_slot now s).offsets) e) is refused.1),
  )

  -- a run that went on to its end
  pub ended : (a : ByteStrings) (given it : S) (xs : List X) (here rest : S) (now : ByteStrings) → it ≡ given → Yields steps it xs here
      → steps here None rest → now ≡ with_slots a (map slot xs) → WholeRun steps given (λ p. now ≡ with_slots a (map slot p.items))
  ended a given it xs here rest now same ran step was =
      let run = run_of_exit steps it xs here ran rest step in
      (run.0, run.1 ∙ same, run.2, was ∙ ap (λ ys. with_slots a (map slot ys)) (sym run.3.0))
