-- Builders made of the items of an iterator, and of the elements of a slice.
use Rattle.std.proofs.Common.{◌≡◌, ℕ, ◌<◌, ◌≤◌, ◌⊎◌, inl, inr, List, [], ◌∷◌, ◌++◌, length, map, take, drop, refl, ap, ap₂, sym, ◌∙◌, arith, subst}
use Rattle.std.proofs.Common.{Bor}
use Rattle.std.proofs.iter.runs.Made.{took}
use Rattle.std.proofs.lemmas.Iterator.{YieldsList, items_from_drains}
use Rattle.std.proofs.lemmas.Iterator.Consumers.{YieldsList-so_far}
use Rattle.std.proofs.lemmas.List.{map-append, map-id, take-append-drop}
use Rattle.std.specs.Prelude.{Option, Some, None, Result, Ok, Err, option_map}
use Rattle.std.specs.Option.{option_copied}
use Rattle.std.specs.Iterator.{DrainsIf, Yields}
use Rattle.flat_arrays_bytes.specs.columnar_memory.Error.{IsOutOfMemory, IsOverflow}
use Rattle.flat_arrays_bytes.specs.columnar_memory.Growth.{IsGrowthFault}
use Rattle.flat_arrays_bytes.specs.columnar_memory.Spans.{last_of}
use Rattle.flat_arrays_bytes.proofs.columnar_memory_lemmas.buffer_lemmas.Runs.{last_of-extended, sum-cons}
use Rattle.flat_arrays_bytes.specs.columnar_memory.declared.Error.{Error}
use Rattle.flat_arrays_bytes.specs.columnar_memory.declared.Error.TheVariants.{NotYetImplemented, InvalidArgumentError, ExternalFormat, OutOfSpec}
use Rattle.flat_arrays_bytes.specs.columnar_memory.declared.Error.TheVariants.{External, Io, Overflow, OutOfMemory}
use Rattle.flat_arrays_bytes.specs.ByteStrings.{ByteStrings}
use Rattle.flat_arrays_byte_values_builders.proofs.Along.{item_added}
use Rattle.flat_arrays_byte_values_builders.specs.Growing.{GathersAlong, IsGathered, with_slot, with_slots}

-- memory ran out, or the greatest offset would be passed
one_of_both : (greatest last : ℕ) (e : Error) → IsGrowthFault greatest last e → IsOutOfMemory e ⊎ (IsOverflow e × (greatest < last))
one_of_both greatest last Overflow h = inr (tt, h)
one_of_both greatest last OutOfMemory h = inl tt
one_of_both greatest last (NotYetImplemented what) h = inl h
one_of_both greatest last (InvalidArgumentError what) h = inl h
one_of_both greatest last (ExternalFormat what) h = inl h
one_of_both greatest last (OutOfSpec what) h = inl h
one_of_both greatest last (External from what) h = inl h
one_of_both greatest last (Io error) h = inl h

-- slots end where the others do, or behind
ends_behind : (a : ByteStrings) (slots : List (Option (List ℕ))) → last_of a.offsets ≤ last_of (with_slots a slots).offsets
ends_behind a [] = omega arith
ends_behind a (Some x ∷ slots) =
    let more = ends_behind (with_slot a (Some x)) slots in
    omega (arith, more, last_of-extended a.offsets (length x ∷ []), sum-cons (length x) [])
ends_behind a (None ∷ slots) =
    let more = ends_behind (with_slot a None) slots in omega (arith, more, last_of-extended a.offsets (0 ∷ []), sum-cons 0 [])

slots_in_two : (a : ByteStrings) (slots more : List (Option (List ℕ))) → with_slots a (slots ++ more) ≡ with_slots (with_slots a slots) more
slots_in_two a [] more = refl
slots_in_two a (slot ∷ slots) more = slots_in_two (with_slot a slot) slots more

module _ {S X : Type 0} (steps : S → Option X → S → Type 0) (slot : X → Option (List ℕ)) where
  -- why the items of an iterator made no builder, which were refused behind no others
  pub refused : (greatest : ℕ) (empty old new : ByteStrings) (it : S) (e : Error) → old ≡ empty
      → (xs : List X) × (x : X) × (rest : S) × Yields steps it (xs ++ x ∷ []) rest × (new ≡ with_slots old (map slot xs))
      × IsGrowthFault greatest (last_of (with_slot new (slot x)).offsets) e
      → IsOutOfMemory e ⊎ ((xs : List X) × (rest : S) × Yields steps it xs rest × IsOverflow e
      × (greatest < last_of (with_slots empty (map slot xs)).offsets))
  refused greatest empty old new it e same h = which (one_of_both greatest (last_of (with_slot new (slot h.1)).offsets) e h.5)
    where
      made : with_slot new (slot h.1) ≡ with_slots empty (map slot (h.0 ++ h.1 ∷ []))
      made = item_added slot empty new (with_slot new (slot h.1)) h.0 h.1 (slot h.1) refl (h.4 ∙ ap (λ a. with_slots a (map slot h.0)) same) refl

      which : IsOutOfMemory e ⊎ (IsOverflow e × (greatest < last_of (with_slot new (slot h.1)).offsets))
          → IsOutOfMemory e ⊎ ((xs : List X) × (rest : S) × Yields steps it xs rest × IsOverflow e
          × (greatest < last_of (with_slots empty (map slot xs)).offsets))
      which (inl m) = inl m
      which (inr p) = inr (h.0 ++ h.1 ∷ [], h.2, h.3, p.0, subst (λ b. greatest < last_of b.offsets) made p.1)

-- ---- what is made of what a walk gives

-- a slot that is read through a reference
seen_slot : {A : Type 0} (view : A → List ℕ) (slot : Option (Bor A)) → option_map (λ x. view x.now) slot ≡ option_map view (option_copied slot)
seen_slot view None = refl
seen_slot view (Some x) = refl

-- items that stand for the slots of what they are seen as
seen_as : {X A : Type 0} (shown : X → Option (List ℕ)) (slot : A → Option (List ℕ)) (see : X → A) → ((x : X) → shown x ≡ slot (see x))
    → (xs : List X) → map shown xs ≡ map slot (map see xs)
seen_as shown slot see same [] = refl
seen_as shown slot see same (x ∷ xs) = ap₂ (λ y ys. y ∷ ys) (same x) (seen_as shown slot see same xs)

module _ {S X A : Type 0} {steps : S → Option X → S → Type 0} {see : X → A} {it : S} {ys : List A} (gives : YieldsList steps see it ys)
    (shown : X → Option (List ℕ)) (slot : A → Option (List ℕ)) (same : (x : X) → shown x ≡ slot (see x)) (greatest : ℕ) (empty : ByteStrings)
  where
    -- a builder of all that an iterator gives
    pub gathered : (r : Result ByteStrings Error) → GathersAlong steps greatest shown it empty r → IsGathered greatest empty (map slot ys) r
    gathered (Ok a) h =
        let ran = took h.0 in
        let drains : DrainsIf steps (Unit {0}) it h.0.items =
        subst (λ s. DrainsIf steps (Unit {0}) s h.0.items) h.1 (ran.0, ran.1, (λ _. ran.2 h.2)) in
        let items : map see h.0.items ≡ ys = items_from_drains h.0.items drains gives in
        h.3 ∙ ap (with_slots empty) (seen_as shown slot see same h.0.items ∙ ap (map slot) items)
    gathered (Err e) (inl m) = inl m
    gathered (Err e) (inr h) =
        let n = length h.0 in
        let front : map shown h.0 ≡ map slot (take n ys) =
        seen_as shown slot see same h.0 ∙ ap (map slot) (YieldsList-so_far gives h.0 h.1 h.2) in
        let first = with_slots empty (map slot (take n ys)) in
        let rest = map slot (drop n ys) in
        let whole : with_slots empty (map slot ys) ≡ with_slots first rest =
        ap (λ zs. with_slots empty (map slot zs)) (sym (take-append-drop n ys))
        ∙ ap (with_slots empty) (map-append slot (take n ys) (drop n ys)) ∙ slots_in_two empty (map slot (take n ys)) rest in
        let past : greatest < last_of (with_slots first rest).offsets =
        omega (arith, ends_behind first rest, h.4, ap (λ slots. last_of (with_slots empty slots).offsets) front) in
        inr (h.3, subst (λ b. greatest < last_of b.offsets) (sym whole) past)

-- a builder of all slots that a walk gives references to
pub gathered_slots : {S A : Type 0} {steps : S → Option (Option (Bor A)) → S → Type 0} {it : S} (slots : List (Option A))
    → YieldsList steps option_copied it (map (λ slot. slot) slots) → (view : A → List ℕ) (greatest : ℕ) (empty : ByteStrings)
    (r : Result ByteStrings Error) → GathersAlong steps greatest (option_map (λ x. view x.now)) it empty r
    → IsGathered greatest empty (map (option_map view) slots) r
gathered_slots {S} {A} {steps} {it} slots gives view =
    gathered (subst (λ xs. YieldsList steps option_copied it xs) (map-id slots) gives) (option_map (λ x. view x.now)) (option_map view)
    (seen_slot view)
