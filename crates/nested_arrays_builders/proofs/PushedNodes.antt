-- Builders with children to which a slot is pushed.
use Rattle.std.proofs.Common.{inl, inr, ◌≡◌, ◌∙◌, ℕ, ◌<◌, ◌+◌, List, [], ◌∷◌, ◌++◌, length, Bool, true, false, refl, sym, ap, subst, arith}
use Rattle.std.specs.Prelude.{◌&&◌, ◌⊎◌, nat_le, Result, Ok, Err}
use Rattle.std.proofs.lemmas.Bool.{le-leb, leb-true, cases_Bool}
use Rattle.std.proofs.lemmas.List.{length-map}
use Rattle.nested_arrays_builder_values.specs.parts.arrays.columnar_memory.declared.DataType.{DataType}
use Rattle.nested_arrays_builder_values.specs.parts.arrays.columnar_memory.declared.Error.{Error}
use Rattle.nested_arrays_builder_values.specs.parts.arrays.columnar_memory.Error.{IsOutOfMemory, IsOverflow}
use Rattle.nested_arrays_builder_values.specs.parts.arrays.columns.Cells.{fits_cell}
use Rattle.nested_arrays_builder_values.specs.parts.arrays.columns.FreshColumns.{is_valid}
use Rattle.nested_arrays_builder_values.specs.parts.arrays.columns.Kinds.{most_slots}
use Rattle.nested_arrays_builder_values.specs.parts.arrays.columns.OpenBatch.{fits}
use Rattle.nested_arrays_builder_values.specs.parts.arrays.columns.Slots.{Slot}
use Rattle.nested_arrays_builder_values.specs.parts.arrays.columns.StoredColumns.{slots}
use Rattle.nested_arrays_builder_values.specs.parts.Open.{opened, IsPushed, IsRefusal}
use Rattle.nested_arrays_builders.specs.Parts.{Parts, parts_column, more_parts, is_formed, has_room, AddsSlot, IsKept}
use Rattle.nested_arrays_builders.proofs.KeptNodes.{view_kept, kept_again}
use Rattle.nested_arrays_builders.proofs.MoreFits.{fits_more}
use Rattle.nested_arrays_builders.proofs.MoreParts.{kept_more}
use Rattle.nested_arrays_builders.proofs.TakenSlots.{takes_is, taken_is_formed}

all_three : (a b c : Bool) → a ≡ true → b ≡ true → c ≡ true → (a && b && c) ≡ true
all_three true true true _ _ _ = refl
all_three true true false _ _ h = h
all_three true false c _ h _ = h
all_three false b c h _ _ = h

second_fails : (a b c : Bool) → b ≡ false → (a && b && c) ≡ false
second_fails true false c h = refl
second_fails false b c h = refl
second_fails true true c h = absurd cc

third_fails : (a b c : Bool) → c ≡ false → (a && b && c) ≡ false
third_fails true true c h = h
third_fails true false c h = refl
third_fails false b c h = refl

above_most : (n m : ℕ) → n ≡ m → nat_le (n + 1) m ≡ false
above_most n m e = elim (cases_Bool (nat_le (n + 1) m)) [ inl h ↦ absurd (omega (arith, leb-true (n + 1) m h, e)) | inr h ↦ h ]

module _ (t : DataType) (marks : List Bool) (parts : Parts) (kept : IsKept t marks parts (slots (parts_column t marks parts))) (s : Slot)
    (fit : fits_cell t s ≡ true) where
  abbrev own : List Slot
  own = slots (parts_column t marks parts)

  formed : is_formed parts s ≡ true
  formed = taken_is_formed parts s (sym (takes_is t marks parts own s kept) ∙ fit)

  count : length marks ≡ length own
  count = ap length kept.marked ∙ length-map own is_valid

  more_fits : length marks < most_slots → has_room parts s ≡ true → fits t (own ++ s ∷ []) ≡ true
  more_fits few room = fits_more t marks parts own s kept
      ∙ all_three (is_formed parts s) (nat_le (length own + 1) most_slots) (has_room parts s) formed
      (le-leb (length own + 1) most_slots (omega (arith, few, count))) room

  no_more_fits : (length marks ≡ most_slots) ⊎ (has_room parts s ≡ false) → fits t (own ++ s ∷ []) ≡ false
  no_more_fits (inl many) = fits_more t marks parts own s kept
      ∙ second_fails (is_formed parts s) (nat_le (length own + 1) most_slots) (has_room parts s)
      (above_most (length own) most_slots (sym count ∙ many))
  no_more_fits (inr full) = fits_more t marks parts own s kept
      ∙ third_fails (is_formed parts s) (nat_le (length own + 1) most_slots) (has_room parts s) full

  then_kept : (after : List Bool) (new : Parts) → after ≡ marks ++ is_valid s ∷ [] → new ≡ more_parts parts s → fits t (own ++ s ∷ []) ≡ true
      → IsKept t after new (own ++ s ∷ [])
  then_kept after new marked more fit =
      subst (λ marks. IsKept t marks new (own ++ s ∷ [])) (sym marked)
      (subst (λ parts. IsKept t (marks ++ is_valid s ∷ []) parts (own ++ s ∷ [])) (sym more) (kept_more t marks parts own s kept fit))

  pub pushed_kept : {U : Type 0} (after : List Bool) (new : Parts) (r : Result U Error) → AddsSlot marks parts s after new r
      → IsKept t after new (slots (parts_column t after new))
  pushed_kept after new (Ok u) is = kept_again t after new (own ++ s ∷ []) (then_kept after new is.0 is.1 (more_fits is.2 is.3))
  pushed_kept after new (Err e) is =
      subst (λ marks. IsKept t marks new (slots (parts_column t marks new))) (sym is.0)
      (subst (λ parts. IsKept t marks parts (slots (parts_column t marks parts))) (sym is.1) kept)

  pub pushed_seen : {U : Type 0} (after : List Bool) (new : Parts) (r : Result U Error) → AddsSlot marks parts s after new r
      → IsPushed (opened t own) s (opened t (slots (parts_column t after new))) r
  pushed_seen after new (Ok u) is =
      let fit = more_fits is.2 is.3 in
      (view_kept t after new (own ++ s ∷ []) (then_kept after new is.0 is.1 fit), fit)
  pushed_seen after new (Err e) is = (
    (λ j. opened t (slots (parts_column t (is.0 j) (is.1 j)))),
    refused is.2,
  )
    where
      refused : IsOutOfMemory e ⊎ (IsOverflow e × ((length marks ≡ most_slots) ⊎ (has_room parts s ≡ false))) → IsRefusal (opened t own) s e
      refused (inl out) = inl out
      refused (inr over) = inr (inr (over.0, fit, no_more_fits over.1))
