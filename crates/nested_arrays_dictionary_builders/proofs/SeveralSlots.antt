-- Slots that are pushed to a column one after another.
use Rattle.std.proofs.Common.{◌≡◌, ◌∙◌, ◌<◌, ◌≤◌, ◌+◌, ℕ, List, [], ◌∷◌, ◌++◌, length, take, get_or, false, refl, sym, ap, subst, arith}
use Rattle.std.specs.Prelude.{◌⊎◌}
use Rattle.std.proofs.lemmas.List.{append_assoc, append-nil, length-append, take_all, take_more}
use mathlib.Core.Logic.{inl, inr}
use Rattle.nested_arrays_sized_builders.specs.nulls.columnar_memory.declared.Error.{Error}
use Rattle.nested_arrays_sized_builders.specs.nulls.columnar_memory.Error.{IsInvalidArgument, IsOutOfMemory, IsOverflow}
use Rattle.nested_arrays_sized_builders.specs.nulls.columns.Cells.{fits_cell}
use Rattle.nested_arrays_sized_builders.specs.nulls.columns.OpenBatch.{fits}
use Rattle.nested_arrays_sized_builders.specs.nulls.columns.Slots.{Slot, null}
use Rattle.nested_arrays_sized_builders.specs.nulls.columns.StoredColumns.{Column, column_type, slots}
use Rattle.nested_arrays_sized_builders.specs.cells.taken.OpenColumns.{Becomes, IsFresh, slots_and}
use Rattle.nested_arrays_sized_builders.proofs.GrownColumns.{becomes_by, fresh_sound}
use Rattle.nested_arrays_sized_builders.proofs.nulls_lemmas.arrays_lemmas.columns_lemmas.ColumnSizes.{slots_lengths}
use Rattle.nested_arrays_dictionary_builders.specs.SeveralSlots.{IsRefusedAt}

-- none of them yet
pub none_pushed : (c : Column) (some : List Slot) → Becomes c (slots c ++ take 0 some) c
none_pushed c some =
    subst (λ (xs : List Slot). Becomes c xs c) (sym (append-nil (slots c)))
    (record { typed = refl; long = sym (slots_lengths c); sound = λ h. (h, refl); fresh = λ f. f })

-- all of them
pub all_pushed : (a b : Column) (some : List Slot) (n : ℕ) → length some ≤ n → Becomes a (slots a ++ take n some) b
    → Becomes a (slots a ++ some) b
all_pushed a b some n all h = subst (λ (xs : List Slot). Becomes a (slots a ++ xs) b) (take_all n some all) h

module _ (a b : Column) (some : List Slot) (n : ℕ) (lt : n < length some) (s : Slot) (is : get_or some n null ≡ s)
    (h : Becomes a (slots a ++ take n some) b) where
  next : (slots a ++ take n some) ++ s ∷ [] ≡ slots a ++ take (n + 1) some
  next =
      append_assoc (slots a) (take n some) (s ∷ [])
      ∙ ap (λ (xs : List Slot). slots a ++ xs) (ap (λ (x : Slot). take n some ++ x ∷ []) (sym is) ∙ sym (take_more some n null lt))

  -- one more
  pub one_pushed : (c : Column) → Becomes b (slots_and b s) c → Becomes a (slots a ++ take (n + 1) some) c
  one_pushed c more =
      let long : length (slots b ++ s ∷ []) ≡ length ((slots a ++ take n some) ++ s ∷ []) =
      omega (arith, length-append (slots b) (s ∷ []), length-append (slots a ++ take n some) (s ∷ []), slots_lengths b, h.long) in
      subst (λ (xs : List Slot). Becomes a xs c) next
      (becomes_by (λ (xs : List Slot). xs ++ s ∷ []) a b c (slots a ++ take n some) long h more)

  -- one that is refused
  pub one_refused : (c : Column) (e : Error) → c ≡ b
      → IsOutOfMemory e ⊎ (IsInvalidArgument e × (fits_cell (column_type b) s ≡ false))
      ⊎ (IsOverflow e × (IsFresh b → fits (column_type b) (slots_and b s) ≡ false))
      → (k : ℕ) × (k < length some) × Becomes a (slots a ++ take k some) c × IsRefusedAt a some k e
  one_refused c e same why = (n, lt, subst (λ (x : Column). Becomes a (slots a ++ take n some) x) (sym same) h, reason why)
    where
      reason : IsOutOfMemory e ⊎ (IsInvalidArgument e × (fits_cell (column_type b) s ≡ false))
          ⊎ (IsOverflow e × (IsFresh b → fits (column_type b) (slots_and b s) ≡ false)) → IsRefusedAt a some n e
      reason (inl memory) = inl memory
      reason (inr (inl other)) = inr (inl (other.0, (λ j. fits_cell (sym h.typed j) (is j)) ∙ other.1))
      reason (inr (inr over)) = inr (inr (
        over.0,
        λ f.
            let own = (h.sound (fresh_sound a f)).1 in
            ap (fits (column_type a)) (sym next) ∙ (λ j. fits (sym h.typed j) (sym own j ++ s ∷ [])) ∙ over.1 (h.fresh f),
      ))
