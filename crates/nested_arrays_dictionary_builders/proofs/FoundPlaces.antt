-- Values that are looked for by their hashes.
use Rattle.std.proofs.Common.{◌≡◌, ◌∙◌, ℕ, zero, suc, ◌+◌, ◌-◌, ◌<◌, ◌≤◌, List, length, map, take, get_or, false, true, refl, sym, ap, arith}
use Rattle.std.specs.Prelude.{◌⊎◌, ◌≢◌}
use Rattle.std.specs.List.{count_by}
use Rattle.std.proofs.Math.ListN.{get_or-map}
use Rattle.std.proofs.lemmas.Bool.{eq-eqb, ne_eqb}
use Rattle.std.proofs.lemmas.List.{length-map}
use Rattle.std.proofs.lemmas.List.Sums.{count_by_more_no, count_by_more_yes}
use mathlib.Core.Logic.{inl, inr}
use Rattle.nested_arrays_sized_builders.specs.values.Newest.{IsNewest}
use Rattle.nested_arrays_sized_builders.specs.nulls.columns.Slots.{Slot, null}
use Rattle.nested_arrays_sized_builders.specs.nulls.columns.StoredColumns.{Column, column_len, slot_at, slots}
use Rattle.nested_arrays_sized_builders.proofs.nulls_lemmas.arrays_lemmas.columns_lemmas.ColumnSizes.{slots_lengths}
use Rattle.nested_arrays_sized_builders.proofs.nulls_lemmas.arrays_lemmas.columns_lemmas.FreshPlaces.{at_window}
use Rattle.nested_arrays_dictionary_builders.specs.SlotHashes.{hashes_as, slot_hash}

order : (a b : ℕ) → (a < b) ⊎ ((a ≡ b) ⊎ (b < a))
order zero zero = inr (inl refl)
order zero (suc b) = inl (omega arith)
order (suc a) zero = inr (inr (omega arith))
order (suc a) (suc b) = elim (order a b) [
  | inl less ↦ inl (omega (arith, less))
  | inr other ↦ elim other [ inl same ↦ inr (inl (ap suc same)) | inr more ↦ inr (inr (omega (arith, more))) ]
]

module _ (child : Column) (hashes : List ℕ) (s : Slot) (held : hashes ≡ map slot_hash (slots child)) where
  pub many : length hashes ≡ column_len child
  many = ap length held ∙ length-map (slots child) slot_hash ∙ slots_lengths child

  hash_at : (k : ℕ) → k < column_len child → get_or hashes k 0 ≡ slot_hash (slot_at child k)
  hash_at k lt =
      ap (λ (xs : List ℕ). get_or xs k 0) held ∙ get_or-map slot_hash (slots child) k null
      ∙ ap slot_hash (sym (at_window (slot_at child) (column_len child) (slots child) k null refl lt))

  -- none of the newer ones with another hash is the slot
  pub newer_differ : (q p hash : ℕ) → hash ≡ slot_hash s → IsNewest hashes q hash p → (k : ℕ) → p ≤ k → k < q → k < column_len child
      → slot_at child k ≢ s
  newer_differ q p hash is newest k behind below within same =
      newest.none k behind below (hash_at k within ∙ ap slot_hash same ∙ sym is)

  -- where the next with the hash is another slot too
  pub older_differ : (place p : ℕ) → 0 < place → get_or hashes (place - 1) 0 ≡ slot_hash s
      → slot_at child (place - 1) ≢ s → IsNewest hashes (place - 1) (get_or hashes (place - 1) 0) p
      → ((k : ℕ) → place ≤ k → k < column_len child → slot_at child k ≢ s) → (k : ℕ) → p ≤ k → k < column_len child → slot_at child k ≢ s
  older_differ place p some own differs newest newer k behind within =
      elim (order k (place - 1)) [
        | inl below ↦ newer_differ (place - 1) p (get_or hashes (place - 1) 0) own newest k behind below within
        | inr other ↦ elim other [
          | inl same ↦ λ e. differs (ap (slot_at child) (sym same) ∙ e)
          | inr above ↦ newer k (omega (arith, above, some)) within
        ]
      ]

  abbrev alike : ℕ → ℕ
  alike n = count_by (hashes_as s) (take n (slots child))

  own_slot : (k : ℕ) → k < column_len child → get_or (slots child) k null ≡ slot_at child k
  own_slot k lt = sym (at_window (slot_at child) (column_len child) (slots child) k null refl lt)

  skipped : (d p q : ℕ) → q ≡ p + d → q ≤ column_len child → ((k : ℕ) → p ≤ k → k < q → slot_hash (slot_at child k) ≢ slot_hash s)
      → alike q ≡ alike p
  skipped zero p q is within none = ap alike (omega (arith, is))
  skipped (suc d) p q is within none =
      let last : p + d < column_len child = omega (arith, is, within) in
      let next : q ≡ p + d + 1 = omega (arith, is) in
      ap alike next
      ∙ count_by_more_no (hashes_as s) (slots child) (p + d) null (omega (arith, last, slots_lengths child))
      (ne_eqb (slot_hash (get_or (slots child) (p + d) null)) (slot_hash s)
      (λ same. none (p + d) (omega arith) (omega (arith, is)) (ap slot_hash (sym (own_slot (p + d) last)) ∙ same)))
      ∙ skipped d p (p + d) refl (omega (arith, last)) (λ k behind below. none k behind (omega (arith, below, is)))

  -- none of those between the newest and the others hashes as the slot does
  pub few_between : (q p hash : ℕ) → hash ≡ slot_hash s → IsNewest hashes q hash p → q ≤ column_len child
      → count_by (hashes_as s) (take q (slots child)) ≡ count_by (hashes_as s) (take p (slots child))
  few_between q p hash is newest within =
      skipped (q - p) p q (omega (arith, newest.within)) within
      (λ k behind below same. newest.none k behind below (hash_at k (omega (arith, below, within)) ∙ same ∙ sym is))

  -- one more hashes so
  pub one_alike : (place : ℕ) → 0 < place → place ≤ column_len child → get_or hashes (place - 1) 0 ≡ slot_hash s
      → count_by (hashes_as s) (take place (slots child)) ≡ count_by (hashes_as s) (take (place - 1) (slots child)) + 1
  one_alike place some within own =
      let last : place - 1 < column_len child = omega (arith, some, within) in
      let next : place ≡ place - 1 + 1 = omega (arith, some) in
      ap alike next
      ∙ count_by_more_yes (hashes_as s) (slots child) (place - 1) null (omega (arith, last, slots_lengths child))
      (eq-eqb (slot_hash (get_or (slots child) (place - 1) null)) (slot_hash s)
      (ap slot_hash (own_slot (place - 1) last) ∙ sym (hash_at (place - 1) last) ∙ own))
