-- Cells that are looked for by their hashes.
use Rattle.std.proofs.Common.{inl, inr, ◌≡◌, ◌∙◌, ℕ, zero, suc, ◌-◌, ◌<◌, ◌≤◌, List, [], ◌∷◌, length, map, get_or, refl, sym, ap, arith}
use Rattle.std.specs.Prelude.{◌⊎◌, ◌≢◌, Option, Some, None}
use Rattle.std.proofs.lemmas.Bool.{false_from_ne_true}
use Rattle.std.proofs.lemmas.List.{length-map}
use Rattle.nested_arrays_builder_values.specs.Newest.{IsNewest}
use Rattle.nested_arrays_builder_parts.specs.arrays.columns.SameSlots.{same_slot}
use Rattle.nested_arrays_builder_parts.specs.arrays.columns.Slots.{null}
use Rattle.nested_arrays_builder_parts.proofs.arrays_lemmas.columns_lemmas.SameSlotsDecide.{same_slot-implies, same_slot-itself}
use Rattle.nested_arrays_builder_parts.proofs.columns_lemmas.Values.{not_among}
use Rattle.nested_arrays_builder_parts.specs.Scalars.{scalar_slot}
use Rattle.nested_arrays_scalars.specs.declared.scalars.AnyScalar.{AnyScalar}
use Rattle.nested_arrays_builder_values.specs.Found.{IsPlaceOf, IsSlotAt}
use Rattle.nested_arrays_builder_values.specs.Hashes.{cell_hash}
use Rattle.nested_arrays_builder_values.proofs.CellLayers.{slot_tells}

-- an element of a list that a function was mapped over
pub mapped_at : {X Y : Type 0} (f : X → Y) (xs : List X) (k : ℕ) (d : X) (e : Y) → k < length xs → get_or (map f xs) k e ≡ f (get_or xs k d)
mapped_at f [] k d e lt = absurd (omega arith)
mapped_at f (x ∷ xs) zero d e lt = refl
mapped_at f (x ∷ xs) (suc k) d e lt = mapped_at f xs k d e (omega (arith, lt))

-- where no newer one has the hash none is the cell
pub newer_differ : (cells : List AnyScalar) (cell : AnyScalar) (places : List ℕ) (q p hash : ℕ) → places ≡ map cell_hash cells
    → hash ≡ cell_hash cell → IsNewest places q hash p → (k : ℕ) → p ≤ k → k < q → k < length cells → get_or cells k cell ≢ cell
newer_differ cells cell places q p hash is own newest k behind below within same =
    newest.none k behind below (ap (λ xs. get_or xs k 0) is ∙ mapped_at cell_hash cells k cell 0 within ∙ ap cell_hash same ∙ sym own)

slot_at : (cells : List AnyScalar) (k : ℕ) (d : AnyScalar) → k < length cells
    → get_or (map scalar_slot cells) k null ≡ scalar_slot (get_or cells k d)
slot_at cells k d lt = mapped_at scalar_slot cells k d null lt

order : (a b : ℕ) → (a < b) ⊎ ((a ≡ b) ⊎ (b < a))
order zero zero = inr (inl refl)
order zero (suc b) = inl (omega arith)
order (suc a) zero = inr (inr (omega arith))
order (suc a) (suc b) = elim (order a b) [
  | inl less ↦ inl (omega (arith, less))
  | inr other ↦ elim other [ inl same ↦ inr (inl (ap suc same)) | inr more ↦ inr (inr (omega (arith, more))) ]
]

any_default : (cells : List AnyScalar) (k : ℕ) (d e : AnyScalar) → k < length cells → get_or cells k d ≡ get_or cells k e
any_default [] k d e lt = absurd (omega arith)
any_default (cell ∷ cells) zero d e lt = refl
any_default (cell ∷ cells) (suc k) d e lt = any_default cells k d e (omega (arith, lt))

-- where the next is another cell too, and none between has the hash
pub older_differ : (cells : List AnyScalar) (cell item : AnyScalar) (places : List ℕ) (place p : ℕ) → places ≡ map cell_hash cells → 0 < place
    → place ≤ length cells → get_or places (place - 1) 0 ≡ cell_hash cell → item ≡ get_or cells (place - 1) item → item ≢ cell
    → IsNewest places (place - 1) (get_or places (place - 1) 0) p → ((k : ℕ) → place ≤ k → k < length cells → get_or cells k cell ≢ cell)
    → (k : ℕ) → p ≤ k → k < length cells → get_or cells k cell ≢ cell
older_differ cells cell item places place p is some le own at differs newest newer k behind within =
    elim (order k (place - 1)) [
      | inl below ↦ newer_differ cells cell places (place - 1) p (get_or places (place - 1) 0) is own newest k behind below within
      | inr other ↦ elim other [
        | inl same ↦ λ e. differs (at ∙ ap (λ m. get_or cells m item) (sym same) ∙ any_default cells k item cell within ∙ e)
        | inr above ↦ newer k (omega (arith, above, some)) within
      ]
    ]

-- the place of a cell is that of its slot
pub slot_found : (cells : List AnyScalar) (cell : AnyScalar) (r : Option ℕ) → IsPlaceOf cells cell r
    → IsSlotAt (map scalar_slot cells) (scalar_slot cell) r
slot_found cells cell None none = not_among (scalar_slot cell) (map scalar_slot cells) null (λ k lt.
    let within : k < length cells = omega (arith, lt, length-map cells scalar_slot) in
    false_from_ne_true (same_slot (scalar_slot cell) (get_or (map scalar_slot cells) k null)) (λ same.
    none k within (sym (slot_tells cell (get_or cells k cell)
    (same_slot-implies (scalar_slot cell) (get_or (map scalar_slot cells) k null) same ∙ slot_at cells k cell within)))))
slot_found cells cell (Some k) is = (
  omega (arith, is.0, length-map cells scalar_slot),
  ap (same_slot (scalar_slot cell)) (slot_at cells k cell is.0 ∙ ap scalar_slot is.1) ∙ same_slot-itself (scalar_slot cell),
)
