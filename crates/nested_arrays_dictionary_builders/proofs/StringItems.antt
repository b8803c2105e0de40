-- Which slot a byte string of one size is.
use Rattle.std.proofs.Common.{◌≡◌, ◌∙◌, ◌<◌, ℕ, List, length, get_or, Bool, true, false, refl, sym, ap}
use Rattle.std.specs.Prelude.{Some, None, if◌then◌else◌}
use Rattle.std.proofs.lemmas.Bool.{false≢true}
use Rattle.nested_arrays_sized_builders.specs.nulls.columns.Cells.{is_null}
use Rattle.nested_arrays_sized_builders.specs.nulls.columns.FreshColumns.{content_of}
use Rattle.nested_arrays_sized_builders.specs.nulls.columns.Slots.{null, bytes}
use Rattle.nested_arrays_sized_builders.specs.nulls.columns.StoredColumns.{slot_at}
use Rattle.nested_arrays_sized_builders.specs.SizedStrings.{SizedParts, sized_column, sized_string_at, string_slot, value_at}
use Rattle.nested_arrays_sized_builders.proofs.MarkedSlots.{valid_mark}

string_shows : (p : SizedParts) (i : ℕ) → i < length p.marks → slot_at (sized_column p) i ≡ string_slot (value_at p i)
string_shows p i lt =
    ap (λ (b : Bool). if b then bytes (sized_string_at p i) else null) (valid_mark p.marks i lt) ∙ by_mark (get_or p.marks i false)
  where
    by_mark : (b : Bool) → (if b then bytes (sized_string_at p i) else null) ≡ string_slot (if b then Some (sized_string_at p i) else None)
    by_mark true = refl
    by_mark false = refl

-- a string that is there is the slot's
pub found_same : (p : SizedParts) (i : ℕ) (found item : List ℕ) → i < length p.marks → value_at p i ≡ Some found
    → ((found ≡ item) → slot_at (sized_column p) i ≡ bytes item) × (slot_at (sized_column p) i ≡ bytes item → found ≡ item)
found_same p i found item lt at =
    let shows : slot_at (sized_column p) i ≡ bytes found = string_shows p i lt ∙ ap string_slot at in (
      λ e. shows ∙ ap bytes e,
      λ e. ap content_of (sym shows ∙ e),
    )

-- no string is null
pub none_differs : (p : SizedParts) (i : ℕ) (item : List ℕ) → i < length p.marks → value_at p i ≡ None
    → slot_at (sized_column p) i ≡ bytes item → ⊥
none_differs p i item lt none same = false≢true (ap is_null (sym same ∙ string_shows p i lt ∙ ap string_slot none))
