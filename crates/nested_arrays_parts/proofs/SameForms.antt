-- Slots that are the same, by their forms.
use Rattle.std.proofs.Common.{◌≡◌, ◌∙◌, ◌<◌, ◌≤◌, ◌+◌, ℕ, zero, suc, Bool, true, false, refl, sym, ap, arith, below_more, ◌-◌}
use Rattle.std.specs.Prelude.{◌↔◌, IsTrue, None, if◌then◌else◌}
use Rattle.nested_arrays_flat.specs.columns.Slots.{null}
use Rattle.nested_arrays_flat.specs.columns.StoredColumns.{Column, nulls, flat, lists, fixed_lists, records, unions, dictionary}
use Rattle.nested_arrays_flat.specs.columns.StoredColumns.{Stored, bits, numbers, pairs, triples, texts, byte_strings, fixed_bytes}
use Rattle.nested_arrays_flat.specs.columns.StoredColumns.{is_valid_at, slot_at, stored_at}
use Rattle.nested_arrays_parts.specs.Forms.{bare, column_form, slot_form, stored_form}
use Rattle.nested_arrays_parts.specs.Ranges.{SameMarks, SameRanges}
use Rattle.nested_arrays_flat.specs.ColumnMasks.{column_mask}

stored_slot : (stored : Stored) (i : ℕ) → slot_form (stored_at stored i) ≡ stored_form stored
stored_slot (bits values) i = refl
stored_slot (numbers kind values) i = refl
stored_slot (pairs kind values) i = refl
stored_slot (triples kind values) i = refl
stored_slot (texts offsets content) i = refl
stored_slot (byte_strings offsets content) i = refl
stored_slot (fixed_bytes size content) i = refl

-- a stored value has its column's form
pub form_there : (c : Column) (i : ℕ) → column_form c ≤ 4 → slot_form (slot_at (bare c) i) ≡ column_form c
form_there (nulls t n) i h = refl
form_there (flat t mask stored) i h = stored_slot stored i
form_there _ i h = absurd (omega arith)

some_form : (stored : Stored) → stored_form stored ≡ 0 → ⊥
some_form (bits values) h = omega arith
some_form (numbers kind values) h = omega arith
some_form (pairs kind values) h = omega arith
some_form (triples kind values) h = omega arith
some_form (texts offsets content) h = omega arith
some_form (byte_strings offsets content) h = omega arith
some_form (fixed_bytes size content) h = omega arith

-- a column of no form stores nulls
pub null_there : (c : Column) (i : ℕ) → column_form c ≡ 0 → slot_at (bare c) i ≡ null
null_there (nulls t n) i h = refl
null_there (flat t mask stored) i h = absurd (some_form stored h)
null_there _ i h = absurd (omega arith)

-- values of two forms are not the same
pub other_form : (l r : Column) (i j : ℕ) → column_form l ≤ 4 → column_form r ≤ 4 → (column_form l ≡ column_form r → ⊥)
    → slot_at (bare l) i ≡ slot_at (bare r) j → ⊥
other_form l r i j few many other same = other (sym (form_there l i few) ∙ ap slot_form same ∙ form_there r j many)

-- only no values are the same, where none are
pub none_same : (l r : Column) (i j n : ℕ) → ((k : ℕ) → slot_at l (i + k) ≡ slot_at r (j + k) → ⊥) → (n ≡ 0) ↔ SameRanges l i r j n
none_same l r i j zero other = (λ _ k h. absurd (omega arith), λ _. refl)
none_same l r i j (suc n) other = (λ none. absurd (omega arith), λ same. absurd (other 0 (same 0 (omega arith))))

-- the same, where the forms differ
pub no_values : (l r : Column) (i j n : ℕ) → column_form l ≤ 4 → column_form r ≤ 4 → (column_form l ≡ column_form r → ⊥)
    → (n ≡ 0) ↔ SameRanges (bare l) i (bare r) j n
no_values l r i j n few many other = none_same (bare l) (bare r) i j n (λ k. other_form l r (i + k) (j + k) few many other)

-- ranges of equal columns
pub moved : (l r own other : Column) (i j n : ℕ) → l ≡ own → r ≡ other → SameRanges (bare l) i (bare r) j n → SameRanges (bare own) i (bare other) j n
moved l r own other i j n left right same k h =
    ap (λ c. slot_at (bare c) (i + k)) (sym left) ∙ same k h ∙ ap (λ c. slot_at (bare c) (j + k)) right

-- one slot is a range
pub one_slot : (l r : Column) (i j : ℕ) → SameRanges l i r j 1 ↔ (slot_at l i ≡ slot_at r j)
one_slot l r i j = (
  λ same. ap (slot_at l) (omega arith) ∙ same 0 (omega arith) ∙ ap (slot_at r) (omega arith),
  λ is k h. ap (slot_at l) (omega arith) ∙ is ∙ ap (slot_at r) (omega arith),
)

-- ---- masks

-- a slot that is not null is its stored value
pub valid_slot : (c : Column) (i : ℕ) → is_valid_at (column_mask c) i ≡ true → slot_at c i ≡ slot_at (bare c) i
valid_slot (nulls t n) i h = refl
valid_slot (flat t mask stored) i h = ap (λ (b : Bool). if b then stored_at stored i else null) h
valid_slot (lists t mask offsets child) i h = ap (λ (b : Bool). if b then slot_at (lists t None offsets child) i else null) h
valid_slot (fixed_lists t mask size child) i h = ap (λ (b : Bool). if b then slot_at (fixed_lists t None size child) i else null) h
valid_slot (records t mask n children) i h = ap (λ (b : Bool). if b then slot_at (records t None n children) i else null) h
valid_slot (unions t ids offsets children) i h = refl
valid_slot (dictionary t mask keys values) i h = ap (λ (b : Bool). if b then slot_at (dictionary t None keys values) i else null) h

pub null_slot : (c : Column) (i : ℕ) → is_valid_at (column_mask c) i ≡ false → slot_at c i ≡ null
null_slot (nulls t n) i h = refl
null_slot (flat t mask stored) i h = ap (λ (b : Bool). if b then stored_at stored i else null) h
null_slot (lists t mask offsets child) i h = ap (λ (b : Bool). if b then slot_at (lists t None offsets child) i else null) h
null_slot (fixed_lists t mask size child) i h = ap (λ (b : Bool). if b then slot_at (fixed_lists t None size child) i else null) h
null_slot (records t mask n children) i h = ap (λ (b : Bool). if b then slot_at (records t None n children) i else null) h
null_slot (unions t ids offsets children) i h = absurd cc
null_slot (dictionary t mask keys values) i h = ap (λ (b : Bool). if b then slot_at (dictionary t None keys values) i else null) h

-- a valid slot is null where its column stores nulls
pub null_form : (c : Column) (i : ℕ) → column_form c ≤ 4 → is_valid_at (column_mask c) i ≡ true → (column_form c ≡ 0) ↔ (slot_at c i ≡ null)
null_form c i few valid = (
  λ is. valid_slot c i valid ∙ null_there c i is,
  λ is. sym (form_there c i few) ∙ ap slot_form (sym (valid_slot c i valid) ∙ is),
)

pub ruleset nulls_where = (null_form, null_slot)

-- ranges without nulls are those of the stored values
pub bare_ranges : (l r : Column) (i j n : ℕ) → ((k : ℕ) → k < n → is_valid_at (column_mask l) (i + k) ≡ true)
    → ((k : ℕ) → k < n → is_valid_at (column_mask r) (j + k) ≡ true) → SameRanges (bare l) i (bare r) j n ↔ SameRanges l i r j n
bare_ranges l r i j n all every = (
  λ same k h. valid_slot l (i + k) (all k h) ∙ same k h ∙ sym (valid_slot r (j + k) (every k h)),
  λ same k h. sym (valid_slot l (i + k) (all k h)) ∙ same k h ∙ valid_slot r (j + k) (every k h),
)

-- the slot at a place is given by its mark and its stored value
same_mark : (l r : Column) (i j : ℕ) → is_valid_at (column_mask l) i ≡ is_valid_at (column_mask r) j
    → slot_at (bare l) i ≡ slot_at (bare r) j → slot_at l i ≡ slot_at r j
same_mark l r i j marks same = by_mark (is_valid_at (column_mask l) i) refl where
  by_mark : (mark : Bool) → is_valid_at (column_mask l) i ≡ mark → slot_at l i ≡ slot_at r j
  by_mark true is = valid_slot l i is ∙ same ∙ sym (valid_slot r j (sym marks ∙ is))
  by_mark false is = null_slot l i is ∙ sym (null_slot r j (sym marks ∙ is))

-- ranges with the same marks and stored values
pub marked_ranges : (l r : Column) (i j n : ℕ) → SameMarks (column_mask l) i (column_mask r) j n → SameRanges (bare l) i (bare r) j n
    → SameRanges l i r j n
marked_ranges l r i j n marks same k h = same_mark l r (i + k) (j + k) (marks k h) (same k h)

-- a range and the one behind it
pub joined : (l r : Column) (i j n m : ℕ) → SameRanges l i r j n → SameRanges l (i + n) r (j + n) m → SameRanges l i r j (n + m)
joined l r i j n zero before after k h = before k (omega arith)
joined l r i j n (suc m) before after k h =
    below_more (λ k. slot_at l (i + k) ≡ slot_at r (j + k)) (n + m)
    (joined l r i j n m before (λ k h. after k (omega arith)))
    (ap (slot_at l) (omega arith) ∙ after m (omega arith) ∙ ap (slot_at r) (omega arith)) k (omega (arith, h))

-- a part of a range
pub behind_in : (l r : Column) (i j n m whole : ℕ) → n + m ≤ whole → SameRanges l i r j whole → SameRanges l (i + n) r (j + n) m
behind_in l r i j n m whole within same k h =
    ap (slot_at l) (omega arith) ∙ same (n + k) (omega (arith, h, within)) ∙ ap (slot_at r) (omega arith)

-- a range whose beginning is the same is the same where the rest is
pub rest_of : (l r : Column) (i j n whole : ℕ) → n ≤ whole
    → (SameRanges l i r j n → SameRanges l (i + n) r (j + n) (whole - n) → SameRanges l i r j whole)
    × (SameRanges l i r j whole → SameRanges l (i + n) r (j + n) (whole - n))
rest_of l r i j n whole within = (
  λ before after k h. joined l r i j n (whole - n) before after k (omega (arith, h, within)),
  λ same. behind_in l r i j n (whole - n) whole (omega (arith, within)) same,
)

-- ranges of equal columns, where a test is of one
pub moved_ranges : (l r own other : Column) (i j n : ℕ) (is : Bool) → l ≡ own → r ≡ other → IsTrue is ↔ SameRanges (bare l) i (bare r) j n
    → IsTrue is ↔ SameRanges (bare own) i (bare other) j n
moved_ranges l r own other i j n is left right tested = (
  λ h. moved l r own other i j n left right (tested.0 h),
  λ same. tested.1 (moved own other l r i j n (sym left) (sym right) same),
)
