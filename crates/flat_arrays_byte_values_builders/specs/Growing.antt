-- How byte strings grow, slot by slot.
use Rattle.std.specs.Prelude.{◌≡◌, ℕ, ◌-◌, ◌<◌, ◌≤◌, ◌⊎◌, Bool, true, false, Option, Some, None, List, [], ◌∷◌, ◌++◌, length, map, take, drop}
use Rattle.std.specs.Prelude.{Result, MatchResult, option_map}
use Rattle.std.specs.Iterator.{Yields}
use Rattle.std.specs.Iterator.Runs.{WholeRun}
use Rattle.flat_arrays_bytes.specs.columnar_memory.Error.{IsOutOfMemory, IsOutOfSpec, IsOverflow}
use Rattle.flat_arrays_bytes.specs.columnar_memory.Growth.{IsGrowthFault}
use Rattle.flat_arrays_bytes.specs.columnar_memory.Layouts.{physical_type}
use Rattle.flat_arrays_bytes.specs.columnar_memory.Spans.{extended, first_spans, last_of, offset_at}
use Rattle.flat_arrays_bytes.specs.columnar_memory.declared.Error.{Error}
use Rattle.flat_arrays_bytes.specs.columnar_memory.declared.PhysicalType.{PhysicalType}
use Rattle.flat_arrays_bytes.specs.ByteStrings.{ByteStrings, byte_strings, len_of, marks_of, slots_of, with_mask}
use Rattle.flat_arrays_bytes.specs.Fits.{IsMaskOf}
use Rattle.flat_arrays_bytes.specs.values.Flat.{needed_mask}
use Rattle.flat_arrays_bytes.specs.values.Growth.{with_marks}

-- a mask has a mark for each value, and the last value ends where the bytes end
pub record IsFilled (a : ByteStrings) : Type 0 where
  pub masked : IsMaskOf (len_of a) a.validity
  pub filled : length a.bytes ≡ last_of a.offsets

-- Arrays of the type lie in memory like this, a mask has a mark for each value, and the last value ends where the bytes end.
pub record IsGrown (layout : PhysicalType) (a : ByteStrings) : Type 0 where
  pub fits : physical_type a.data_type ≡ layout
  pub whole : IsFilled a

-- the same, and there is no mask
pub record IsValues (layout : PhysicalType) (a : ByteStrings) : Type 0 where
  pub fits : physical_type a.data_type ≡ layout
  pub whole : IsFilled a
  pub unmasked : a.validity ≡ None

-- the parts without the bytes behind the last value
abbrev pub trimmed : ByteStrings → ByteStrings
trimmed a = byte_strings a.data_type a.offsets (take (last_of a.offsets) a.bytes) a.validity

-- the builder of these parts without the bytes behind the last value, if they are those of an array, or a refusal
abbrev pub IsTaken : (ByteStrings → Type 0) → ByteStrings → Result ByteStrings Error → Type 0
IsTaken IsArray parts r = MatchResult r (λ a. (a ≡ trimmed parts) × IsArray parts) (λ e. IsOutOfSpec e × ¬ IsArray parts)

-- one more stored byte string, with its mark
abbrev pub pushed : ByteStrings → List ℕ → Bool → ByteStrings
pushed a x mark =
    byte_strings a.data_type (extended a.offsets (length x ∷ [])) (a.bytes ++ x) (with_marks (len_of a) a.validity (mark ∷ []))

-- one more slot; a null stores no bytes
abbrev pub with_slot : ByteStrings → Option (List ℕ) → ByteStrings
with_slot a (Some x) = pushed a x true
with_slot a None = pushed a [] false

-- more slots, one behind another
abbrev pub with_slots : ByteStrings → List (Option (List ℕ)) → ByteStrings
with_slots a [] = a
with_slots a (slot ∷ slots) = with_slots (with_slot a slot) slots

-- the slots of another behind these: the bytes of its values, and their marks
abbrev pub joined : ByteStrings → ByteStrings → ByteStrings
joined a b =
    byte_strings a.data_type (extended a.offsets b.offsets.lengths) (a.bytes ++ drop b.offsets.start b.bytes)
    (with_marks (len_of a) a.validity (marks_of b))

-- it grew, the last value ending within the greatest offset, or is as it was: it would pass the greatest offset, or memory ran out
abbrev pub Grows : {U : Type 0} → ℕ → ByteStrings → ByteStrings → ByteStrings → Result U Error → Type 0
Grows greatest old grown new r =
    MatchResult r (λ _. (new ≡ grown) × (last_of grown.offsets ≤ greatest))
    (λ e. (new ≡ old) × IsGrowthFault greatest (last_of grown.offsets) e)

-- It grew by the slots that the items of an iterator stand for, or by those before an item that it refused: with that one the last value
-- would pass the greatest offset, or memory ran out.
abbrev pub GrowsAlong : {S X U : Type 0} → (S → Option X → S → Type 0) → ℕ → (X → Option (List ℕ)) → S → ByteStrings → ByteStrings
    → Result U Error → Type 0
GrowsAlong {S} {X} steps greatest slot it old new r =
    MatchResult r (λ _. WholeRun steps it (λ p. new ≡ with_slots old (map slot p.items)))
    (λ e. (xs : List X) × (x : X) × (rest : S) × Yields steps it (xs ++ x ∷ []) rest × (new ≡ with_slots old (map slot xs))
    × IsGrowthFault greatest (last_of (with_slot new (slot x)).offsets) e)

-- a builder of these slots behind those of an empty one, or memory ran out, or the last value would pass the greatest offset
abbrev pub IsGathered : ℕ → ByteStrings → List (Option (List ℕ)) → Result ByteStrings Error → Type 0
IsGathered greatest empty slots r =
    MatchResult r (λ a. a ≡ with_slots empty slots) (λ e. IsOutOfMemory e ⊎ (IsOverflow e × (greatest < last_of (with_slots empty slots).offsets)))

-- the same of the slots that the items of an iterator stand for, as many of them as were looked at
abbrev pub GathersAlong : {S X : Type 0} → (S → Option X → S → Type 0) → ℕ → (X → Option (List ℕ)) → S → ByteStrings → Result ByteStrings Error
    → Type 0
GathersAlong {S} {X} steps greatest slot it empty r =
    MatchResult r (λ a. WholeRun steps it (λ p. a ≡ with_slots empty (map slot p.items)))
    (λ e. IsOutOfMemory e ⊎ ((xs : List X) × (rest : S) × Yields steps it xs rest × IsOverflow e
    × (greatest < last_of (with_slots empty (map slot xs)).offsets)))

-- it changed, or memory ran out and it is as it was
abbrev pub OrUnchanged : {A : Type 0} → ByteStrings → ByteStrings → Result A Error → (A → Type 0) → Type 0
OrUnchanged old new r Changed = MatchResult r Changed (λ e. (new ≡ old) × IsOutOfMemory e)

-- the first slots
abbrev pub first_slots : ByteStrings → ℕ → ByteStrings
first_slots a n = byte_strings a.data_type (first_spans a.offsets n) (take (offset_at a.offsets n) a.bytes) (option_map (take n) a.validity)

-- the slots without the last one
abbrev pub without_last : ByteStrings → ByteStrings
without_last a = first_slots a (len_of a - 1)

-- the last slot is taken off, and where there is none, nothing
pub record Pops (old : ByteStrings) (slot : Option (List ℕ)) (new : ByteStrings) : Type 0 where
  pub empty : len_of old ≡ 0 → (slot ≡ None) × (new ≡ old)
  pub taken : 0 < len_of old → (new ≡ without_last old) × (slots_of old ≡ slots_of new ++ slot ∷ [])

-- the same slots, with a mask only where one is null
abbrev pub tidied : ByteStrings → ByteStrings
tidied a = with_mask a (needed_mask a.validity)
