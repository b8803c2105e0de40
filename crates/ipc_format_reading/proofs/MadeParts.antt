-- Parts that are read of a column fit it: masks, offsets, ids and places. What is made of them and of children has the slots that the format gives.
use Rattle.std.proofs.Common.{◌≡◌, ◌∙◌, ℕ, zero, suc, ◌+◌, ◌-◌, ◌^◌, ◌≤◌, ◌<◌, Bool, true, false, List, [], ◌∷◌, length, map, refl, sym, ap, subst, arith}
use Rattle.std.proofs.Common.{add-one, slice_index}
use Rattle.std.specs.Prelude.{Option, Some, None}
use Rattle.std.proofs.lemmas.Bool.{eq-eqb, false≢true}
use Rattle.ipc_format_array_reading.specs.columnar_memory.declared.DataType.TheOpen as layer
use Rattle.ipc_format_array_reading.specs.columnar_memory.declared.DataType.{DataType}
use Rattle.ipc_format_array_reading.specs.columnar_memory.declared.Field.{Field}
use Rattle.ipc_format_array_reading.specs.columnar_memory.Spans as memory
use Rattle.ipc_format_array_reading.specs.columnar_memory.Spans.{Spans, ends_from, offsets_of}
use Rattle.ipc_format_array_reading.specs.columns.Kinds.{most_offset}
use Rattle.ipc_format_array_reading.specs.columns.StoredColumns.{Column, slots, type_layer}
use Rattle.ipc_format_array_reading.specs.columns.SoundColumns.{mask_fits}
use Rattle.ipc_format_array_reading.proofs.TypeLayers.{Layer, layer_layout}
use Rattle.ipc_format_array_reading.specs.flatbuffers.Reading.{◌>>=◌}
use Rattle.ipc_format_array_reading.specs.ArrayReads.{fields_below, has_arrays}
use Rattle.ipc_format_array_reading.specs.column_writing.column_reading.Flat.{IsMaskOf}
use Rattle.ipc_format_array_reading.specs.Parts.{AreInRange, AreParts, Parts, beginning_of, made_column, parts_in}
use Rattle.ipc_format_array_reading.specs.declared.begun.Beginning.{Beginning}
use Rattle.ipc_format_array_reading.specs.declared.begun.Beginning.TheVariants as beginnings
use Rattle.ipc_format_array_reading.specs.declared.begun.Begun.{Begun}
use Rattle.ipc_format_array_reading.specs.declared.begun.Begun.TheVariants as begun
use Rattle.ipc_format_array_reading.proofs.ColumnReads.{last_is}
use Rattle.ipc_format_reading.proofs.JoinedSlots.{AreChildren, AreSpans, AreTyped, AreWhole, arrays_any, beside, joined_slots}
use Rattle.ipc_format_reading.proofs.MadeColumns.{made_has_slots}
use Rattle.ipc_format_reading.proofs.MadeNone.{made_none}

mask_is : (n : ℕ) (mask : Option (List Bool)) → IsMaskOf n mask → mask_fits mask n ≡ true
mask_is n None marked = refl
mask_is n (Some marks) marked = eq-eqb (length marks) n (marked marks refl)

-- ---- offsets of spans

ends_count : (before : ℕ) (lengths : List ℕ) → length (ends_from before lengths) ≡ length lengths
ends_count before [] = refl
ends_count before (l ∷ ls) = ap suc (ends_count (before + l) ls)

ends_rise : (before : ℕ) (lengths : List ℕ) (i : ℕ) → i < length lengths
    → slice_index (before ∷ ends_from before lengths) i ≤ slice_index (before ∷ ends_from before lengths) (suc i)
ends_rise before [] i inside = absurd (omega arith)
ends_rise before (l ∷ ls) zero inside = omega arith
ends_rise before (l ∷ ls) (suc i) inside = ends_rise (before + l) ls i (omega arith)

spans_fit : (most taken : ℕ) (mask : Option (List Bool)) (s : Spans) → IsMaskOf taken mask → length s.lengths ≡ taken → memory.last_of s ≤ most
    → AreSpans most taken mask (offsets_of s)
spans_fit most taken mask s marked counted small = record {
  marked = mask_is taken mask marked;
  counted = omega (arith, ends_count s.start s.lengths, counted);
  rise = λ (i : ℕ) (inside : i < taken). subst (λ (j : ℕ). slice_index (offsets_of s) i ≤ slice_index (offsets_of s) j) (sym (add-one i))
      (ends_rise s.start s.lengths i (omega (arith, counted)));
  small = omega (arith, last_is s, small);
}

-- ---- by a type's layer

unlike : false ≡ true → ⊥
unlike e = false≢true e

abbrev is_small : Beginning → Bool
is_small beginnings.Small = true
is_small _ = false

abbrev is_large : Beginning → Bool
is_large beginnings.Large = true
is_large _ = false

small_most : (x : Layer) → beginning_of x ≡ beginnings.Small → 2 ^ 31 - 1 ≡ most_offset (layer_layout x)
small_most (layer.List item) begins = refl
small_most (layer.Map entry is_sorted) begins = refl
small_most (layer.LargeList item) begins = absurd (unlike (ap is_small begins))
small_most (layer.Union us numbers mode) begins = absurd (unlike (ap is_small begins))
small_most x begins = absurd (unlike (ap is_small begins))

large_most : (x : Layer) → beginning_of x ≡ beginnings.Large → 2 ^ 63 - 1 ≡ most_offset (layer_layout x)
large_most (layer.LargeList item) begins = refl
large_most (layer.List item) begins = absurd (unlike (ap is_large begins))
large_most (layer.Map entry is_sorted) begins = absurd (unlike (ap is_large begins))
large_most (layer.Union us numbers mode) begins = absurd (unlike (ap is_large begins))
large_most x begins = absurd (unlike (ap is_large begins))

-- what is read of parts is whole
pub parts_whole : (x : Layer) (parts : Begun) → AreParts x parts → AreInRange parts → AreWhole x (parts_in parts)
parts_whole x (begun.Marks marked) are fit = mask_is marked.taken marked.validity are.1
parts_whole x (begun.Small marked offsets) are fit =
    subst (λ (most : ℕ). AreSpans most marked.taken marked.validity (offsets_of offsets)) (small_most x are.0)
    (spans_fit (2 ^ 31 - 1) marked.taken marked.validity offsets are.1 are.2 are.3)
parts_whole x (begun.Large marked offsets) are fit =
    subst (λ (most : ℕ). AreSpans most marked.taken marked.validity (offsets_of offsets)) (large_most x are.0)
    (spans_fit (2 ^ 63 - 1) marked.taken marked.validity offsets are.1 are.2 are.3)
parts_whole x (begun.Choices numbers None) are fit = record { fit = fit; placed = tt }
parts_whole x (begun.Choices numbers (Some places)) are fit = record { fit = fit.0; placed = (are.1, fit.1) }

-- ---- what is made of them

-- what is made of what was read has the slots that the format gives
pub begun_has_slots : {X : Type 0} (f : DataType → X) (g : Field → X) (t : DataType) (limit : Option ℕ) (parts : Begun) (cs : List Column)
    → has_arrays (beside f g (type_layer t)) ≡ true → AreParts (type_layer t) parts → AreInRange parts → AreChildren (type_layer t) cs
    → joined_slots (type_layer t) limit (parts_in parts) (map slots cs) ≡ (made_column t limit (parts_in parts) cs >>= (λ c. Some (slots c)))
begun_has_slots f g t limit parts cs arrays are fit below =
    made_has_slots t limit (parts_in parts) cs (sym (arrays_any f g (type_layer t)) ∙ arrays) (parts_whole (type_layer t) parts are fit) below

-- nothing is made of a type that has no arrays
pub begun_makes_none : {X : Type 0} (f : DataType → X) (g : Field → X) (t : DataType) (limit : Option ℕ) (parts : Parts) (cs : List Column)
    → has_arrays (beside f g (type_layer t)) ≡ false → AreTyped (fields_below (type_layer t)) cs → made_column t limit parts cs ≡ None
begun_makes_none f g t limit parts cs bare typed =
    made_none t limit parts cs (sym (arrays_any f g (type_layer t)) ∙ bare) typed
