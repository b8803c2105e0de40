-- Parts of builders of byte strings and of texts: where none are left, those of an array, and those with offsets from 0 on.
use Rattle.std.proofs.Common.{◌≡◌, ◌∙◌, ◌≤◌, ℕ, List, [], ◌∷◌, drop, refl, sym, ap, arith}
use Rattle.std.specs.Prelude.{Bool, Option, None}
use Rattle.std.proofs.lemmas.List.{drop-take}
use Rattle.flat_arrays.specs.ByteStrings.{ByteStrings, byte_strings, len_of, with_mask}
use Rattle.flat_arrays.specs.Fits.{Fits}
use Rattle.flat_arrays.specs.Growing.{IsGrown, first_slots, joined, tidied}
use Rattle.nested_arrays_builder_parts.specs.arrays.columnar_memory.declared.Error.{Error}
use Rattle.nested_arrays_builder_parts.specs.arrays.columnar_memory.declared.PhysicalType.{PhysicalType}
use Rattle.nested_arrays_builder_parts.specs.arrays.columnar_memory.Error.{IsOutOfMemory}
use Rattle.nested_arrays_builder_parts.specs.arrays.columnar_memory.Growth.{IsGrowthFault}
use Rattle.nested_arrays_builder_parts.specs.arrays.columnar_memory.Spans.{last_of, no_spans}
use Rattle.nested_arrays_builder_parts.proofs.arrays_lemmas.columnar_memory_lemmas.buffer_lemmas.Faults.{IsOutOfMemory-from_fault}
use Rattle.nested_arrays_builder_values.specs.ByteBuilders.{LeavesNoBytes, from_zero}

-- a new builder is left
pub new_left : (old new : ByteStrings) → new ≡ byte_strings old.data_type no_spans [] None → LeavesNoBytes old new
new_left old new is = ap from_zero is

-- the builder is left without slots and without a mask
pub none_left : (old mid new : ByteStrings) → mid ≡ tidied (first_slots old 0) → new ≡ with_mask mid None → LeavesNoBytes old new
none_left old mid new cut bare =
    ap from_zero (bare ∙ ap (λ (a : ByteStrings). with_mask a None) cut)
    ∙ ap (λ (content : List ℕ). byte_strings old.data_type no_spans content None) (drop-take old.offsets.start 0 old.bytes)

-- the parts of a builder make an array
pub parts_fit : (layout : PhysicalType) (a : ByteStrings) → IsGrown layout a → Fits layout a
parts_fit layout a whole =
    record { fits = whole.fits; masked = whole.whole.masked; within = omega (arith, whole.whole.filled) }

drop_none : {A : Type 0} (xs : List A) → drop 0 xs ≡ xs
drop_none [] = refl
drop_none (x ∷ xs) = refl

-- offsets that are from 0 on stay
pub from_start : (a : ByteStrings) → a.offsets.start ≡ 0 → from_zero a ≡ a
from_start a first =
    let content : drop a.offsets.start a.bytes ≡ a.bytes = ap (λ (n : ℕ). drop n a.bytes) first ∙ drop_none a.bytes in
    λ j. byte_strings a.data_type (record { start = sym first j; lengths = a.offsets.lengths }) (content j) a.validity

-- as many slots, whatever the mask
pub same_count : (a b : ByteStrings) (mask : Option (List Bool)) → with_mask a mask ≡ from_zero b → len_of a ≡ len_of b
same_count a b mask is = ap len_of is

-- ---- copies

-- the slots of another behind none are its own with offsets from 0 on, but for the mask
pub copied : (a b new : ByteStrings) → a ≡ byte_strings b.data_type no_spans [] None → new ≡ joined a b → with_mask new b.validity ≡ from_zero b
copied a b new none is =
    ap (λ (x : ByteStrings). with_mask x b.validity) (is ∙ ap (λ (x : ByteStrings). joined x b) none)

-- their offsets are none past those of the other
pub copy_fault : (a b : ByteStrings) (greatest : ℕ) (e : Error) → a ≡ byte_strings b.data_type no_spans [] None → last_of b.offsets ≤ greatest
    → IsGrowthFault greatest (last_of (joined a b).offsets) e → IsOutOfMemory e
copy_fault a b greatest e none within h =
    let last = ap (λ (x : ByteStrings). last_of (joined x b).offsets) none in
    IsOutOfMemory-from_fault greatest (last_of (joined a b).offsets) e (omega (arith, within, last)) h
