-- Walks over the slots of an array of byte strings or texts.
use Rattle.std.specs.Prelude.{◌≡◌, ℕ, Bool, List, MatchOption, ◌==◌, if◌then◌else◌}
use Rattle.flat_arrays_values.specs.columnar_memory.Bits.{unset_count}
use Rattle.flat_arrays_values.specs.columnar_memory.declared.ZipValidity.{ZipValidity}
use Rattle.flat_arrays_values.specs.columnar_memory.declared.ZipValidity.TheVariants.{Required, Optional}
use Rattle.flat_arrays_values.specs.Walks.{slots_left, IsEven}
use Rattle.flat_arrays_bytes.specs.ByteStrings.{ByteStrings, len_of, slots_of, values_of}
use Rattle.flat_arrays_bytes.specs.Fits.{IsMaskOf}

-- a walk stands before an array: before its values alone where no mark is false, else beside the marks
abbrev pub StandsBefore : {T : Type 0} → ByteStrings → ZipValidity T (List (List ℕ)) (List Bool) → Type 0
StandsBefore a it = MatchOption a.validity (it ≡ Required (values_of a)) (λ mask. it ≡ (
    if unset_count mask == 0 then Required (values_of a) else Optional (values_of a, mask)))

-- what stands before an array has all of its slots left
abbrev pub StandsBeforeSlots : Type 0 → Type 0
StandsBeforeSlots T = (a : ByteStrings) (it : ZipValidity T (List (List ℕ)) (List Bool)) → IsMaskOf (len_of a) a.validity → StandsBefore a it
    → IsEven (λ values. values) (λ marks. marks) it × (slots_left (λ values. values) (λ marks. marks) it ≡ slots_of a)
