-- Whether builders of byte strings or texts are equal: by their slots alone, whatever their data types and what is stored under a null.
use Rattle.std.specs.Prelude.{◌≡◌, ℕ, Bool, Option, List}
use Rattle.std.specs.Bool.{Decides}
use Rattle.std.specs.Cmp.{IsEquivalence, IsPartialEquivalence, partial_equiv_from_equiv}
use Rattle.std.specs.Coded.{Coded, coded_list, coded_option, coded_ℕ}
use Rattle.flat_arrays_byte_values_builders.specs.columnar_memory.Sameness.{same, same-Decides, same_equivalence}
use Rattle.flat_arrays_byte_values_builders.specs.bytes.ByteStrings.{ByteStrings, slots_of}

abbrev pub slots_code : Coded (List (Option (List ℕ)))
slots_code = coded_list (coded_option (coded_list coded_ℕ))

-- the slots are the same
unfoldable pub same_slots : ByteStrings → ByteStrings → Bool
same_slots a b = same slots_code (slots_of a) (slots_of b)

pub same_slots-Decides : (a b : ByteStrings) → Decides (same_slots a b) (slots_of a ≡ slots_of b)
unfolding same_slots
same_slots-Decides a b = same-Decides slots_code (slots_of a) (slots_of b)

pub same_slots-equivalence : IsEquivalence same_slots
unfolding same_slots
same_slots-equivalence = record {
  refl = λ a. (same_equivalence slots_code).refl (slots_of a);
  symm = λ a b. (same_equivalence slots_code).symm (slots_of a) (slots_of b);
  congr = λ a b c h. (same_equivalence slots_code).congr (slots_of a) (slots_of b) (slots_of c) h;
}

pub same_slots-per : IsPartialEquivalence same_slots
same_slots-per = partial_equiv_from_equiv same_slots-equivalence
