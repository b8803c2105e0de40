-- Whether arrays are equal: their types and their slots, whatever is stored under a null or around the values.
use Rattle.std.specs.Prelude.{◌≡◌, ℕ, Bool, Option, List}
use Rattle.std.proofs.Common.{ap}
use Rattle.std.specs.Bool.{Decides}
use Rattle.std.specs.Cmp.{IsEquivalence, IsPartialEquivalence, partial_equiv_from_equiv}
use Rattle.std.specs.Coded.{Coded, coded×, coded_list, coded_option, coded_ℕ}
use Rattle.flat_arrays_values.specs.columnar_memory.Sameness.{same, same-Decides, same_equivalence}
use Rattle.flat_arrays_values.specs.columnar_memory.declared.DataType.{DataType}
use Rattle.columnar_memory_types.specs.contracts.data_type.DataType as data_type
use Rattle.flat_arrays_bytes.specs.ByteStrings.{ByteStrings, slots_of}

-- two arrays have one type and the same slots
pub record AreEqual (a b : ByteStrings) : Type 0 where
  pub types : a.data_type ≡ b.data_type
  pub slots : slots_of a ≡ slots_of b

-- the data type and the slots
abbrev pub shown_of : ByteStrings → DataType × List (Option (List ℕ))
shown_of a = (a.data_type, slots_of a)

abbrev pub shown_code : Coded (DataType × List (Option (List ℕ)))
shown_code = coded× data_type.the_row.coded (coded_list (coded_option (coded_list coded_ℕ)))

-- whether two arrays have one type and the same slots
unfoldable pub same_array : ByteStrings → ByteStrings → Bool
same_array a b = same shown_code (shown_of a) (shown_of b)

pub same_array-Decides : (a b : ByteStrings) → Decides (same_array a b) (AreEqual a b)
unfolding same_array
same_array-Decides a b = (
  (λ h.
      let e : shown_of a ≡ shown_of b = (same-Decides shown_code (shown_of a) (shown_of b)).0 h in
      record { types = ap (λ (p : DataType × List (Option (List ℕ))). p.0) e; slots = ap (λ (p : DataType × List (Option (List ℕ))). p.1) e }),
  (λ e. (same-Decides shown_code (shown_of a) (shown_of b)).1 (λ i. (e.types i, e.slots i))),
)

pub same_array-equivalence : IsEquivalence same_array
unfolding same_array
same_array-equivalence = record {
  refl = λ a. (same_equivalence shown_code).refl (shown_of a);
  symm = λ a b. (same_equivalence shown_code).symm (shown_of a) (shown_of b);
  congr = λ a b c h. (same_equivalence shown_code).congr (shown_of a) (shown_of b) (shown_of c) h;
}

pub same_array-per : IsPartialEquivalence same_array
same_array-per = partial_equiv_from_equiv same_array-equivalence
