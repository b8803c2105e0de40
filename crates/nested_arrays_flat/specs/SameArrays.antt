-- A test of whether arrays are equal.
use Rattle.std.specs.Prelude.{◌&&◌, Bool}
use Rattle.std.specs.Bool.{Decides}
use Rattle.std.specs.Cmp.{IsEquivalence, IsPartialEquivalence, partial_equiv_from_equiv, and_equiv, on_equiv, first_so, second_so}
use Rattle.std.specs.Cmp.Lexicographic.{pointwise, pointwise_decides, lists_equiv}
use Rattle.flat_arrays_core.specs.columnar_memory.Equality.{same_type, same_type-Decides, same_type-equivalence}
use Rattle.flat_arrays_core.specs.columnar_memory.Sameness.{equivalence_from_Decides}
use Rattle.nested_arrays_columns.proofs.SameSlotsDecide.{sameness_decides}
use Rattle.nested_arrays_columns.specs.SameSlots.{same_slot}
use Rattle.nested_arrays_columns.specs.StoredColumns.{Column, column_type, slots}
use Rattle.nested_arrays_flat.specs.EqualArrays.{AreEqual}

-- whether columns are equal
abbrev pub same_column : Column → Column → Bool
same_column a b = same_type (column_type a) (column_type b) && pointwise same_slot (slots a) (slots b)

pub same_column-Decides : (a b : Column) → Decides (same_column a b) (AreEqual a b)
same_column-Decides a b =
    let types = same_type-Decides (column_type a) (column_type b) in
    let found = pointwise_decides sameness_decides (slots a) (slots b) in (
      λ h. record {
        types = types.0 (first_so (same_type (column_type a) (column_type b)) (pointwise same_slot (slots a) (slots b)) h);
        slots = found.0 (second_so (same_type (column_type a) (column_type b)) (pointwise same_slot (slots a) (slots b)) h);
      },
      λ e i. types.1 e.types i && found.1 e.slots i,
    )

pub same_column-equivalence : IsEquivalence same_column
same_column-equivalence = and_equiv (on_equiv column_type same_type-equivalence)
    (on_equiv slots (lists_equiv (equivalence_from_Decides same_slot sameness_decides)))

pub same_column-per : IsPartialEquivalence same_column
same_column-per = partial_equiv_from_equiv same_column-equivalence
