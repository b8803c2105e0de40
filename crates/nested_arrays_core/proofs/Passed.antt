-- Lemmas of the packages below that attributes name.
pub use Rattle.nested_arrays_access.proofs.arrays_lemmas.ArrayParts.{lists_masked}
pub use Rattle.nested_arrays_access.proofs.parts_lemmas.OffsetLists.{spans_count}
