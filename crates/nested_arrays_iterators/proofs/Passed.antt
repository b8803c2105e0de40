-- Lemmas of the packages below that attributes name.
pub use Rattle.nested_arrays_core.proofs.arrays_lemmas.LaidNodes.{flat_not}
pub use Rattle.nested_arrays_core.proofs.parts_lemmas.LaidVariants.{lies_not}
