-- Lemmas of the packages below that attributes name.
pub use Rattle.nested_arrays_iterators.proofs.columnar_memory_lemmas.bits_lemmas.Windows.{window_next}
pub use Rattle.nested_arrays_iterators.proofs.flat_arrays_lemmas.values_lemmas.Layouts.{plainest}
