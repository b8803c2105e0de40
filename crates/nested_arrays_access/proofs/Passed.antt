-- Lemmas of the packages below that attributes name.
pub use Rattle.nested_arrays_arrays.proofs.flat_lemmas.SoundFlats.{primitive_cut, primitive_len}
pub use Rattle.nested_arrays_arrays.proofs.parts_lemmas.FlatCuts.{binary_cut, boolean_cut, strings_len, text_cut, texts_len}
