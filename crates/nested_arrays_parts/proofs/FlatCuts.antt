-- What is cut out of arrays without children is cut out of their columns.
pub use Rattle.nested_arrays_flat.proofs.SoundFlats.{boolean_cut}
pub use Rattle.nested_arrays_flat.proofs.SoundStrings.{binary_cut, text_cut, strings_len, texts_len}
