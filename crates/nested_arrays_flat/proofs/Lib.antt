pub mod ColumnParts
pub mod CutMasks
pub mod FixedItems
pub mod FixedWidths
pub mod InRange
pub mod Layers
pub mod NullTypes
pub mod Offsets
pub mod SamePlaces
pub mod SoundFlats
pub mod SoundStrings
pub use Rattle.flat_arrays_core.proofs as flat_arrays_lemmas
pub use Rattle.nested_arrays_columns.proofs as columns_lemmas
pub use Rattle.flat_arrays_core.proofs.bytes_lemmas.columnar_memory_lemmas
