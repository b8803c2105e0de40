pub mod ArrayParts
pub mod CutNodes
pub mod KeyMasks
pub mod KeyPlaces
pub mod LaidNodes
pub mod ListParts
pub mod ListRuns
pub mod NamedRuns
pub mod RoomTables
pub mod SameSlots
pub mod SlotPlaces
pub mod StructParts
pub mod UnionParts
pub use Rattle.nested_arrays_parts.proofs as parts_lemmas
pub use Rattle.nested_arrays_parts.proofs.columns_lemmas
pub use Rattle.nested_arrays_parts.proofs.flat_arrays_lemmas
pub use Rattle.nested_arrays_parts.proofs.flat_lemmas
pub use Rattle.nested_arrays_parts.proofs.columnar_memory_lemmas
