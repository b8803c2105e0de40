pub mod Added
pub mod Values
pub mod Room
pub mod Moved
pub mod Packed
pub mod CutEncodings
pub mod FlatRanges
pub mod LayerWidths
pub mod WholeColumns
pub mod Bodies
pub mod Stated
pub mod Joined
pub mod MessageLimits
pub use Rattle.flat_arrays_core.proofs as flat_lemmas
pub use Rattle.ipc_format_streams.proofs as streams_lemmas
pub use Rattle.ipc_format_streams.proofs.columnar_memory_lemmas
pub use Rattle.ipc_format_streams.proofs.flatbuffers_lemmas
pub use Rattle.ipc_format_streams.proofs.columns_lemmas
pub use Rattle.ipc_format_streams.proofs.grammar_lemmas
