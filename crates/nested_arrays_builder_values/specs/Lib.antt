pub mod ByteBuilders
pub mod Found
pub mod Hashes
pub mod Keyed
pub mod Newest
pub mod Uses
pub use Rattle.nested_arrays_builder_parts.specs as parts
pub use Rattle.nested_arrays_builder_parts.specs.generic
pub use Rattle.flat_arrays.specs as flat_arrays
