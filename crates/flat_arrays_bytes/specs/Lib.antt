pub mod ByteStrings
pub mod Equal
pub mod Fits
pub mod Laws
pub mod Texts
pub mod ByteWalks
pub mod Collected
pub use Rattle.flat_arrays_values.specs as values
pub use Rattle.flat_arrays_values.specs.columnar_memory
