pub mod Places
pub mod Walks
pub mod Flat
pub mod FlatEqual
pub mod FlatLaws
pub mod Iteration
pub mod Results
pub mod SlotWalks
pub mod Changes
pub mod Growth
pub mod GrowthLaws
pub use Rattle.columnar_memory_core.specs as columnar_memory
