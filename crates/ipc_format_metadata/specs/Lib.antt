pub mod Views
pub mod Leaves
pub mod Reading
pub mod Names
pub mod Parts
pub mod LayerViews
pub mod FieldViews
pub mod Steps
pub mod ReadViews
pub mod SchemaViews
pub mod Reports
pub mod Sameness
pub use Rattle.ipc_format_grammar.specs as grammar
pub use Rattle.ipc_format_grammar.specs.columnar_memory
pub use Rattle.ipc_format_grammar.specs.flatbuffers
pub use Rattle.ipc_format_grammar.specs.columns
