pub mod Options
pub mod Numbers
pub mod MetadataPairs
pub mod TypeSteps
pub mod FieldSteps
pub mod FieldLists
pub mod TypeReads
pub mod FieldReads
pub mod SchemaSteps
pub mod ReportSteps
mod SameIds
pub use Rattle.ipc_format_grammar.proofs as grammar_lemmas
pub use Rattle.ipc_format_grammar.proofs.columnar_memory_lemmas
pub use Rattle.ipc_format_grammar.proofs.flatbuffers_lemmas
pub use Rattle.ipc_format_grammar.proofs.columns_lemmas
