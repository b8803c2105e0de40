use Rattle.ipc_format_grammar.specs.Schemas.{metadata_in}
use Rattle.ipc_format_grammar.specs.flatbuffers.Views.{table_of, vector_of}
use Rattle.ipc_format_metadata.proofs.MetadataPairs.{PairsLeft}
use Rattle.ipc_format_metadata.proofs.pairs.metadata_in.Given as goal

abbrev pub invariant-loop-k : goal.invariant-loop-k
invariant-loop-k l = PairsLeft l.bytes (vector_of l.vector) (metadata_in l.bytes (table_of l.table) l.slot) l.pairs l.k
