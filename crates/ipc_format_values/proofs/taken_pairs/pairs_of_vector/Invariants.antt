use Rattle.ipc_format_writing.specs.messages.SchemaRefs.{pairs_view}
use Rattle.ipc_format_values.specs.Owned.{kept_at}
use Rattle.ipc_format_values.proofs.Gathered.{GatheredLeft}
use Rattle.ipc_format_values.proofs.taken_pairs.pairs_of_vector.Given as goal

abbrev pub invariant-loop-k : goal.invariant-loop-k
invariant-loop-k l = GatheredLeft (kept_at (pairs_view l.pairs)) l.pairs.tables.vector.count l.made l.k
