use Rattle.ipc_format_values.specs.Owned.{one_number_at}
use Rattle.ipc_format_writing.specs.messages.TypeRefs.{numbers_view}
use Rattle.ipc_format_values.proofs.Gathered.{GatheredLeft}
use Rattle.ipc_format_values.proofs.taken_types.numbers_of.Given as goal

abbrev pub invariant-loop-k : goal.invariant-loop-k
invariant-loop-k l = GatheredLeft (one_number_at (numbers_view l.numbers)) l.numbers.vector.count l.made l.k
