use Rattle.std.proofs.Common.{◌≡◌, length}
use Rattle.ipc_format_grammar.specs.Writable.{are_distinct}
use Rattle.ipc_format_metadata.proofs.writable.are_distinct.Given as goal

abbrev pub invariant-loop-first : goal.invariant-loop-first
invariant-loop-first l = are_distinct l.rest ≡ are_distinct l.ids

abbrev pub decreases-loop-first : goal.decreases-loop-first
decreases-loop-first l = length l.rest
