use Rattle.std.proofs.Common.{◌≡◌, ◌++◌, rules, arith}
use Rattle.std.specs.Prelude.{Some, None}
use Rattle.ipc_format_writing.specs.messages.SchemaRefs.{pairs_view}
use Rattle.ipc_format_values.specs.Owned.{kept, kept_at}
use Rattle.ipc_format_values.proofs.Gathered.{gathered_next, gathered_none, gathered_done}
use Rattle.ipc_format_values.proofs.taken_pairs.pairs_of_vector.Goals as goal

pub returns-in_default : goal.returns-in_default
returns-in_default c =
    let none : kept_at (pairs_view c.args.pairs.now) c.loop-k.k ≡ None = search rules in
    gathered_none (kept_at (pairs_view c.args.pairs.now)) c.args.pairs.now.tables.vector.count c.loop-k.made c.loop-k.k c.loop-k-test.true none
    c.loop-k.invariant

pub loop-k-preserved : goal.loop-k-preserved
loop-k-preserved c =
    let is : kept_at (pairs_view c.args.pairs.now) c.loop-k.k ≡ Some (kept c.in-Some.found) = search rules in
    let made : c.put.new.pairs ≡ c.loop-k.made ++ kept c.in-Some.found = search rules in
    gathered_next (kept_at (pairs_view c.args.pairs.now)) c.args.pairs.now.tables.vector.count c.loop-k.made (kept c.in-Some.found) c.put.new.pairs
    c.loop-k.k is made c.loop-k.invariant

pub returns : goal.returns
returns c =
    gathered_done (kept_at (pairs_view c.args.pairs.now)) c.args.pairs.now.tables.vector.count c.loop-k.made c.loop-k.k (omega arith)
    c.loop-k.invariant
