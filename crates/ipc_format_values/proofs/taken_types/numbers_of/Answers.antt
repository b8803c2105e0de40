use Rattle.std.proofs.Common.{◌≡◌, ◌++◌, ◌∷◌, [], rules, arith}
use Rattle.std.specs.Prelude.{Some, None}
use Rattle.ipc_format_values.specs.Owned.{one_number_at}
use Rattle.ipc_format_writing.specs.messages.TypeRefs.{numbers_view}
use Rattle.ipc_format_values.proofs.Gathered.{gathered_next, gathered_none, gathered_done}
use Rattle.ipc_format_values.proofs.taken_types.numbers_of.Goals as goal

pub returns-in_default : goal.returns-in_default
returns-in_default c =
    let none : one_number_at (numbers_view c.args.numbers.now) c.loop-k.k ≡ None = search rules in
    gathered_none (one_number_at (numbers_view c.args.numbers.now)) c.args.numbers.now.vector.count c.loop-k.made c.loop-k.k
    c.loop-k-test.true none c.loop-k.invariant

pub loop-k-preserved : goal.loop-k-preserved
loop-k-preserved c =
    let is : one_number_at (numbers_view c.args.numbers.now) c.loop-k.k ≡ Some (c.in-Some.number ∷ []) = search rules in
    let made : c.push.new.self ≡ c.loop-k.made ++ c.in-Some.number ∷ [] = search rules in
    gathered_next (one_number_at (numbers_view c.args.numbers.now)) c.args.numbers.now.vector.count c.loop-k.made (c.in-Some.number ∷ [])
    c.push.new.self c.loop-k.k is made c.loop-k.invariant

pub returns : goal.returns
returns c =
    gathered_done (one_number_at (numbers_view c.args.numbers.now)) c.args.numbers.now.vector.count c.loop-k.made c.loop-k.k (omega arith)
    c.loop-k.invariant
