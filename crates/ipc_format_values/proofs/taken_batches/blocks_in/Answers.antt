use Rattle.std.proofs.Common.{◌≡◌, ◌++◌, ◌∷◌, [], rules, arith}
use Rattle.std.specs.Prelude.{Some, None}
use Rattle.ipc_format_writing.specs.messages.MessageViews.{blocks_view}
use Rattle.ipc_format_values.specs.OwnedMessages.{stated_at}
use Rattle.ipc_format_values.proofs.Gathered.{gathered_next, gathered_none, gathered_done}
use Rattle.ipc_format_values.proofs.taken_batches.blocks_in.Goals as goal

pub returns-in_default : goal.returns-in_default
returns-in_default c =
    let read = stated_at (blocks_view c.args.blocks.now) in
    let none : read c.loop-k.k ≡ None = search rules in
    gathered_none read c.args.blocks.now.vector.count c.loop-k.made c.loop-k.k c.loop-k-test.true none c.loop-k.invariant

pub loop-k-preserved : goal.loop-k-preserved
loop-k-preserved c =
    let read = stated_at (blocks_view c.args.blocks.now) in
    let is : read c.loop-k.k ≡ Some (c.in-Some.block ∷ []) = search rules in
    let made : c.push.new.self ≡ c.loop-k.made ++ c.in-Some.block ∷ [] = search rules in
    gathered_next read c.args.blocks.now.vector.count c.loop-k.made (c.in-Some.block ∷ []) c.push.new.self c.loop-k.k is made
    c.loop-k.invariant

pub returns : goal.returns
returns c =
    gathered_done (stated_at (blocks_view c.args.blocks.now)) c.args.blocks.now.vector.count c.loop-k.made c.loop-k.k (omega arith)
    c.loop-k.invariant
