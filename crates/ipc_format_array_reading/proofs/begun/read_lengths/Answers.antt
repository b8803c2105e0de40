-- Node by node.
use Rattle.std.proofs.Common.{◌≡◌, ◌∙◌, ◌<◌, ◌^◌, ℕ, ap, arith, length, rules, subst, sym}
use Rattle.std.specs.Prelude.{IfSome, None, Option, Some, slice_get}
use Rattle.std.proofs.lemmas.Option.{slice_get-get_or}
use Rattle.ipc_format_column_writing.specs.column_reading.Buffers.{taken_in}
use Rattle.ipc_format_column_writing.specs.column_reading.messages.declared.values.FieldNode.{FieldNode}
use Rattle.ipc_format_array_reading.proofs.SmallNodes.{all_below, one_more}
use Rattle.ipc_format_array_reading.proofs.begun.read_lengths.Goals as goal

pub loop-k-preserved : goal.loop-k-preserved
loop-k-preserved c =
    let nodes = c.args.field_nodes.now.items in
    let node : FieldNode = c.index.result.now in
    let inside : c.loop-k.k < length nodes = search rules in
    let there : slice_get nodes c.loop-k.k ≡ Some node =
    slice_get-get_or nodes c.loop-k.k node inside ∙ ap Some (sym c.index.ensures) in
    let small : IfSome (taken_in None node) (λ taken. taken < 2 ^ 63) =
    subst (λ (r : Option ℕ). IfSome r (λ taken. taken < 2 ^ 63)) c.slots_taken-taken.ensures.value c.slots_taken-taken.ensures.small in
    one_more nodes c.loop-k.k node there small c.loop-k.invariant

pub returns : goal.returns
returns c = all_below c.args.field_nodes.now.items c.loop-k.k (omega (arith, c.loop-k-test.false, c.len-k-end.ensures)) c.loop-k.invariant
