use Rattle.std.proofs.Common.{◌≡◌, [], rules}
use Rattle.std.specs.Prelude.{None}
use Rattle.ipc_format_values.specs.flatbuffers.Views.{vector_of}
use Rattle.ipc_format_values.specs.grammar.Messages.{as_node, struct_at, structs_in}
use Rattle.ipc_format_streams.specs.Queues.{node_of}
use Rattle.ipc_format_streams.proofs.Structs.{taken_missing, taken_none}
use Rattle.ipc_format_streams.proofs.queues.nodes_of.Goals as goal

pub loop-k-init : goal.loop-k-init
loop-k-init c =
    let none : c.new-queue.result.items ≡ [] = search rules in
    rw none (taken_none node_of as_node c.args.nodes.now.bytes.now (vector_of c.args.nodes.now.vector))

pub returns-in_default : goal.returns-in_default
returns-in_default c =
    let bytes = c.args.nodes.now.bytes.now in
    let v = vector_of c.args.nodes.now.vector in
    let none : struct_at bytes v c.loop-k.k ≡ None = search rules in
    let missing : structs_in as_node bytes v ≡ None =
    taken_missing node_of as_node bytes v c.loop-k.queue.items c.loop-k.k c.loop-k-test.true none c.loop-k.invariant in
    search (rules, missing)
