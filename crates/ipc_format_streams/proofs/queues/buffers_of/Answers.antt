use Rattle.std.proofs.Common.{◌≡◌, [], rules}
use Rattle.std.specs.Prelude.{None}
use Rattle.ipc_format_values.specs.flatbuffers.Views.{vector_of}
use Rattle.ipc_format_values.specs.grammar.Messages.{as_buffer, struct_at, structs_in}
use Rattle.ipc_format_streams.specs.Queues.{buffer_of}
use Rattle.ipc_format_streams.proofs.Structs.{taken_missing, taken_none}
use Rattle.ipc_format_streams.proofs.queues.buffers_of.Goals as goal

pub loop-k-init : goal.loop-k-init
loop-k-init c =
    let none : c.new-queue.result.items ≡ [] = search rules in
    rw none (taken_none buffer_of as_buffer c.args.buffers.now.bytes.now (vector_of c.args.buffers.now.vector))

pub returns-in_default : goal.returns-in_default
returns-in_default c =
    let bytes = c.args.buffers.now.bytes.now in
    let v = vector_of c.args.buffers.now.vector in
    let none : struct_at bytes v c.loop-k.k ≡ None = search rules in
    let missing : structs_in as_buffer bytes v ≡ None =
    taken_missing buffer_of as_buffer bytes v c.loop-k.queue.items c.loop-k.k c.loop-k-test.true none c.loop-k.invariant in
    search (rules, missing)
