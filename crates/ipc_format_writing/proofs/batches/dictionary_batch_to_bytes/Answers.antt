use Rattle.std.proofs.Common.{arith, rules}
use Rattle.ipc_format_messages.specs.flatbuffers.Objects.{piece_of}
use Rattle.ipc_format_messages.specs.flatbuffers.Views.{Lays}
use Rattle.ipc_format_writing.specs.MessageWriting.{dictionary_message}
use Rattle.ipc_format_writing.proofs.Laid.{answered}
use Rattle.ipc_format_writing.proofs.batches.dictionary_batch_to_bytes.Goals as goal

pub returns : goal.returns
returns c =
    let message = dictionary_message c.args.id c.args.rows c.args.nodes.now c.args.buffers.now c.args.body_length in
    let made : Lays c.lay_dictionary_message-laid.result (piece_of message) = search rules in
    answered c.finish.result c.lay_dictionary_message-laid.result message c.args.body_length (omega arith) made c.finish.ensures
