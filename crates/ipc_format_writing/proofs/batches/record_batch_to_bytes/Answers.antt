use Rattle.std.proofs.Common.{arith}
use Rattle.ipc_format_writing.specs.MessageWriting.{record_message}
use Rattle.ipc_format_writing.proofs.Laid.{answered}
use Rattle.ipc_format_writing.proofs.batches.record_batch_to_bytes.Goals as goal

pub returns : goal.returns
returns c =
    let message = record_message c.args.rows c.args.nodes.now c.args.buffers.now c.args.body_length in
    answered c.finish.result c.lay_record_message-laid.result message c.args.body_length (omega arith) c.lay_record_message-laid.ensures
    c.finish.ensures
