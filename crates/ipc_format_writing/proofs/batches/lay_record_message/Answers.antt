use Rattle.std.proofs.Common.{refl, rules}
use Rattle.std.specs.Prelude.{Err}
use Rattle.ipc_format_messages.specs.flatbuffers.Laying.{Piece}
use Rattle.ipc_format_messages.specs.flatbuffers.Objects.{piece_of}
use Rattle.ipc_format_messages.specs.flatbuffers.Views.{Lays}
use Rattle.ipc_format_writing.specs.MessageWriting.{batch_object, message_slots}
use Rattle.ipc_format_writing.proofs.Laid.{part-refused}
use Rattle.ipc_format_writing.proofs.batches.lay_record_message.Goals as goal

pub returns-in_err-batch : goal.returns-in_err-batch
returns-in_err-batch c =
    let batch : Piece = piece_of (batch_object c.args.rows c.args.nodes.now c.args.buffers.now) in
    let given : Lays (Err c.in_err-batch.field-0.0) batch = search rules in
    let whole = part-refused c.in_err-batch.field-0.0 (message_slots 3 batch c.args.body_length) 2 batch refl given in
    search (rules, whole)
