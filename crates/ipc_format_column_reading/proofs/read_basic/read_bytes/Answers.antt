-- The bytes from the next buffer's place on, which states enough, are those of the next buffer.
use Rattle.std.proofs.Common.{◌≡◌, ◌∙◌, ◌+◌, ◌≤◌, false, Some, rules, arith}
use Rattle.std.specs.Prelude.{None, is_some}
use Rattle.ipc_format_column_bytes.specs.streams.flatbuffers.Reading.{window_at}
use Rattle.ipc_format_column_reading.specs.Buffers.{next_stated, next_window}
use Rattle.ipc_format_column_reading.specs.Rooms.{ForBytes}
use Rattle.ipc_format_column_reading.proofs.NextBuffers.{window_stated, refusal_for}
use Rattle.ipc_format_column_reading.proofs.read_basic.read_bytes.Goals as goal

pub returns-in-Ok-clause-read : goal.returns-in-Ok-clause-read
returns-in-Ok-clause-read g c =
    let buffers = c.args.buffers.now.items in
    let offset = c.in-Some.offset in
    let stated = c.in-Some.stated in
    let uncompressed : is_some c.args.compression ≡ false = search rules in
    let is : next_stated buffers ≡ Some (offset, stated) = search rules in
    let enough : c.args.count ≤ stated = omega arith in (
      uncompressed,
      c.in-Ok.ensures.fills.0,
      λ room told. window_stated buffers c.args.block_offset c.args.count room offset stated is enough ∙ c.in-Ok.ensures.fills.2 room told,
    )

pub returns-in-Err-clause-read : goal.returns-in-Err-clause-read
returns-in-Err-clause-read g c =
    let buffers = c.args.buffers.now.items in
    let offset = c.in-Some.offset in
    let stated = c.in-Some.stated in
    let old = g.R.Room.told c.args.reader.now in
    let new = g.R.Room.told c.fill_from.new.self in
    let uncompressed : is_some c.args.compression ≡ false = search rules in
    let is : next_stated buffers ≡ Some (offset, stated) = search rules in
    let enough : c.args.count ≤ stated = omega arith in
    rw uncompressed (refusal_for old new (ForBytes old (λ room. window_at room (c.args.block_offset + offset) c.args.count ≡ None))
    (ForBytes old (λ room. next_window buffers c.args.block_offset c.args.count room ≡ None)) c.in-Err.error false
    (λ none room told. window_stated buffers c.args.block_offset c.args.count room offset stated is enough ∙ none room told) c.in-Err.ensures.fills)
