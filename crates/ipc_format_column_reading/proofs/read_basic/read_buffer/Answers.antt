-- The values of the bytes in memory from the next buffer's place on, which states enough.
use Rattle.std.proofs.Common.{◌≡◌, ◌∙◌, ◌+◌, ◌*◌, ◌≤◌, List, ℕ, false, refl, sym, ap, arith, rules}
use Rattle.std.specs.Prelude.{None, Some, is_some, map}
use Rattle.ipc_format_column_bytes.specs.streams.flatbuffers.Reading.{window_at}
use Rattle.ipc_format_column_reading.specs.Buffers.{next_stated, values_in}
use Rattle.ipc_format_column_reading.proofs.NextBuffers.{window_stated}
use Rattle.ipc_format_column_reading.proofs.NextValues.{values_count, values_given}
use Rattle.ipc_format_column_reading.proofs.read_basic.read_buffer.Goals as goal

pub returns-in_default-window_from-clause-read : goal.returns-in_default-window_from-clause-read
returns-in_default-window_from-clause-read g c =
    let buffers = c.args.buffers.now.items in
    let origin = c.args.block_offset in
    let offset = c.in-Some.offset in
    let stated = c.in-Some.stated in
    let needed = c.in-Some-checked_mul.needed in
    let memory = c.in-Some-as_memory.bytes.now in
    let uncompressed : is_some c.args.compression ≡ false = search rules in
    let is : next_stated buffers ≡ Some (offset, stated) = search rules in
    let size : needed ≡ c.args.count * g.T.NativeType.SIZE = search rules in
    let enough : needed ≤ stated = omega arith in
    let told : (g.R.Room.told c.args.reader.now).bytes ≡ Some memory = search rules in
    let none : window_at memory (origin + offset) needed ≡ None = search rules in (
      uncompressed,
      λ room is_room.
          let same : room ≡ memory = cc (told, is_room) in
          values_given g.T.NativeType.PRIMITIVE c.args.is_little_endian buffers origin c.args.count g.T.NativeType.SIZE needed room None
          g.met.T.NativeType.size_law size
          (window_stated buffers origin needed room offset stated is enough ∙ ap (λ (bytes : List ℕ). window_at bytes (origin + offset) needed) same
          ∙ none),
    )

pub returns-in-Some-buffer_of-clause-read : goal.returns-in-Some-buffer_of-clause-read
returns-in-Some-buffer_of-clause-read g c =
    let buffers = c.args.buffers.now.items in
    let origin = c.args.block_offset in
    let offset = c.in-Some.offset in
    let stated = c.in-Some.stated in
    let needed = c.in-Some-checked_mul.needed in
    let memory = c.in-Some-as_memory.bytes.now in
    let part = c.in-Some-window_from.part.now in
    let uncompressed : is_some c.args.compression ≡ false = search rules in
    let is : next_stated buffers ≡ Some (offset, stated) = search rules in
    let size : needed ≡ c.args.count * g.T.NativeType.SIZE = search rules in
    let enough : needed ≤ stated = omega arith in
    let told : (g.R.Room.told c.args.reader.now).bytes ≡ Some memory = search rules in
    let some : window_at memory (origin + offset) needed ≡ Some part = search rules in
    let values : map g.T.NativeType.numbers c.in-Some-buffer_of.values
    ≡ values_in g.T.NativeType.PRIMITIVE c.args.is_little_endian c.args.count part = search rules in (
      uncompressed,
      (refl, omega arith),
      λ room is_room.
          let same : room ≡ memory = cc (told, is_room) in
          values_given g.T.NativeType.PRIMITIVE c.args.is_little_endian buffers origin c.args.count g.T.NativeType.SIZE needed room (Some part)
          g.met.T.NativeType.size_law size
          (window_stated buffers origin needed room offset stated is enough ∙ ap (λ (bytes : List ℕ). window_at bytes (origin + offset) needed) same
          ∙ some) ∙ ap Some (sym values),
    )

pub returns-in-Some-buffer_of-clause-size : goal.returns-in-Some-buffer_of-clause-size
returns-in-Some-buffer_of-clause-size g c =
    values_count g.T.NativeType.numbers g.T.NativeType.PRIMITIVE c.args.is_little_endian c.args.count c.in-Some-window_from.part.now
    c.in-Some-buffer_of.values c.in-Some-buffer_of.ensures

pub returns-in-Some-buffer_of-2-clause-size : goal.returns-in-Some-buffer_of-2-clause-size
returns-in-Some-buffer_of-2-clause-size g c =
    values_count g.T.NativeType.numbers g.T.NativeType.PRIMITIVE c.args.is_little_endian c.args.count c.deref.result.now
    c.in-Some-buffer_of-2.values c.in-Some-buffer_of-2.ensures
