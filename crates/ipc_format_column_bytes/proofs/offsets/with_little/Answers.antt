use Rattle.std.proofs.Common.{◌≡◌, ◌∙◌, ◌-◌, length, true, ap, sym, arith}
use Rattle.ipc_format_streams.specs.columnar_memory.NumberLaws.{length-bytes_of}
use Rattle.ipc_format_streams.specs.columnar_memory.Numbers.{one}
use Rattle.ipc_format_streams.specs.columnar_memory.Spans.{number_of}
use Rattle.ipc_format_streams.specs.grammar.StoredEncoding.{ordered_bytes}
use Rattle.ipc_format_column_bytes.specs.Numbers.{width_of}
use Rattle.ipc_format_column_bytes.proofs.Added.{one_more}
use Rattle.ipc_format_column_bytes.proofs.Moved.{offset_is}
use Rattle.ipc_format_column_bytes.proofs.Room.{one_value_more, room_for_one}
use Rattle.ipc_format_column_bytes.proofs.offsets.with_little.Goals as goal

pub push_bytes-requires : goal.push_bytes-requires
push_bytes-requires g c =
    let size : length c.as_slice.result.now ≡ g.O.NativeType.SIZE =
    ap length (c.as_slice.ensures ∙ c.to_le_bytes.ensures.bytes)
    ∙ length-bytes_of g.O.NativeType.PRIMITIVE true (g.O.NativeType.numbers c.from_as_usize-moved.result) c.to_le_bytes.ensures.native
    ∙ sym g.met.O.NativeType.size_law in
    omega (
      arith,
      size,
      c.loop-offset.invariant.1,
      c.loop-offset.invariant.2,
      c.requires.room,
      room_for_one c.loop-offset.offset-index (length c.args.offsets.now) g.O.NativeType.SIZE c.loop-offset-test.true,
    )

pub loop-offset-preserved : goal.loop-offset-preserved
loop-offset-preserved g c =
    let value = g.O.Number.value in
    let wide = width_of g.O.Offset.IS_LARGE in
    let moved = g.O.NativeType.numbers c.from_as_usize-moved.result in
    let spelled = c.as_slice.ensures ∙ c.to_le_bytes.ensures.bytes in
    let size : length c.as_slice.result.now ≡ g.O.NativeType.SIZE =
    ap length spelled ∙ length-bytes_of g.O.NativeType.PRIMITIVE true moved c.to_le_bytes.ensures.native ∙ sym g.met.O.NativeType.size_law in (
      one_more (λ x. ordered_bytes true wide (number_of (value x) - c.args.first)) c.args.offsets.now c.loop-offset.offset-index
          c.offset-item.result c.args.room.items c.loop-offset.bytes.items c.push_bytes.new.to.items c.as_slice.result.now
          c.loop-offset-test.true c.offset-item.is c.loop-offset.invariant.0 c.push_bytes.ensures.items
          (spelled ∙ offset_is g.O.Offset.IS_LARGE true g.O.NativeType.PRIMITIVE moved (c.to_usize.result - c.args.first)
          g.met.O.Offset.kind_law (g.met.O.Index.numbers_law c.from_as_usize-moved.result ∙ ap one c.from_as_usize-moved.ensures.0)
          ∙ ap (λ z. ordered_bytes true wide (number_of z - c.args.first)) (sym c.to_usize.ensures.0)),
      omega (arith, size, c.loop-offset.invariant.1, c.push_bytes.ensures.len, one_value_more c.loop-offset.offset-index g.O.NativeType.SIZE),
      c.push_bytes.ensures.room ∙ c.loop-offset.invariant.2,
    )
