use Rattle.std.proofs.Common.{◌≡◌, ◌∙◌, length, true, ap, sym, arith}
use Rattle.ipc_format_streams.specs.columnar_memory.NumberLaws.{length-bytes_of}
use Rattle.ipc_format_column_bytes.specs.Numbers.{value_bytes}
use Rattle.ipc_format_column_bytes.proofs.Added.{one_more}
use Rattle.ipc_format_column_bytes.proofs.Room.{one_value_more, room_for_one}
use Rattle.ipc_format_column_bytes.proofs.Values.{value_is}
use Rattle.ipc_format_column_bytes.proofs.numbers.with_little.Goals as goal

pub push_bytes-requires : goal.push_bytes-requires
push_bytes-requires g c =
    let size : length c.as_slice.result.now ≡ g.T.NativeType.SIZE =
    ap length (c.as_slice.ensures ∙ c.to_le_bytes.ensures.bytes)
    ∙ length-bytes_of g.T.NativeType.PRIMITIVE true (g.T.NativeType.numbers c.value-item.result) c.to_le_bytes.ensures.native
    ∙ sym g.met.T.NativeType.size_law in
    omega (
      arith,
      size,
      c.loop-value.invariant.1,
      c.loop-value.invariant.2,
      c.requires,
      room_for_one c.loop-value.value-index (length c.args.values.now) g.T.NativeType.SIZE c.loop-value-test.true,
    )

pub loop-value-preserved : goal.loop-value-preserved
loop-value-preserved g c =
    let kind = g.T.NativeType.PRIMITIVE in
    let number = g.T.NativeType.numbers in
    let spelled = c.as_slice.ensures ∙ c.to_le_bytes.ensures.bytes in
    let size : length c.as_slice.result.now ≡ g.T.NativeType.SIZE =
    ap length spelled ∙ length-bytes_of kind true (number c.value-item.result) c.to_le_bytes.ensures.native ∙ sym g.met.T.NativeType.size_law in (
      one_more (λ v. value_bytes true kind (number v)) c.args.values.now c.loop-value.value-index c.value-item.result c.args.room.items
          c.loop-value.bytes.items c.push_bytes.new.to.items c.as_slice.result.now c.loop-value-test.true c.value-item.is
          c.loop-value.invariant.0 c.push_bytes.ensures.items
          (spelled ∙ value_is kind true (number c.value-item.result) c.to_le_bytes.ensures.native),
      omega (arith, size, c.loop-value.invariant.1, c.push_bytes.ensures.len, one_value_more c.loop-value.value-index g.T.NativeType.SIZE),
      c.push_bytes.ensures.room ∙ c.loop-value.invariant.2,
    )
