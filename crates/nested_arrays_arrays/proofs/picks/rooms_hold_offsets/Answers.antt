use Rattle.std.proofs.Common.{◌≡◌, ◌<◌, length, rules, arith}
use Rattle.std.specs.Prelude.{pos, slice_index, slice_index_or}
use Rattle.nested_arrays_parts.specs.columns.SoundColumns.{column_lens}
use Rattle.nested_arrays_parts.specs.columns.StoredColumns.{child_number, in_columns, type_layer}
use Rattle.nested_arrays_arrays.proofs.UnionParts.{dense_more, dense_past}
use Rattle.nested_arrays_arrays.proofs.picks.rooms_hold_offsets.Goals as goal

pub loop-i-preserved : goal.loop-i-preserved
loop-i-preserved c =
    let room : c.room_in.result ≡ slice_index (column_lens (in_columns c.args.arrays.now))
    (child_number (type_layer c.args.data_type.now) (slice_index_or c.args.ids.now c.loop-i.i (pos 0))) = search rules in
    let small : c.loop-i.i < length c.args.offsets.now = omega (arith, c.loop-i-test.true, c.requires.as_many) in
    let more = dense_more (type_layer c.args.data_type.now) c.args.ids.now c.args.offsets.now (in_columns c.args.arrays.now) c.loop-i.i
    c.in-Some.place c.room_in.result small c.in-Some.ensures.number.0 c.in-Some.ensures.number.1 room c.if-place-room_in.false
    c.loop-i.invariant.placed c.loop-i.invariant.whole in
    record { placed = more.0; whole = more.1 }

pub returns-then-place-room_in : goal.returns-then-place-room_in
returns-then-place-room_in c =
    let room : c.room_in.result ≡ slice_index (column_lens (in_columns c.args.arrays.now))
    (child_number (type_layer c.args.data_type.now) (slice_index_or c.args.ids.now c.loop-i.i (pos 0))) = search rules in
    dense_past (type_layer c.args.data_type.now) c.args.ids.now c.args.offsets.now (in_columns c.args.arrays.now) c.loop-i.i c.in-Some.place
    c.room_in.result c.loop-i-test.true c.in-Some.ensures.number.0 room c.if-place-room_in.true
