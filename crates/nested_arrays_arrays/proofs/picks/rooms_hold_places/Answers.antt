use Rattle.std.proofs.Common.{◌≡◌, sym, rules}
use Rattle.std.specs.Prelude.{None, pos, slice_index, slice_index_or}
use Rattle.nested_arrays_parts.specs.columns.SoundColumns.{column_lens}
use Rattle.nested_arrays_parts.specs.columns.StoredColumns.{child_number, in_columns, type_layer}
use Rattle.nested_arrays_arrays.proofs.UnionParts.{past_child}
use Rattle.nested_arrays_arrays.proofs.picks.rooms_hold_places.Goals as goal

pub returns-then-i-room_in : goal.returns-then-i-room_in
returns-then-i-room_in c =
    let room : c.room_in.result ≡ slice_index (column_lens (in_columns c.args.arrays.now))
    (child_number (type_layer c.args.data_type.now) (slice_index_or c.args.ids.now c.loop-i.i (pos 0))) = search rules in
    sym (past_child (type_layer c.args.data_type.now) c.args.ids.now None (in_columns c.args.arrays.now) c.loop-i.i c.room_in.result room
    c.if-i-room_in.true c.loop-i-test.true)
