use Rattle.std.proofs.Common.{◌∙◌, ap, sym}
use Rattle.std.specs.Prelude.{slice_index}
use Rattle.nested_arrays_parts.specs.columns.SoundColumns.{column_lens}
use Rattle.nested_arrays_parts.specs.columns.StoredColumns.{in_columns}
use Rattle.nested_arrays_arrays.proofs.picks.lie_at_offsets.Goals as goal

pub rooms_hold_offsets-requires-clause-rooms : goal.rooms_hold_offsets-requires-clause-rooms
rooms_hold_offsets-requires-clause-rooms c = λ id fits small.
    c.rooms_by_id.ensures id fits ∙ ap (slice_index (column_lens (in_columns c.args.arrays.now))) (sym (c.in-Some.ensures id))
