use Rattle.std.proofs.Common.{arith}
use Rattle.ipc_format_streams.proofs.columnar_memory_lemmas.buffer_lemmas.Runs.{length-AreOffsets, nonnegative}
use Rattle.ipc_format_column_bytes.proofs.Moved.{offset_read, one_number}
use Rattle.ipc_format_column_bytes.proofs.offsets.offset_at.Goals as goal

pub offset_bounds-as_slice-place : goal.offset_bounds-as_slice-place
offset_bounds-as_slice-place g c =
    omega (arith, length-AreOffsets g.O.Number.value c.as_slice.result.now c.args.offsets.now c.as_slice.ensures)

pub bounds-as_slice-place : goal.bounds-as_slice-place
bounds-as_slice-place g c = omega (arith, length-AreOffsets g.O.Number.value c.as_slice.result.now c.args.offsets.now c.as_slice.ensures)

pub to_usize-requires : goal.to_usize-requires
to_usize-requires g c =
    nonnegative _ _ (offset_read g.O.Number.value c.as_slice.result.now c.args.offsets.now c.args.place c.index-as_slice-place.result
    c.as_slice.ensures c.requires c.index-as_slice-place.is)

pub returns : goal.returns
returns g c =
    one_number (g.O.Number.value c.index-as_slice-place.result) _ _ c.to_usize.ensures.0
    (offset_read g.O.Number.value c.as_slice.result.now c.args.offsets.now c.args.place c.index-as_slice-place.result c.as_slice.ensures c.requires
    c.index-as_slice-place.is)
