use Rattle.std.proofs.Common.{arith}
use Rattle.nested_arrays_parts.proofs.SameStrings.{ends_behind}
use Rattle.nested_arrays_parts.proofs.strings.window.Goals as goal

pub slice_bounds-result-count : goal.slice_bounds-result-count
slice_bounds-result-count g c =
    omega (
      arith,
      ends_behind c.args.offsets.now c.args.i c.args.count c.requires.some c.requires.within,
      c.start_end-start.ensures.start,
      c.start_end-end.ensures.stop,
    )

pub slice_bounds-result-start : goal.slice_bounds-result-start
slice_bounds-result-start g c =
    omega (
      arith,
      ends_behind c.args.offsets.now c.args.i c.args.count c.requires.some c.requires.within,
      c.start_end-start.ensures.start,
      c.start_end-end.ensures.stop,
      c.start_end-end.ensures.within,
      c.requires.bytes,
    )
