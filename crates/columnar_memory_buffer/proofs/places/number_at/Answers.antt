use Rattle.std.proofs.Common.{◌≡◌, pos, arith, ◌∙◌, sym}
use Rattle.columnar_memory_buffer.specs.Spans.{offset_at, stored}
use Rattle.columnar_memory_buffer.proofs.Runs.{length-stored, nonnegative, value-stored}
use Rattle.columnar_memory_buffer.proofs.places.number_at.Goals as goal

pub offset_bounds-offsets-index : goal.offset_bounds-offsets-index
offset_bounds-offsets-index g c = omega (arith, length-stored g.O.Number.value c.args.offsets.now c.requires.offsets_stand)

pub bounds-offsets-index : goal.bounds-offsets-index
bounds-offsets-index g c = omega (arith, length-stored g.O.Number.value c.args.offsets.now c.requires.offsets_stand)

pub to_usize-requires : goal.to_usize-requires
to_usize-requires g c =
    nonnegative _ _ (value-stored g.O.Number.value c.args.offsets.now c.args.index c.index-offsets-index.result c.requires.offsets_stand
    c.requires.within c.index-offsets-index.is)

pub returns-clause-value : goal.returns-clause-value
returns-clause-value g c =
    let read = value-stored g.O.Number.value c.args.offsets.now c.args.index c.index-offsets-index.result c.requires.offsets_stand
    c.requires.within c.index-offsets-index.is in
    let same : pos c.to_usize.result ≡ pos (offset_at (stored g.O.Number.value c.args.offsets.now) c.args.index) = sym c.to_usize.ensures.0 ∙
    read in cc
