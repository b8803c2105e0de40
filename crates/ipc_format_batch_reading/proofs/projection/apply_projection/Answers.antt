-- The arrays at the sources are those that are put back, and as long as before.
use Rattle.std.proofs.Common.{◌≡◌, ◌∙◌, length, rules}
use Rattle.ipc_format_batch_reading.proofs.OrderedArrays.{itself, long_back, ordered_back, sources_below}
use Rattle.ipc_format_batch_reading.proofs.projection.apply_projection.Goals as goal

pub arrays_of-requires : goal.arrays_of-requires
arrays_of-requires c =
    sources_below (length c.arrays-all.result.now) c.args.map.now.entries c.as_slice.result.now (c.as_slice.ensures.value ∙ c.in_ok-sources.ensures)

pub new-requires : goal.new-requires
new-requires c =
    let same : c.arrays-all.result.now ≡ c.args.chunk = search rules in
    long_back itself c.args.chunk c.args.map.now.entries c.in_ok-ordered.ordered.items c.whole.ensures
    (ordered_back c.args.chunk c.arrays-all.result.now c.args.map.now.entries c.in_ok-ordered.ordered.items c.as_slice.result.now same
    (c.as_slice.ensures.value ∙ c.in_ok-sources.ensures) c.in_ok-ordered.ensures)

pub returns : goal.returns
returns c =
    let same : c.arrays-all.result.now ≡ c.args.chunk = search rules in
    c.new.ensures
    ∙ ordered_back c.args.chunk c.arrays-all.result.now c.args.map.now.entries c.in_ok-ordered.ordered.items c.as_slice.result.now same
    (c.as_slice.ensures.value ∙ c.in_ok-sources.ensures) c.in_ok-ordered.ensures
