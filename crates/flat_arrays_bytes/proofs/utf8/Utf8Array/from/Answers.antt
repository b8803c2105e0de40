use Rattle.std.proofs.Common.{rules}
use Rattle.std.proofs.lemmas.Iterator.{YieldsList-from_map_by, YieldsList-from_slice}
use Rattle.std.specs.Option.{option_copied}
use Rattle.flat_arrays_bytes.proofs.Gathered.{slots_of_walk}
use Rattle.flat_arrays_bytes.specs.Fits.{text_type}
use Rattle.flat_arrays_bytes.proofs.utf8.Utf8Array.from.Goals as goal

pub returns : goal.returns
returns g c =
    slots_of_walk c.args.slots.now (YieldsList-from_map_by _ option_copied (λ slot. slot) (YieldsList-from_slice c.args.slots.now (search rules))
    c.map.ensures.closure (λ x r q k. search rules)) g.T.AsStr.text (text_type g.O.Offset.IS_LARGE) g.O.Index.greatest c.from_iter.result
    c.from_iter.ensures
