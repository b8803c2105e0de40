use Rattle.std.proofs.Common.{length, option_copied}
use Rattle.nested_arrays_access.proofs.flat_lemmas.CutMasks.{mark_within}
use Rattle.nested_arrays_core.proofs.keys.names_value.Goals as goal

pub mark_at-requires : goal.mark_at-requires
mark_at-requires g c =
    mark_within (option_copied c.args.validity) (length c.args.keys.now.values) c.args.i c.requires.masked c.requires.within
