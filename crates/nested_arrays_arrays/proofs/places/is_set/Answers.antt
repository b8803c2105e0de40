use Rattle.std.proofs.Common.{option_copied}
use Rattle.nested_arrays_parts.proofs.flat_lemmas.ColumnParts.{mark_of_slot}
use Rattle.nested_arrays_arrays.proofs.places.is_set.Goals as goal

pub mark_at-requires : goal.mark_at-requires
mark_at-requires c =
    mark_of_slot c.args.array.now (option_copied c.validity.result) c.args.i c.whole.ensures c.validity.ensures c.requires
