use Rattle.std.proofs.Common.{option_copied}
use Rattle.nested_arrays_core.proofs.flat_lemmas.ColumnParts.{mark_of_slot}
use Rattle.nested_arrays_iterators.proofs.lists.RefFixedSizeListArrayArrayValues.has_value.Goals as goal

pub mark_at-requires : goal.mark_at-requires
mark_at-requires c = mark_of_slot c.args.self.now (option_copied c.validity.result) c.args.i c.whole.ensures c.validity.ensures c.requires
