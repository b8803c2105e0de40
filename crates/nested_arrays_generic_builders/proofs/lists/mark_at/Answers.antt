use Rattle.std.proofs.Common.{true, false}
use Rattle.std.proofs.lemmas.List.{get_or-replicate}
use Rattle.std.proofs.lemmas.Option.{get_or_from_slice_get}
use Rattle.nested_arrays_generic_builders.proofs.lists.mark_at.Goals as goal

pub returns-in-None : goal.returns-in-None
returns-in-None c = rw c.in-None.is (get_or-replicate c.args._count c.args.place true false c.requires.within)

pub returns-in-Some : goal.returns-in-Some
returns-in-Some c = rw c.in-Some.is (get_or_from_slice_get c.in-Some.bits c.args.place c.get.result false c.get.ensures)
