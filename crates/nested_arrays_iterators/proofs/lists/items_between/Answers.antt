use Rattle.nested_arrays_iterators.proofs.ReadSlots.{list_between}
use Rattle.nested_arrays_iterators.proofs.lists.items_between.Goals as goal

pub returns : goal.returns
returns g c =
    let found = c.start_end-start in
    list_between c.args.offsets.now c.args.items.now c.new.result c.args.i found.result.0 found.result.1 c.whole.ensures c.requires.end
    c.requires.within found.ensures.start found.ensures.stop found.ensures.ordered found.ensures.within c.new.ensures
