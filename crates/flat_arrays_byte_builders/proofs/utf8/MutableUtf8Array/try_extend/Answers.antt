use Rattle.std.proofs.Common.{refl}
use Rattle.std.proofs.lemmas.Result.{err_from_is_err_and}
use Rattle.std.specs.Prelude.{option_map}
use Rattle.flat_arrays_byte_values_builders.proofs.Along.{ended, item_added, stopped}
use Rattle.flat_arrays_byte_builders.proofs.utf8.MutableUtf8Array.try_extend.Goals as goal

pub loop-slot-preserved : goal.loop-slot-preserved
loop-slot-preserved g c =
    item_added (option_map g.P.AsStr.text) c.args.self.now c.loop-slot.self c.push_slot.new.self c.loop-slot.yielded c.in-Some.slot
    (option_map g.P.AsStr.text c.in-Some.slot) refl c.loop-slot.invariant c.in_ok-push_slot.ensures.0

pub returns-in_err-push_slot : goal.returns-in_err-push_slot
returns-in_err-push_slot g c =
    let p = err_from_is_err_and c.from_residual.result c.from_residual.ensures.1 in
    let given = c.into_iter-slot-iterator in
    let loop = c.loop-slot in
    let stop =
    stopped g.I.Iterator.next_gives (option_map g.P.AsStr.text) g.O.Index.greatest c.args.self.now c.args.slots given.result loop.yielded
    loop.slot-iterator c.in-Some.slot c.next.new.self loop.self c.push_slot.new.self c.in_err-push_slot.field-0.0
    (option_map g.P.AsStr.text c.in-Some.slot) refl given.ensures.into_iter_gives loop.yielded_by c.in-Some.ensures.steps loop.invariant
    c.in_err-push_slot.ensures in
    rw (p.1, p.2) stop

pub returns : goal.returns
returns g c =
    let given = c.into_iter-slot-iterator in
    let loop = c.loop-slot in
    ended g.I.Iterator.next_gives (option_map g.P.AsStr.text) c.args.self.now c.args.slots given.result loop.yielded loop.slot-iterator
    c.next.new.self loop.self given.ensures.into_iter_gives loop.yielded_by c.in-None.ensures.steps loop.invariant
