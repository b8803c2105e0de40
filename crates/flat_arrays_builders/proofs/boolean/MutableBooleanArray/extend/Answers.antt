use Rattle.std.proofs.Common.{◌∙◌, false}
use Rattle.std.proofs.lemmas.Result.{err_from_is_err_and}
use Rattle.flat_arrays_values.specs.Growth.{with_slots}
use Rattle.flat_arrays_builders.proofs.Along.{ended, stopped}
use Rattle.flat_arrays_values.proofs.Marked.{grown_nothing, slot_added}
use Rattle.flat_arrays_builders.proofs.boolean.MutableBooleanArray.extend.Goals as goal

pub loop-slot-init : goal.loop-slot-init
loop-slot-init g c = c.reserve.ensures.same ∙ grown_nothing c.args.self.now

pub loop-slot-preserved : goal.loop-slot-preserved
loop-slot-preserved g c =
    slot_added false c.args.self.now c.loop-slot.self c.push_marked.new.self c.loop-slot.yielded c.in-Some.slot
    c.unwrap_or.result c.is_some.result c.loop-slot.invariant c.unwrap_or.ensures c.is_some.ensures c.in_ok-push_marked.ensures

pub returns-in_err-push_marked : goal.returns-in_err-push_marked
returns-in_err-push_marked g c =
    let p = err_from_is_err_and c.from_residual.result c.from_residual.ensures.1 in
    let given = c.into_iter-slot-iterator in
    let loop = c.loop-slot in
    let old = c.args.self.now in
    let stop =
    stopped g.I.Iterator.next_gives (with_slots false old) c.args.slots given.result loop.yielded loop.slot-iterator c.in-Some.slot c.next.new.self
    loop.self c.push_marked.new.self c.in_err-push_marked.field-0.0 given.ensures.into_iter_gives loop.yielded_by c.in-Some.ensures.steps
    loop.invariant c.in_err-push_marked.ensures in
    rw (p.1, p.2) stop

pub returns : goal.returns
returns g c =
    let given = c.into_iter-slot-iterator in
    let loop = c.loop-slot in
    let old = c.args.self.now in
    let whole =
    ended g.I.Iterator.next_gives (with_slots false old) c.args.slots given.result loop.yielded loop.slot-iterator c.next.new.self loop.self
    given.ensures.into_iter_gives loop.yielded_by c.in-None.ensures.steps loop.invariant in
    whole
