use Rattle.std.proofs.Common.{◌∙◌}
use Rattle.std.proofs.lemmas.Result.{err_from_is_err_and}
use Rattle.flat_arrays_values.specs.Growth.{with_values}
use Rattle.flat_arrays_builders.proofs.Along.{ended, stopped}
use Rattle.flat_arrays_values.proofs.Marked.{grown_nothing, value_added}
use Rattle.flat_arrays_builders.proofs.boolean.MutableBooleanArray.extend_values.Goals as goal

pub loop-value-init : goal.loop-value-init
loop-value-init g c = c.reserve.ensures.same ∙ grown_nothing c.args.self.now

pub loop-value-preserved : goal.loop-value-preserved
loop-value-preserved g c =
    value_added c.args.self.now c.loop-value.self c.push_marked.new.self c.loop-value.yielded c.in-Some.value c.loop-value.invariant
    c.in_ok-push_marked.ensures

pub returns-in_err-push_marked : goal.returns-in_err-push_marked
returns-in_err-push_marked g c =
    let p = err_from_is_err_and c.from_residual.result c.from_residual.ensures.1 in
    let given = c.into_iter-value-iterator in
    let loop = c.loop-value in
    let old = c.args.self.now in
    let stop =
    stopped g.I.Iterator.next_gives (with_values old) c.args.values given.result loop.yielded loop.value-iterator c.in-Some.value c.next.new.self
    loop.self c.push_marked.new.self c.in_err-push_marked.field-0.0 given.ensures.into_iter_gives loop.yielded_by c.in-Some.ensures.steps
    loop.invariant c.in_err-push_marked.ensures in
    rw (p.1, p.2) stop

pub returns : goal.returns
returns g c =
    let given = c.into_iter-value-iterator in
    let loop = c.loop-value in
    let old = c.args.self.now in
    let whole =
    ended g.I.Iterator.next_gives (with_values old) c.args.values given.result loop.yielded loop.value-iterator c.next.new.self loop.self
    given.ensures.into_iter_gives loop.yielded_by c.in-None.ensures.steps loop.invariant in
    whole
