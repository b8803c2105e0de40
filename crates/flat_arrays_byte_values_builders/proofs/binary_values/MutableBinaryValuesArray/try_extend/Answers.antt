use Rattle.std.proofs.Common.{ap}
use Rattle.std.proofs.lemmas.Result.{err_from_is_err_and}
use Rattle.std.specs.Prelude.{Some}
use Rattle.flat_arrays_byte_values_builders.proofs.Along.{ended, item_added, stopped}
use Rattle.flat_arrays_byte_values_builders.proofs.binary_values.MutableBinaryValuesArray.try_extend.Goals as goal

pub loop-value-preserved : goal.loop-value-preserved
loop-value-preserved g c =
    item_added (λ value. Some (g.P.AsSlice.items value)) c.args.self.now c.loop-value.self c.try_push.new.self c.loop-value.yielded c.in-Some.value
    (Some c.as_slice.result.now) (ap Some c.as_slice.ensures) c.loop-value.invariant c.in_ok-try_push.ensures.0

pub returns-in_err-try_push : goal.returns-in_err-try_push
returns-in_err-try_push g c =
    let p = err_from_is_err_and c.from_residual.result c.from_residual.ensures.1 in
    let given = c.into_iter-value-iterator in
    let loop = c.loop-value in
    let stop =
    stopped g.I.Iterator.next_gives (λ value. Some (g.P.AsSlice.items value)) g.O.Index.greatest c.args.self.now c.args.values given.result
    loop.yielded loop.value-iterator c.in-Some.value c.next.new.self loop.self c.try_push.new.self c.in_err-try_push.field-0.0
    (Some c.as_slice.result.now) (ap Some c.as_slice.ensures) given.ensures.into_iter_gives loop.yielded_by c.in-Some.ensures.steps loop.invariant
    c.in_err-try_push.ensures in
    rw (p.1, p.2) stop

pub returns : goal.returns
returns g c =
    let given = c.into_iter-value-iterator in
    let loop = c.loop-value in
    ended g.I.Iterator.next_gives (λ value. Some (g.P.AsSlice.items value)) c.args.self.now c.args.values given.result loop.yielded
    loop.value-iterator c.next.new.self loop.self given.ensures.into_iter_gives loop.yielded_by c.in-None.ensures.steps loop.invariant
