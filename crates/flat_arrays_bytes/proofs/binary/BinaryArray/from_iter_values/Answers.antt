use Rattle.std.proofs.Common.{map}
use Rattle.std.proofs.lemmas.Result.{err_from_is_err_and}
use Rattle.flat_arrays_bytes.proofs.Gathered.{gathered_more, values_collected, values_refused, within_gathered}
use Rattle.flat_arrays_bytes.specs.Fits.{binary_type}
use Rattle.flat_arrays_bytes.proofs.binary.BinaryArray.from_iter_values.Goals as goal

pub loop-value-preserved : goal.loop-value-preserved
loop-value-preserved g c = record {
  gathered = gathered_more g.T.AsSlice.items g.O.Index.greatest c.loop-value.yielded c.in-Some.value c.as_slice.result.now c.loop-value.bytes.items
      c.push_value.new.values.items c.loop-value.offsets c.push_value.new.offsets c.as_slice.ensures c.loop-value.invariant.gathered
      c.in_ok-push_value.ensures;
}

pub from_gathered-requires-clause-within : goal.from_gathered-requires-clause-within
from_gathered-requires-clause-within g c =
    within_gathered g.O.Index.greatest (map g.T.AsSlice.items c.loop-value.yielded) c.loop-value.offsets c.loop-value.bytes.items
    c.loop-value.invariant.gathered

pub returns-in_err-push_value : goal.returns-in_err-push_value
returns-in_err-push_value g c =
    let p = err_from_is_err_and c.from_residual-in_err-push_value.result c.from_residual-in_err-push_value.ensures.1 in
    rw (p.1, p.2) (values_refused g.T.AsSlice.items (binary_type g.O.Offset.IS_LARGE) g.O.Index.greatest c.loop-value.offsets
    c.loop-value.bytes.items g.I.Iterator.next_gives
    c.args.values c.into_iter-value-iterator.result c.into_iter-value-iterator.ensures.into_iter_gives c.loop-value.yielded
    c.loop-value.value-iterator c.loop-value.yielded_by c.loop-value.invariant.gathered c.next.new.self
    c.in-Some.value c.as_slice.result.now c.in_err-push_value.field-0.0 c.in-Some.ensures.steps c.as_slice.ensures c.in_err-push_value.ensures)

pub returns : goal.returns
returns g c =
    values_collected g.T.AsSlice.items (binary_type g.O.Offset.IS_LARGE) g.O.Index.greatest c.loop-value.offsets c.loop-value.bytes.items
    g.I.Iterator.next_gives
    c.args.values c.into_iter-value-iterator.result c.into_iter-value-iterator.ensures.into_iter_gives c.loop-value.yielded
    c.loop-value.value-iterator c.loop-value.yielded_by c.loop-value.invariant.gathered c.next.new.self c.from_gathered.result
    c.in-None.ensures.steps c.from_gathered.ensures
