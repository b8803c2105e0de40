use Rattle.std.proofs.Common.{◌∙◌, map}
use Rattle.std.proofs.lemmas.Result.{err_from_is_err_and}
use Rattle.flat_arrays_bytes.proofs.Gathered.{gathered_more, marks_more, masked_gathered, slots_collected, slots_refused, stored_by, within_gathered}
use Rattle.flat_arrays_bytes.specs.Fits.{binary_type}
use Rattle.flat_arrays_bytes.proofs.binary.BinaryArray.from_iter.Goals as goal

pub loop-slot-preserved : goal.loop-slot-preserved
loop-slot-preserved g c = record {
  gathered = gathered_more (stored_by g.T.AsSlice.items) g.O.Index.greatest c.loop-slot.yielded c.in-Some.slot c.stored_bytes.result.now
      c.loop-slot.values.items
      c.push_value.new.values.items c.loop-slot.offsets c.push_value.new.offsets c.stored_bytes.ensures c.loop-slot.invariant.gathered
      c.in_ok-push_value.ensures;
  marks = marks_more c.loop-slot.yielded c.in-Some.slot c.loop-slot.mask c.push.new.self c.is_some.result c.in_ok-push.ensures c.is_some.ensures
      c.loop-slot.invariant.marks;
}

pub loop-slot-preserved-in_ok-push : goal.loop-slot-preserved-in_ok-push
loop-slot-preserved-in_ok-push g c = record {
  gathered = gathered_more (stored_by g.T.AsSlice.items) g.O.Index.greatest c.loop-slot.yielded c.in-Some.slot c.stored_bytes.result.now
      c.loop-slot.values.items
      c.push_value.new.values.items c.loop-slot.offsets c.push_value.new.offsets c.stored_bytes.ensures c.loop-slot.invariant.gathered
      c.in_ok-push_value.ensures;
  marks = marks_more c.loop-slot.yielded c.in-Some.slot c.loop-slot.mask c.push.new.self c.is_some.result c.in_ok-push.ensures c.is_some.ensures
      c.loop-slot.invariant.marks;
}

pub from_gathered-requires-clause-masked : goal.from_gathered-requires-clause-masked
from_gathered-requires-clause-masked g c =
    masked_gathered (stored_by g.T.AsSlice.items) g.O.Index.greatest c.loop-slot.yielded c.loop-slot.offsets c.loop-slot.values.items
    c.in_ok-finish.field-0 c.in_ok-validity.validity c.loop-slot.invariant.gathered
    (c.in_ok-finish.ensures ∙ c.loop-slot.invariant.marks) c.in_ok-validity.ensures

pub from_gathered-requires-clause-within : goal.from_gathered-requires-clause-within
from_gathered-requires-clause-within g c =
    within_gathered g.O.Index.greatest (map (stored_by g.T.AsSlice.items) c.loop-slot.yielded) c.loop-slot.offsets c.loop-slot.values.items
    c.loop-slot.invariant.gathered

pub returns-in_err-push_value : goal.returns-in_err-push_value
returns-in_err-push_value g c =
    let p = err_from_is_err_and c.from_residual-in_err-push_value.result c.from_residual-in_err-push_value.ensures.1 in
    rw (p.1, p.2) (slots_refused g.T.AsSlice.items (binary_type g.O.Offset.IS_LARGE) g.O.Index.greatest c.loop-slot.offsets
    c.loop-slot.values.items g.I.Iterator.next_gives
    c.args.slots c.into_iter-slot-iterator.result c.into_iter-slot-iterator.ensures.into_iter_gives c.loop-slot.yielded
    c.loop-slot.slot-iterator c.loop-slot.yielded_by c.loop-slot.invariant.gathered c.next.new.self
    c.in-Some.slot c.stored_bytes.result.now c.in_err-push_value.field-0.0 c.in-Some.ensures.steps c.stored_bytes.ensures c.in_err-push_value.ensures)

pub returns : goal.returns
returns g c =
    slots_collected g.T.AsSlice.items (binary_type g.O.Offset.IS_LARGE) g.O.Index.greatest c.loop-slot.offsets c.loop-slot.values.items
    g.I.Iterator.next_gives
    c.args.slots c.into_iter-slot-iterator.result c.into_iter-slot-iterator.ensures.into_iter_gives c.loop-slot.yielded
    c.loop-slot.slot-iterator c.loop-slot.yielded_by c.loop-slot.invariant.gathered c.next.new.self c.in_ok-finish.field-0 c.in_ok-validity.validity
    c.from_gathered.result c.in-None.ensures.steps (c.in_ok-finish.ensures ∙ c.loop-slot.invariant.marks)
    c.in_ok-validity.ensures c.from_gathered.ensures
