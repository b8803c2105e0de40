use Rattle.std.proofs.Common.{◌<◌, ◌∙◌, [], ◌∷◌, ap, arith, length, map, option_map, sym}
use Rattle.std.specs.Prelude.{is_some}
use Rattle.std.proofs.lemmas.List.{length-map, map-append}
use Rattle.std.proofs.lemmas.Result.{err_from_is_err_and}
use Rattle.flat_arrays_core.proofs.bytes_lemmas.Gathered.{marks_more}
use Rattle.nested_arrays_flat.proofs.FixedItems.{gathered, masked_strings, refused, stored_bytes, stored_more, whole_bytes}
use Rattle.nested_arrays_flat.proofs.fixed_size_binary.FixedSizeBinaryArray.try_from_iter.Goals as goal

pub loop-slot-preserved : goal.loop-slot-preserved
loop-slot-preserved g c =
    let slots = map (option_map g.T.AsSlice.items) in record {
      stored = stored_more c.args.size (slots c.loop-slot.yielded) _ (option_map g.T.AsSlice.items c.in-Some.slot) c.loop-slot.values.items
          c.push_slot.new.values.items (map-append (option_map g.T.AsSlice.items) c.loop-slot.yielded (c.in-Some.slot ∷ []))
          c.loop-slot.invariant.stored c.in_ok-push_slot.ensures;
      marks = marks_more c.loop-slot.yielded c.in-Some.slot c.loop-slot.mask c.push.new.self c.is_some.result c.in_ok-push.ensures
          c.is_some.ensures c.loop-slot.invariant.marks;
    }

pub returns-in_err-push_slot : goal.returns-in_err-push_slot
returns-in_err-push_slot g c =
    let some : 0 < c.args.size = omega (arith, c.if-size-eq0.false) in
    let p = err_from_is_err_and c.from_residual.result c.from_residual.ensures.1 in
    rw (p.1, p.2) (refused g.T.AsSlice.items c.args.size g.I.Iterator.next_gives c.args.slots c.into_iter-slot-iterator.result
    c.into_iter-slot-iterator.ensures.into_iter_gives c.loop-slot.yielded c.loop-slot.slot-iterator c.loop-slot.yielded_by c.loop-slot.values.items
    c.loop-slot.invariant.stored some c.next.new.self c.in-Some.slot c.in_err-push_slot.field-0.0 c.in-Some.ensures.steps
    c.in_err-push_slot.ensures)

pub from_gathered-requires-clause-whole : goal.from_gathered-requires-clause-whole
from_gathered-requires-clause-whole g c =
    let loop = c.loop-slot in
    let slots = map (option_map g.T.AsSlice.items) loop.yielded in
    whole_bytes c.args.size (length slots) loop.values.items (omega (arith, c.if-size-eq0.false))
    (stored_bytes c.args.size slots loop.values.items loop.invariant.stored)

pub from_gathered-requires-clause-masked : goal.from_gathered-requires-clause-masked
from_gathered-requires-clause-masked g c =
    let loop = c.loop-slot in
    masked_strings c.args.size (map (option_map g.T.AsSlice.items) loop.yielded) loop.values.items loop.invariant.stored c.in_ok-finish.field-0
    c.in_ok-validity.validity (omega (arith, c.if-size-eq0.false))
    (ap length (c.in_ok-finish.ensures ∙ loop.invariant.marks) ∙ length-map loop.yielded is_some
    ∙ sym (length-map loop.yielded (option_map g.T.AsSlice.items)))
    c.in_ok-validity.ensures

pub returns : goal.returns
returns g c =
    let loop = c.loop-slot in
    gathered g.T.AsSlice.items c.args.size g.I.Iterator.next_gives c.args.slots c.into_iter-slot-iterator.result
    c.into_iter-slot-iterator.ensures.into_iter_gives loop.yielded loop.slot-iterator loop.yielded_by loop.values.items loop.invariant.stored
    (omega (arith, c.if-size-eq0.false)) c.next.new.self c.in_ok-finish.field-0 c.in_ok-validity.validity c.from_gathered.result
    c.in-None.ensures.steps
    (c.in_ok-finish.ensures ∙ loop.invariant.marks) c.in_ok-validity.ensures c.from_gathered.ensures
