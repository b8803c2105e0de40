use Rattle.std.proofs.Common.{◌≡◌, ◌∙◌, ◌+◌, [], ◌∷◌, ◌++◌, ap, length, map, sym, take}
use Rattle.std.specs.Prelude.{is_some}
use Rattle.std.proofs.lemmas.List.{length-map, take_more}
use Rattle.flat_arrays_core.proofs.bytes_lemmas.Gathered.{marks_more}
use Rattle.nested_arrays_flat.proofs.FixedItems.{masked_strings, stored_bytes, stored_more, whole_bytes}
use Rattle.nested_arrays_flat.proofs.fixed_size_binary.FixedSizeBinaryArray.from.Goals as goal

pub loop-slot-preserved : goal.loop-slot-preserved
loop-slot-preserved g c =
    let loop = c.loop-slot in
    let slots = c.args.slots.now in
    let i = loop.slot-index in
    let slot = c.slot-item.result in
    let more : take (i + 1) slots ≡ take i slots ++ slot ∷ [] =
    take_more slots i slot c.loop-slot-test.true ∙ ap (λ x. take i slots ++ x ∷ []) (sym c.slot-item.is) in record {
      stored = stored_more g.row.N (take i slots) (take (i + 1) slots) slot loop.values.items c.push_array_slot.new.values.items more
          loop.invariant.stored c.in_ok-push_array_slot.ensures;
      marks = marks_more (take i slots) slot loop.mask c.push.new.self c.is_some.result c.in_ok-push.ensures c.is_some.ensures
          loop.invariant.marks ∙ ap (map is_some) (sym more);
    }

pub from_gathered-requires-clause-whole : goal.from_gathered-requires-clause-whole
from_gathered-requires-clause-whole g c =
    let loop = c.loop-slot in
    let slots = take loop.slot-index c.args.slots.now in
    whole_bytes g.row.N (length slots) loop.values.items c.requires (stored_bytes g.row.N slots loop.values.items loop.invariant.stored)

pub from_gathered-requires-clause-masked : goal.from_gathered-requires-clause-masked
from_gathered-requires-clause-masked g c =
    let loop = c.loop-slot in
    let slots = take loop.slot-index c.args.slots.now in
    masked_strings g.row.N slots loop.values.items loop.invariant.stored c.in_ok-finish.field-0 c.in_ok-validity.validity c.requires
    (ap length (c.in_ok-finish.ensures ∙ loop.invariant.marks) ∙ length-map slots is_some) c.in_ok-validity.ensures
