use Rattle.std.proofs.Common.{rules, ◌≡◌, ◌∙◌, ℕ, ◌<◌, ◌≤◌, length, take, get_or, true, ap, sym, arith}
use Rattle.std.specs.Prelude.{slice_set}
use Rattle.nested_arrays_builder_values.specs.parts.arrays.columns.Cells.{fits_cell}
use Rattle.nested_arrays_builder_values.specs.parts.arrays.columns.Children.{fixed_items_of}
use Rattle.nested_arrays_builder_values.specs.parts.arrays.columns.Slots.{null}
use Rattle.nested_arrays_builder_values.specs.parts.columns.OpenParts.{fields_of_slot, is_record_sized}
use Rattle.nested_arrays_builder_values.specs.parts.Open.{Open, first_slots}
use Rattle.nested_arrays_builder_values.specs.parts.Scalars.{scalar_slot}
use Rattle.nested_arrays_builders.specs.Parts.{is_fitting, of_fields, type_size, types_size, with_each, IsShort, IsShortOfEach}
use Rattle.nested_arrays_builders.proofs.AddedSlots.{record_refused}
use Rattle.nested_arrays_builders.proofs.CutParts.{one_child}
use Rattle.nested_arrays_builders.proofs.HeldNodes.{leaf_held, leaf_pushed, nested_size, nested_count}
use Rattle.nested_arrays_builders.proofs.HeldNodes.{nested_takes, nested_push_held, nested_push_seen}
use Rattle.nested_arrays_builders.proofs.PushedFields.{all_fit, each_count, each_of_them, field_at, field_fits, fields_many, fits_there}
use Rattle.nested_arrays_builders.proofs.PushedFields.{is_short_of_each, long_enough, more_of, next, none_each, none_more_each, one_more_each}
use Rattle.nested_arrays_builders.proofs.PushedFields.{taken_back_each}
use Rattle.nested_arrays_builders.proofs.PushedItems.{are_items, item_fits, is_short, taken_back, no_fewer}
use Rattle.nested_arrays_builders.proofs.PushedKeys.{new_added}
use Rattle.nested_arrays_builders.proofs.TakenSlots.{taken_is_formed}
use Rattle.nested_arrays_builders.proofs.+pushing.Goals as goal
use Rattle.nested_arrays_builders.proofs.+pushing.Goals.{any::AnyMutableArray::push-in-Flat, any::AnyMutableArray::push-in-Nested}

-- ---- a builder

pub any::AnyMutableArray::push-push_nested-requires : goal.any::AnyMutableArray::push-push_nested-requires
any::AnyMutableArray::push-push_nested-requires t c =
    let node = c.self.inside.node in
    let size = nested_size node c.in-Nested.head c.in-Nested.children c.args.self.now c.in-Nested.is c.self.view_is c.self.invariant in (
      search (rules, size),
      (
        nested_count node c.in-Nested.head c.in-Nested.children c.args.self.now c.in-Nested.is c.self.view_is c.self.invariant,
        nested_takes node c.in-Nested.head c.in-Nested.children c.args.self.now c.in-Nested.is c.self.view_is c.self.invariant
            (scalar_slot c.args.cell.now) c.requires,
      ),
    )

pub any::AnyMutableArray::push-invariant_of-self : goal.any::AnyMutableArray::push-invariant_of-self
any::AnyMutableArray::push-invariant_of-self t c =
    elim c.match-self.branch [
      | any::AnyMutableArray::push-in-Flat w ↦ leaf_held c.match-self.self-inside.node _ (ap (λ i. i.node) w.self-inside-is)
      | any::AnyMutableArray::push-in-Nested w ↦ nested_push_held c.self.inside.node w.in-Nested.head w.in-Nested.children c.args.self.now
          w.in-Nested.is c.self.view_is c.self.invariant c.match-self.self-inside.node _ _ (ap (λ i. i.node) w.self-inside-is)
          (scalar_slot c.args.cell.now) c.requires w.push_nested.result w.push_nested.ensures
    ]

pub any::AnyMutableArray::push-returns : goal.any::AnyMutableArray::push-returns
any::AnyMutableArray::push-returns t c =
    elim c.match-self.branch [
      | any::AnyMutableArray::push-in-Flat w ↦ leaf_pushed c.self.inside.node c.match-self.self-inside.node _ _ c.args.self.now
          (scalar_slot c.args.cell.now) w.try_push.result c.match-self.result w.in-Flat.is c.self.view_is (ap (λ i. i.node) w.self-inside-is)
          w.result-is w.try_push.ensures
      | any::AnyMutableArray::push-in-Nested w ↦ nested_push_seen c.self.inside.node w.in-Nested.head w.in-Nested.children c.args.self.now
          w.in-Nested.is c.self.view_is c.self.invariant c.match-self.self-inside.node _ _ (ap (λ i. i.node) w.self-inside-is)
          (scalar_slot c.args.cell.now) c.requires w.push_nested.result w.push_nested.ensures c.match-self.result w.result-is
    ]

-- ---- lists

pub lists::push_some-push-requires : goal.lists::push_some-push-requires
lists::push_some-push-requires t c =
    let o = c.args.values.now in
    let ys = fixed_items_of c.args.count (scalar_slot c.args.cell.now) in
    let its = are_items o.data_type c.args.count (scalar_slot c.args.cell.now) c.requires in
    let lt : c.loop-place.place < length ys = omega (arith, c.loop-place-test.true, its.many) in
    let size = ap (λ (p : Open). type_size p.data_type) c.loop-place.invariant in (
      search (rules, size),
      item_fits o c.loop-place.values ys c.loop-place.place (scalar_slot c.item_in.result.now) lt c.loop-place.invariant c.item_in.ensures its.fit,
    )

pub lists::push_some-returns-in_err-push : goal.lists::push_some-returns-in_err-push
lists::push_some-returns-in_err-push t c =
    let o = c.args.values.now in
    let now = c.loop-place.values in
    let s = scalar_slot c.item_in.result.now in
    let ys = fixed_items_of c.args.count (scalar_slot c.args.cell.now) in
    let its = are_items o.data_type c.args.count (scalar_slot c.args.cell.now) c.requires in
    let lt : c.loop-place.place < length ys = omega (arith, c.loop-place-test.true, its.many) in
    let fit = item_fits o now ys c.loop-place.place s lt c.loop-place.invariant c.item_in.ensures its.fit in
    let held : c.push.new.self ≡ _ = c.in_err-push.ensures.0 ∙ c.loop-place.invariant in
    let back : first_slots c.push.new.self (length o.slots) ≡ o = taken_back o c.push.new.self _ held in
    let fewer : length o.slots ≤ length c.push.new.self.slots = no_fewer o c.push.new.self _ held in
    let short : IsShort o ys c.in_err-push.field-0.0 =
    is_short o now ys c.loop-place.place s lt c.loop-place.invariant c.item_in.ensures _ fit c.in_err-push.ensures.1 in
    search (rules, back, fewer, short)

-- ---- dictionaries

pub keyed::push_new-returns-in-Ok : goal.keyed::push_new-returns-in-Ok
keyed::push_new-returns-in-Ok t c =
    new_added c.args.marks.now c.args.keys.now.key c.args.keys.now.uses c.args.keys.now.known c.args.values.now (scalar_slot c.args.cell.now)
    c.requires.known c.requires.some c.requires.new c.most_values_of.result c.most_values_of.ensures (Unit {0}) c.learn_slot.new.known
    c.learn_slot.new.values c.len-need.result c.add_use.new.marks c.add_use.new.uses tt c.in_ok-learn_slot.ensures.0
    c.in_ok-learn_slot.ensures.1 c.in_ok-learn_slot.ensures.2 c.len-need.ensures c.in-Ok.ensures

-- ---- records

pub records::push_each-truncate_each-requires : goal.records::push_each-truncate_each-requires
records::push_each-truncate_each-requires t c =
    long_enough c.args.children.now.items c.push_first.new.children.items _ c.args.held c.requires.held c.in-Err.ensures.0.1

pub records::push_each-returns-in-Err : goal.records::push_each-returns-in-Err
records::push_each-returns-in-Err t c = (
  taken_back_each c.args.children.now.items c.push_first.new.children.items c.truncate_each.new.children.items _ c.args.held c.requires.held
      c.in-Err.ensures.0.1 c.truncate_each.ensures,
  c.in-Err.ensures.1,
)

pub records::push_first-loop-place-init : goal.records::push_first-loop-place-init
records::push_first-loop-place-init t c =
    record { grown = none_each c.args.children.now.items; fitting = λ k d lt. absurd (omega arith) }

pub records::push_first-field_in-requires-clause-sized : goal.records::push_first-field_in-requires-clause-sized
records::push_first-field_in-requires-clause-sized t c =
    let formed : is_record_sized (length c.args.children.now.items) (scalar_slot c.args.cell.now) ≡ true =
    taken_is_formed (of_fields c.args.children.now.items) (scalar_slot c.args.cell.now) c.requires in
    search (rules, formed)

pub records::push_first-push-requires : goal.records::push_first-push-requires
records::push_first-push-requires t c =
    let os = c.args.children.now.items in
    let slot = scalar_slot c.args.cell.now in
    let k = c.loop-place.place in
    let child = c.index_mut.result.now in
    let few : k < length os = omega (arith, c.loop-place-test.true, c.len-count.ensures) in
    let many = fields_many slot (length os) in
    let is = c.field_in.ensures ∙ sym (field_at slot (length os) k null few) in
    let first = next os c.loop-place.children.items (fields_of_slot (length os) slot) k child (scalar_slot c.field_in.result.now) few many
    c.loop-place.invariant.grown c.index_mut.ensures.value is in
    let size : type_size child.data_type ≤ types_size os =
    omega (arith, one_child os k child few, ap (λ (o : Open). type_size o.data_type) first) in (
      search (rules, size),
      (λ j. fits_cell (first j).data_type (c.field_in.ensures j)) ∙ field_fits os slot k child c.requires few,
    )

pub records::push_first-returns-in_err-push : goal.records::push_first-returns-in_err-push
records::push_first-returns-in_err-push t c =
    let os = c.args.children.now.items in
    let now = c.loop-place.children.items in
    let slot = scalar_slot c.args.cell.now in
    let ss = fields_of_slot (length os) slot in
    let k = c.loop-place.place in
    let child = c.index_mut.result.now in
    let s = scalar_slot c.field_in.result.now in
    let few : k < length os = omega (arith, c.loop-place-test.true, c.len-count.ensures) in
    let many = fields_many slot (length os) in
    let is = c.field_in.ensures ∙ sym (field_at slot (length os) k null few) in
    let first = next os now ss k child s few many c.loop-place.invariant.grown c.index_mut.ensures.value is in
    let fit : fits_cell child.data_type s ≡ true =
    (λ j. fits_cell (first j).data_type (c.field_in.ensures j)) ∙ field_fits os slot k child c.requires few in
    let some : (n : ℕ) × (slice_set now k c.push.new.self ≡ with_each os (take n ss)) = (
      k,
      none_more_each os now ss k child s few many c.loop-place.invariant.grown c.index_mut.ensures.value is c.push.new.self
          c.in_err-push.ensures.0,
    ) in
    let short : IsShortOfEach os ss c.in_err-push.field-0.0 =
    is_short_of_each os now ss k child s few many c.loop-place.invariant.grown c.index_mut.ensures.value is _ fit c.in_err-push.ensures.1 in
    search (rules, some, short)

pub records::push_first-loop-place-preserved : goal.records::push_first-loop-place-preserved
records::push_first-loop-place-preserved t c =
    let os = c.args.children.now.items in
    let now = c.loop-place.children.items in
    let slot = scalar_slot c.args.cell.now in
    let ss = fields_of_slot (length os) slot in
    let k = c.loop-place.place in
    let child = c.index_mut.result.now in
    let s = scalar_slot c.field_in.result.now in
    let few : k < length os = omega (arith, c.loop-place-test.true, c.len-count.ensures) in
    let many = fields_many slot (length os) in
    let is = c.field_in.ensures ∙ sym (field_at slot (length os) k null few) in
    record {
      grown = one_more_each os now ss k child s few many c.loop-place.invariant.grown c.index_mut.ensures.value is c.push.new.self
          c.in_ok-push.ensures.0;
      fitting = more_of (λ (j : ℕ) (d : Open). is_fitting (get_or (with_each os ss) j d) ≡ true) k c.loop-place.invariant.fitting
          (fits_there os now ss k child s few many c.loop-place.invariant.grown c.index_mut.ensures.value is c.in_ok-push.ensures.1);
    }

pub records::push_first-returns : goal.records::push_first-returns
records::push_first-returns t c =
    let os = c.args.children.now.items in
    let ss = fields_of_slot (length os) (scalar_slot c.args.cell.now) in
    let k = c.loop-place.place in
    let many = fields_many (scalar_slot c.args.cell.now) (length os) in
    let done : length os ≤ k = omega (arith, c.loop-place-test.false, c.len-count.ensures) in
    let ended : k ≤ length os = omega (arith, c.loop-place.auto.place-end, c.len-count.ensures) in (
      each_of_them os c.loop-place.children.items ss k (omega (arith, many, done, ended)) c.loop-place.invariant.grown,
      all_fit (with_each os ss) (λ k d lt. c.loop-place.invariant.fitting k d (omega (arith, lt, done, each_count os ss))),
    )

pub records::push_record-truncate_each-requires : goal.records::push_record-truncate_each-requires
records::push_record-truncate_each-requires t c = λ k d lt.
    omega (arith, c.len-held.ensures.value, long_enough c.args.children.now.items _ _ _ c.requires.held c.in_ok-push_each.ensures.0 k d lt)

pub records::push_record-returns-in-Err : goal.records::push_record-returns-in-Err
records::push_record-returns-in-Err t c =
    let os = c.args.children.now.items in
    let held = c.len-held.ensures.value in
    let back = taken_back_each os _ c.truncate_each.new.children.items _ c.len-held.result (λ k d lt. c.requires.held k d lt ∙ sym held)
    c.in_ok-push_each.ensures.0 c.truncate_each.ensures in
    record_refused c.args.marks.now os (scalar_slot c.args.cell.now) c.in-Err.error (Unit {0}) true c.push.new.self
    c.truncate_each.new.children.items back c.in-Err.ensures
