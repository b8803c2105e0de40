-- One array more has its slot pushed.
use Rattle.std.proofs.Common.{rules, refl}
use Rattle.tables_rows.proofs.PushedSlots.{child_typed, row_inside, slot_pushed, fits_so_far, row_refused, none_pushed}
use Rattle.tables_rows.proofs.groups.push_row.Goals as goal

pub loop-k-init : goal.loop-k-init
loop-k-init c = record { pushed = none_pushed c.args.columns.now.items; fits = refl }

pub push_slot-requires-clause-inside : goal.push_slot-requires-clause-inside
push_slot-requires-clause-inside c =
    row_inside c.args.columns.now.items c.loop-k.columns.items c.args.arrays.now c.args.row c.loop-k.k c.index_mut.result.now
    c.index-arrays-k.result c.requires c.loop-k.invariant.pushed c.loop-k-test.true c.index_mut.ensures.value c.index-arrays-k.is

pub push_slot-requires-clause-typed : goal.push_slot-requires-clause-typed
push_slot-requires-clause-typed c =
    child_typed c.args.columns.now.items c.loop-k.columns.items c.args.arrays.now c.args.row c.loop-k.k c.index_mut.result.now
    c.index-arrays-k.result c.requires c.loop-k.invariant.pushed c.loop-k-test.true c.index_mut.ensures.value c.index-arrays-k.is

pub returns-in_err-push_slot : goal.returns-in_err-push_slot
returns-in_err-push_slot c =
    let whole = row_refused c.args.columns.now.items c.loop-k.columns.items c.args.arrays.now c.args.row c.loop-k.k c.index_mut.result.now
    c.index-arrays-k.result c.requires c.loop-k.invariant.pushed c.loop-k-test.true c.index_mut.ensures.value c.index-arrays-k.is
    c.in_err-push_slot.field-0.0 c.push_slot.new.column c.in_err-push_slot.ensures in
    search (rules, whole)

pub loop-k-preserved : goal.loop-k-preserved
loop-k-preserved c = record {
  pushed = slot_pushed c.args.columns.now.items c.loop-k.columns.items c.args.arrays.now c.args.row c.loop-k.k c.index_mut.result.now
      c.index-arrays-k.result c.requires c.loop-k.invariant.pushed c.loop-k-test.true c.index_mut.ensures.value c.index-arrays-k.is
      c.push_slot.new.column c.in_ok-push_slot.ensures.0;
  fits = fits_so_far c.args.columns.now.items c.loop-k.columns.items c.args.arrays.now c.args.row c.loop-k.k c.index_mut.result.now
      c.index-arrays-k.result c.requires c.loop-k.invariant.pushed c.loop-k-test.true c.index_mut.ensures.value c.index-arrays-k.is
      c.loop-k.invariant.fits c.in_ok-push_slot.ensures.1;
}
