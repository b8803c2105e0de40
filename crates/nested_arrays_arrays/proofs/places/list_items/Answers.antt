use Rattle.std.proofs.Common.{arith, subst, sym, ◌-◌}
use Rattle.nested_arrays_arrays.proofs.SlotPlaces.{list_there}
use Rattle.nested_arrays_arrays.specs.Places.{AreItems}
use Rattle.nested_arrays_parts.specs.columns.StoredColumns.{Column, lists}
use Rattle.nested_arrays_parts.proofs.OffsetLists.{spans_count}
use Rattle.nested_arrays_parts.specs.Widths.{spans_in}
use Rattle.nested_arrays_parts.specs.columnar_memory.Spans.{offsets_of}
use Rattle.nested_arrays_arrays.proofs.places.list_items.Goals as goal

pub bounds-start-requires : goal.bounds-start-requires
bounds-start-requires c = omega (arith, c.requires.within, spans_count (spans_in c.args.node.now.offsets))

pub returns : goal.returns
returns c =
    let node = c.args.node.now in
    let there = list_there node.data_type node.validity (spans_in node.offsets) node.values.value c.args.i c.bounds-start.result.0
    c.bounds-start.result.1 c.requires.sound c.requires.within c.requires.set c.bounds-start.ensures.start c.bounds-start.ensures.stop
    c.bounds-start.ensures.ordered c.bounds-start.ensures.within in
    subst (λ (child : Column). AreItems (lists node.data_type node.validity (offsets_of (spans_in node.offsets)) node.values.value) c.args.i child
    c.bounds-start.result.0 (c.bounds-start.result.1 - c.bounds-start.result.0)) (sym c.deref.ensures) there
