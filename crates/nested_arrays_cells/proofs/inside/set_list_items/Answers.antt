use Rattle.std.proofs.Common.{arith, subst, sym, ◌-◌}
use Rattle.nested_arrays_builder_arrays.specs.arrays.columnar_memory.Spans.{offsets_of}
use Rattle.nested_arrays_builder_arrays.specs.arrays.columns.StoredColumns.{Column, lists}
use Rattle.nested_arrays_builder_arrays.specs.arrays.parts.Widths.{spans_in}
use Rattle.nested_arrays_builder_arrays.proofs.arrays_lemmas.SlotPlaces.{list_there}
use Rattle.nested_arrays_builder_arrays.proofs.arrays_lemmas.parts_lemmas.OffsetLists.{spans_count}
use Rattle.nested_arrays_cells.specs.Inside.{AreCellItems}
use Rattle.nested_arrays_cells.proofs.CellPlaces.{list_cells, no_map}
use Rattle.nested_arrays_cells.proofs.inside.set_list_items.Goals as goal

pub bounds-start-requires : goal.bounds-start-requires
bounds-start-requires c = omega (arith, c.requires.within, spans_count (spans_in c.args.node.now.offsets))

pub returns : goal.returns
returns c =
    let node = c.args.node.now in
    let spans = spans_in node.offsets in
    let start = c.bounds-start.result.0 in
    let stop = c.bounds-start.result.1 in
    let there = list_there node.data_type node.validity spans node.values.value c.args.i start stop c.requires.whole.sound c.requires.within
    c.requires.set c.bounds-start.ensures.start c.bounds-start.ensures.stop c.bounds-start.ensures.ordered c.bounds-start.ensures.within in
    let own = list_cells node.data_type node.validity (offsets_of spans) node.values.value c.args.i start (stop - start) c.requires.whole.sound
    (no_map node.data_type node.offsets c.requires.whole.fits) there in
    subst (λ (child : Column). AreCellItems (lists node.data_type node.validity (offsets_of spans) node.values.value) c.args.i child start
    (stop - start)) (sym c.deref.ensures) own
