use Rattle.std.proofs.Common.{◌∙◌, ap, arith, subst}
use Rattle.nested_arrays_core.specs.columnar_memory.Spans.{offsets_of}
use Rattle.nested_arrays_core.specs.columns.SoundColumns.{is_sound}
use Rattle.nested_arrays_core.specs.columns.StoredColumns.{Column, column_len, column_type, lists}
use Rattle.nested_arrays_core.specs.flat.ColumnMasks.{column_mask}
use Rattle.nested_arrays_core.proofs.parts_lemmas.OffsetLists.{spans_count}
use Rattle.nested_arrays_core.proofs.arrays_lemmas.ListParts.{lists_parts}
use Rattle.nested_arrays_core.specs.ListTypes.{items_in}
use Rattle.nested_arrays_iterators.specs.ReadValues.{IsList}
use Rattle.nested_arrays_iterators.proofs.lists.RefListArrayArrayValues.value.Goals as goal

pub items_between-requires-clause-within : goal.items_between-requires-clause-within
items_between-requires-clause-within g c =
    omega (arith, c.requires, ap column_len c.offsets.ensures, spans_count c.offsets.result.now)

pub items_between-requires-clause-end : goal.items_between-requires-clause-end
items_between-requires-clause-end g c =
    let parts = lists_parts (column_type c.args.self.now) (column_mask c.args.self.now) c.offsets.result.now (items_in c.args.self.now)
    (ap is_sound c.offsets.ensures ∙ c.whole.ensures.0) in
    omega (arith, parts.1, ap column_len c.values.ensures)

pub returns : goal.returns
returns g c =
    let t = column_type c.args.self.now in
    let mask = column_mask c.args.self.now in
    let is = ap (λ d. lists t mask (offsets_of c.offsets.result.now) d) c.values.ensures ∙ c.offsets.ensures in
    subst (λ (d : Column). IsList d c.args.i c.items_between.result) is (c.items_between.ensures t mask)
