use Rattle.std.proofs.Common.{◌∙◌, ap, arith, subst, sym}
use Rattle.nested_arrays_core.specs.columns.SoundColumns.{is_sound}
use Rattle.nested_arrays_core.specs.columns.StoredColumns.{Column, column_len, column_type, lists}
use Rattle.nested_arrays_core.specs.flat.ColumnMasks.{column_mask}
use Rattle.nested_arrays_core.proofs.parts_lemmas.OffsetLists.{spans_count}
use Rattle.nested_arrays_core.proofs.arrays_lemmas.ListParts.{lists_parts}
use Rattle.nested_arrays_iterators.specs.ReadValues.{IsList}
use Rattle.nested_arrays_iterators.proofs.lists.RefMapArrayArrayValues.value.Goals as goal

pub items_between-requires-clause-within : goal.items_between-requires-clause-within
items_between-requires-clause-within c =
    let is = c.field.ensures
    ∙ ap (λ o. lists (column_type c.args.self.now) (column_mask c.args.self.now) o c.field.result.now) (sym c.offsets.ensures) in
    omega (arith, c.requires, ap column_len is, spans_count c.offsets.result.now)

pub items_between-requires-clause-end : goal.items_between-requires-clause-end
items_between-requires-clause-end c =
    let is = c.field.ensures
    ∙ ap (λ o. lists (column_type c.args.self.now) (column_mask c.args.self.now) o c.field.result.now) (sym c.offsets.ensures) in
    (lists_parts _ _ c.offsets.result.now c.field.result.now (ap is_sound (sym is) ∙ c.whole.ensures.0)).1

pub returns : goal.returns
returns c =
    let t = column_type c.args.self.now in
    let mask = column_mask c.args.self.now in
    let is = c.field.ensures ∙ ap (λ o. lists t mask o c.field.result.now) (sym c.offsets.ensures) in
    subst (λ (d : Column). IsList d c.args.i c.items_between.result) (sym is) (c.items_between.ensures t mask)
