use Rattle.std.proofs.Common.{◌∙◌, length, ap, sym}
use Rattle.nested_arrays_builder_values.specs.parts.arrays.columns.Children.{items_of}
use Rattle.nested_arrays_builders.proofs.CellItems.{items_many, no_list}
use Rattle.nested_arrays_builders.proofs.inside.item_count.Goals as goal

pub returns-in-List : goal.returns-in-List
returns-in-List c = c.len.ensures ∙ items_many c.args.cell.now c.in-List.cells c.in-List.is

pub returns-in_default : goal.returns-in_default
returns-in_default c = sym (ap (λ s. length (items_of s)) (no_list c.args.cell.now c.in_default.not-List c.requires))
