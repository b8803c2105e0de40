use Rattle.std.proofs.Common.{arith, option_copied}
use Rattle.nested_arrays_parts.proofs.flat_lemmas.ColumnParts.{mark_of_slot}
use Rattle.nested_arrays_parts.proofs.OffsetLists.{spans_count}
use Rattle.nested_arrays_parts.specs.Widths.{spans_in}
use Rattle.nested_arrays_arrays.specs.AnyColumns.{column_of}
use Rattle.nested_arrays_arrays.specs.declared.any.Node.TheVariants as variant
use Rattle.nested_arrays_arrays.proofs.list_runs.is_list.Goals as goal

pub mark_at-requires : goal.mark_at-requires
mark_at-requires c =
    mark_of_slot (column_of (variant.List c.args.node.now)) (option_copied c.as_ref.result) c.args.i c.requires.sound c.as_ref.ensures.value
    (omega (arith, c.requires.within, spans_count (spans_in c.args.node.now.offsets)))
