use Rattle.std.proofs.Common.{◌∙◌, ap, arith, subst, sym, ℕ}
use Rattle.std.specs.Prelude.{IfSome}
use Rattle.nested_arrays_parts.specs.Forms.{column_form}
use Rattle.nested_arrays_arrays.specs.AnyColumns.{column_of}
use Rattle.nested_arrays_arrays.specs.NamedRuns.{TellsRun}
use Rattle.nested_arrays_arrays.specs.declared.any.Node.TheVariants as variant
use Rattle.nested_arrays_arrays.proofs.NamedRuns.{named_nodes}
use Rattle.nested_arrays_arrays.proofs.named_runs.same_nodes.Goals as goal

pub returns-then-count-lt-LONG-clause-told : goal.returns-then-count-lt-LONG-clause-told
returns-then-count-lt-LONG-clause-told c =
    let node = c.args.left.now in
    let few = ap column_form (c.in-Some-Some.ensures ∙ c.deref.ensures) in
    let alone = named_nodes node.data_type node.keys node.values.value c.args.i c.args.count (omega (arith, few, c.holds_values.ensures)) in
    subst (λ (nodes : ℕ). IfSome c.same_keyed.result (λ same. TellsRun (column_of (variant.Dictionary c.args.left.now)) c.args.i
    (column_of (variant.Dictionary c.args.right.now)) c.args.j c.args.count nodes c.args.steps.now.count c.same_keyed.new.steps.count same))
    (sym alone) c.same_keyed.ensures.told

pub returns-else-count-lt-LONG-clause-told : goal.returns-else-count-lt-LONG-clause-told
returns-else-count-lt-LONG-clause-told c =
    let node = c.args.left.now in
    let few = ap column_form (c.in-Some-Some.ensures ∙ c.deref.ensures) in
    let alone = named_nodes node.data_type node.keys node.values.value c.args.i c.args.count (omega (arith, few, c.holds_values.ensures)) in
    subst (λ (nodes : ℕ). IfSome c.same_keyed-else-count-lt-LONG.result (λ same. TellsRun (column_of (variant.Dictionary c.args.left.now)) c.args.i
    (column_of (variant.Dictionary c.args.right.now)) c.args.j c.args.count nodes c.args.steps.now.count
    c.same_keyed-else-count-lt-LONG.new.steps.count same)) (sym alone) c.same_keyed-else-count-lt-LONG.ensures.told
