use Rattle.std.proofs.Common.{◌≡◌, ◌∙◌, ◌+◌, ◌<◌, ℕ, arith, replicate, subst, sym}
use Rattle.std.specs.Prelude.{IfSome}
use Rattle.std.proofs.lemmas.Bool.{false≢true}
use Rattle.nested_arrays_parts.specs.columns.StoredColumns.{Column, column_len, slot_at}
use Rattle.nested_arrays_arrays.proofs.NamedRuns.{named_same, no_pairs}
use Rattle.nested_arrays_arrays.proofs.SameSlots.{below_next}
use Rattle.nested_arrays_arrays.specs.AnyColumns.{column_of}
use Rattle.nested_arrays_arrays.specs.declared.any.Node.TheVariants as variant
use Rattle.nested_arrays_arrays.proofs.named_runs.same_named.Goals as goal

pub loop-k-init : goal.loop-k-init
loop-k-init g c = record {
  same = λ k h. absurd (omega (arith, h));
  known = no_pairs g.row.KNOWN 18446744073709551615 (replicate g.row.KNOWN 18446744073709551615) c.args.values.now c.args.others.now (omega arith);
  counted = omega arith;
}

pub same_slot-requires : goal.same_slot-requires
same_slot-requires g c =
    let place = c.named-place.result in
    let other = c.named-other.result in
    let within : IfSome place (λ (p : ℕ). p < column_len c.args.values.now) =
    subst (λ (v : Column). IfSome place (λ (p : ℕ). p < column_len v)) (sym c.requires.left_values) c.named-place.ensures.within in
    let other_within : IfSome other (λ (p : ℕ). p < column_len c.args.others.now) =
    subst (λ (v : Column). IfSome other (λ (p : ℕ). p < column_len v)) (sym c.requires.right_values) c.named-other.ensures.within in
    (omega (arith, c.requires.small), (c.requires.room, (c.loop-k.invariant.known, (within, other_within))))

pub loop-k-preserved : goal.loop-k-preserved
loop-k-preserved g c =
    let l = column_of (variant.Dictionary c.args.left.now) in
    let r = column_of (variant.Dictionary c.args.right.now) in
    let both = named_same l r c.args.values.now c.args.others.now c.args.left.now.values.value c.args.right.now.values.value (c.args.i + c.loop-k.k)
    (c.args.j + c.loop-k.k) c.named-place.result c.named-other.result c.requires.left_values c.requires.right_values
    c.named-place.ensures.shown c.named-other.ensures.shown in record {
      same = below_next (λ (m : ℕ). slot_at l (c.args.i + m) ≡ slot_at r (c.args.j + m)) c.loop-k.k c.loop-k.invariant.same
          (both.0 (c.same_slot.ensures.same.0 c.if-not-same_slot.false));
      known = c.same_slot.ensures.known;
      counted = omega (arith, c.loop-k.invariant.counted, c.same_slot.ensures.counted);
    }

pub returns-then-not-same_slot-clause-same : goal.returns-then-not-same_slot-clause-same
returns-then-not-same_slot-clause-same g c =
    let both = named_same (column_of (variant.Dictionary c.args.left.now)) (column_of (variant.Dictionary c.args.right.now)) c.args.values.now
    c.args.others.now c.args.left.now.values.value c.args.right.now.values.value (c.args.i + c.loop-k.k)
    (c.args.j + c.loop-k.k) c.named-place.result c.named-other.result c.requires.left_values c.requires.right_values
    c.named-place.ensures.shown c.named-other.ensures.shown in (
      λ is. absurd (false≢true is),
      λ same. absurd (false≢true (sym c.if-not-same_slot.true ∙ c.same_slot.ensures.same.1 (both.1 (same c.loop-k.k c.loop-k-test.true)))),
    )
