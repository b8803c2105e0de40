use Rattle.std.proofs.Common.{◌∙◌, sym, arith, map}
use Rattle.std.proofs.lemmas.Bool.{false≢true}
use Rattle.nested_arrays_flat.specs.FlatColumns.{stored_numbers}
use Rattle.nested_arrays_parts.proofs.SameNumbers.{joined_stored, stored_behind, rest_of_stored}
use Rattle.nested_arrays_parts.proofs.numbers.same_values.Goals as goal

pub returns-then-not-same_block : goal.returns-then-not-same_block
returns-then-not-same_block g c =
    let left = stored_numbers g.T.NativeType.PRIMITIVE (map g.T.NativeType.numbers c.args.left.now) in
    let right = stored_numbers g.T.NativeType.PRIMITIVE (map g.T.NativeType.numbers c.args.right.now) in (
      λ is. absurd (false≢true is),
      λ same. absurd (false≢true (sym c.if-not-same_block.true
          ∙ c.same_block.ensures.1 (stored_behind left right c.args.i c.args.j c.loop-k.k 64 c.args.count (omega arith) same))),
    )

pub loop-k-preserved : goal.loop-k-preserved
loop-k-preserved g c =
    let left = stored_numbers g.T.NativeType.PRIMITIVE (map g.T.NativeType.numbers c.args.left.now) in
    let right = stored_numbers g.T.NativeType.PRIMITIVE (map g.T.NativeType.numbers c.args.right.now) in (
      omega arith,
      joined_stored left right c.args.i c.args.j c.loop-k.k 64 c.loop-k.invariant.1 (c.same_block.ensures.0 c.if-not-same_block.false),
    )

pub returns : goal.returns
returns g c =
    let left = stored_numbers g.T.NativeType.PRIMITIVE (map g.T.NativeType.numbers c.args.left.now) in
    let right = stored_numbers g.T.NativeType.PRIMITIVE (map g.T.NativeType.numbers c.args.right.now) in
    let rest = rest_of_stored left right c.args.i c.args.j c.loop-k.k c.args.count c.loop-k.invariant.0 in
    (λ is. rest.0 c.loop-k.invariant.1 (c.same_block-2.ensures.0 is), λ same. c.same_block-2.ensures.1 (rest.1 same))
