use Rattle.std.proofs.Common.{◌≡◌, ◌+◌, ◌≤◌, ◌∙◌, true, false, arith, sym}
use Rattle.std.proofs.lemmas.Bool.{false≢true}
use Rattle.columnar_memory_bits.specs.Bits.{bit_at, bits_of}
use Rattle.columnar_memory_bitmap.proofs.SameWords.{same_more, same_word}
use Rattle.columnar_memory_bitmap.proofs.equal.same_bits.Goals as goal

pub returns-then-load_word : goal.returns-then-load_word
returns-then-load_word c =
    let a = c.args in
    let within : c.loop-same.same + c.min-count.result ≤ c.args.len = omega arith in (
      λ (said : false ≡ true). absurd (false≢true said),
      λ (same : bits_of a.left.now a.left_offset a.len ≡ bits_of a.right.now a.right_offset a.len).
          absurd (c.if-load_word.true (c.load_word.ensures
          ∙ same_word (bit_at a.left.now) (bit_at a.right.now) a.left_offset a.right_offset a.len c.loop-same.same c.min-count.result within same
          ∙ sym c.load_word-in-loop-same.ensures)),
    )

pub loop-same-preserved : goal.loop-same-preserved
loop-same-preserved c =
    let a = c.args in (
      omega arith,
      same_more (bit_at a.left.now) (bit_at a.right.now) a.left_offset a.right_offset c.loop-same.same c.min-count.result
          c.loop-same.invariant.1 (sym c.load_word.ensures ∙ c.if-load_word.false ∙ c.load_word-in-loop-same.ensures),
    )
