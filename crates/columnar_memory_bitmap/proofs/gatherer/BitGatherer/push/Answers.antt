use Rattle.std.proofs.Common.{◌≡◌, ◌∙◌, ◌+◌, ◌++◌, ℕ, ap, sym, arith}
use Rattle.std.proofs.lemmas.List.{append-nil}
use Rattle.columnar_memory_bits.specs.Words.{word_bits}
use Rattle.columnar_memory_bitmap.proofs.Gathering.{with_more}
use Rattle.columnar_memory_bitmap.proofs.gatherer.BitGatherer.push.Goals as goal

pub returns : goal.returns
returns c =
    let old = c.self.inside in
    let word = c.with_bit-word.result in
    let full : old.count + 1 ≡ 64 = omega (arith, c.self.invariant, c.if-self-lt63.false) in
    append-nil c.extend_word.new.self ∙ c.in_ok-extend_word.ensures
    ∙ ap (λ (n : ℕ). old.bitmap ++ word_bits n word) (sym full)
    ∙ with_more old.bitmap c.args.self.now (word_bits old.count old.word) (word_bits (old.count + 1) word) c.args.bit c.self.view_is
    c.with_bit-word.ensures.bits
