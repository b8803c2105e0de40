use Rattle.std.proofs.Common.{◌≡◌, ◌∙◌, ◌+◌, ◌++◌, ℕ, ap, sym, arith, length, length-append}
use Rattle.std.proofs.iter.runs.Made.{run_of_exit}
use Rattle.std.proofs.lemmas.List.{append-nil}
use Rattle.columnar_memory_bits.specs.Bits.{bit}
use Rattle.columnar_memory_bits.specs.Words.{word_bits}
use Rattle.columnar_memory_bits.proofs.Windows.{length_window}
use Rattle.columnar_memory_bitmap.proofs.Gathering.{with_more}
use Rattle.columnar_memory_bitmap.proofs.mutable.MutableBitmap.from_iter.Goals as goal

pub loop-bit-preserved-then-count-eq64 : goal.loop-bit-preserved-then-count-eq64
loop-bit-preserved-then-count-eq64 g c =
    let old = c.loop-bit in
    let word = c.with_bit-word.result in
    let full : old.count + 1 ≡ 64 = omega (arith, c.if-count-eq64.true) in
    let size : length c.extend_word.new.self ≡ length old.bitmap + 64 =
    ap length c.in_ok-extend_word.ensures ∙ length-append old.bitmap (word_bits 64 word)
    ∙ ap (λ (n : ℕ). length old.bitmap + n) (length_window (bit word) 0 64) in
    record {
      given = append-nil c.extend_word.new.self ∙ c.in_ok-extend_word.ensures ∙ ap (λ (n : ℕ). old.bitmap ++ word_bits n word) (sym full)
          ∙ with_more old.bitmap old.yielded (word_bits old.count old.word) (word_bits (old.count + 1) word) c.in-Some.bit old.invariant.given
          c.with_bit-word.ensures.bits;
      whole = omega (arith, size, old.invariant.whole);
      few = omega arith;
      small = omega arith;
    }

pub returns : goal.returns
returns g c =
    let given = c.into_iter-bit-iterator in
    let run = run_of_exit g.I.Iterator.next_gives given.result c.loop-bit.yielded c.loop-bit.bit-iterator c.loop-bit.yielded_by
    c.next.new.self c.in-None.ensures.steps in (
      run.0,
      run.1 ∙ given.ensures.into_iter_gives,
      run.2,
      c.in_ok-extend_word-2.ensures ∙ c.loop-bit.invariant.given ∙ sym run.3.0,
    )
