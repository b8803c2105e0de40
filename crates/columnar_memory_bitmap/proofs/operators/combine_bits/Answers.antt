use Rattle.std.proofs.Common.{◌≡◌, ℕ, ◌+◌, ◌*◌, ◌<◌, ◌∙◌, ap, arith, Bool, false, if◌then◌else◌, nat_lt, slice_index}
use Rattle.std.proofs.lemmas.List.{get_or_read, length-set}
use Rattle.columnar_memory_bits.specs.Bits.{bit, bit_at}
use Rattle.columnar_memory_bitmap.specs.Operators.{table}
use Rattle.columnar_memory_bitmap.proofs.Combining.{combined_more, byte_word, filled}
use Rattle.columnar_memory_bitmap.proofs.operators.combine_bits.Goals as goal

pub overflow_cast-other : goal.overflow_cast-other
overflow_cast-other c =
    omega (arith, c.load_word-other.ensures, byte_word (bit_at c.args.bytes.now) (c.args.offset + 8 * c.loop-i.i) c.min-count.result (omega arith))

pub loop-i-preserved : goal.loop-i-preserved
loop-i-preserved c =
    let a = c.args in
    let now = c.loop-i.to.items in
    let other : ℕ → Bool = λ (k : ℕ). if nat_lt k a.len then bit_at a.bytes.now (a.offset + k) else false in
    let read : c.index.result.now ≡ slice_index now c.loop-i.i = get_or_read now c.loop-i.i c.index.result.now (omega arith) c.index.ensures 0 in
    let more = combined_more (table a.operator) a.to.now.items now other c.loop-i.i c.combined.result c.load_word-other.result (omega arith)
    c.loop-i.invariant.1 c.loop-i.invariant.2
    (λ (j : ℕ) (within : j < 8). c.combined.ensures j ∙ ap (λ n. table a.operator (bit n j) (bit c.load_word-other.result j)) read)
    (λ (j : ℕ) (within : j < 8). ap (λ n. bit n j) c.load_word-other.ensures
    ∙ filled a.bytes.now a.offset a.len c.loop-i.i c.min-count.result j c.min-count.ensures within) in
    (length-set now c.loop-i.i c.combined.result ∙ c.loop-i.invariant.0, more.0, more.1)
