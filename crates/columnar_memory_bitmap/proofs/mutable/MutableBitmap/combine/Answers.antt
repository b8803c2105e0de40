use Rattle.std.proofs.Common.{◌≡◌, ℕ, ◌+◌, ◌<◌, ◌∙◌, ap, ap₂, sym, arith, length, zero-add}
use Rattle.columnar_memory_bits.specs.Bits.{bit_at, bits_of}
use Rattle.columnar_memory_bitmap.specs.Operators.{table, pairwise}
use Rattle.columnar_memory_bitmap.proofs.Combining.{pairwise-window}
use Rattle.columnar_memory_bitmap.proofs.Lists.{length-window}
use Rattle.columnar_memory_bitmap.proofs.mutable.MutableBitmap.combine.Goals as goal

pub returns : goal.returns
returns c =
    let b = c.self.inside in
    let other = c.as_slice-offset.result in
    let new = c.combine_bits.new.to.items in
    let t = table c.args.operator in
    let long : b.len ≡ other.2 =
    sym (length-window (bit_at b.buffer.items) 0 b.len) ∙ ap length c.self.view_is ∙ c.requires ∙ sym c.as_slice-offset.ensures.len in
    pairwise-window t (bit_at b.buffer.items) (bit_at other.0.now) (bit_at new) 0 other.1 0 b.len
    (λ (k : ℕ) (inside : k < b.len). c.combine_bits.ensures.bits (0 + k) (omega arith)
    ∙ ap (λ i. t (bit_at b.buffer.items (0 + k)) (bit_at other.0.now (other.1 + i))) (zero-add k))
    ∙ ap₂ (λ xs ys. pairwise t xs ys) c.self.view_is (ap (λ n. bits_of other.0.now other.1 n) long ∙ c.as_slice-offset.ensures.bits)
