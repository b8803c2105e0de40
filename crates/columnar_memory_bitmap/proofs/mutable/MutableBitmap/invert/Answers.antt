use Rattle.std.proofs.Common.{◌≡◌, ℕ, ◌+◌, ◌<◌, ◌∙◌, ap, arith, map, not, length}
use Rattle.std.specs.Vec.{with_items}
use Rattle.std.proofs.lemmas.List.{with_items_is}
use Rattle.columnar_memory_bits.specs.Bits.{bit_at, bits_of}
use Rattle.columnar_memory_bitmap.proofs.Combining.{map-not-window}
use Rattle.columnar_memory_bitmap.proofs.mutable.MutableBitmap.invert.Goals as goal

pub returns : goal.returns
returns c =
    let b = c.self.inside in
    let new = c.invert_bytes.new.bytes in
    let long : length new ≡ b.buffer.len = c.invert_bytes.auto.bytes ∙ c.deref_mut.ensures.len in
    let kept : (with_items b.buffer new).items ≡ new = with_items_is b.buffer new long in
    let old : length c.deref_mut.result.now ≡ length b.buffer.items = ap length c.deref_mut.ensures.value in
    c.keep_bits.ensures.same ∙ ap (λ xs. bits_of xs 0 b.len) kept
    ∙ map-not-window (bit_at b.buffer.items) (bit_at new) 0 0 b.len
    (λ (k : ℕ) (inside : k < b.len). c.invert_bytes.ensures (0 + k) (omega (arith, c.self.invariant.counted))
    ∙ ap (λ xs. not (bit_at xs (0 + k))) c.deref_mut.ensures.value)
    ∙ ap (λ bits. map not bits) c.self.view_is
