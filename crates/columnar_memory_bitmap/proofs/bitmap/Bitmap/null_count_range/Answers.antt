use Rattle.std.proofs.Common.{◌≡◌, ◌+◌, ◌≤◌, ◌∙◌, ap, sym, arith, length}
use Rattle.std.specs.Prelude.{slice_range}
use Rattle.columnar_memory_bits.specs.Bits.{bit_at, bits_of, unset_count}
use Rattle.columnar_memory_bitmap.proofs.Lists.{length-window, slice_range-window, unset_count-middle}
use Rattle.columnar_memory_bitmap.proofs.bitmap.Bitmap.null_count_range.Goals as goal

pub returns-then-self-eq0 : goal.returns-then-self-eq0
returns-then-self-eq0 c =
    let b = c.self.inside in
    let bit = bit_at b.bytes.value.items in
    let start = c.args.offset in
    let count = c.args.count in
    let long : length c.args.self.now ≡ b.len = sym (ap length c.self.view_is) ∙ length-window bit b.offset b.len in
    let within : start + count ≤ b.len = omega (arith, c.requires) in
    let part : slice_range c.args.self.now start (start + count) ≡ bits_of b.bytes.value.items (b.offset + start) count =
    ap (λ bits. slice_range bits start (start + count)) (sym c.self.view_is) ∙ slice_range-window bit b.offset b.len start count within in
    let none : 0 ≡ unset_count (bits_of b.bytes.value.items (b.offset + start) count) =
    omega (arith, unset_count-middle bit b.offset b.len start count within, c.self.invariant.2, c.if-self-eq0.true) in
    none ∙ sym (ap unset_count part)
