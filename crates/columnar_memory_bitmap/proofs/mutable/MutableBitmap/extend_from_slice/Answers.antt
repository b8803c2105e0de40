use Rattle.std.proofs.Common.{◌≡◌, ◌+◌, ◌∙◌, ◌++◌, Bool, List, arith, ap, ap₂, sym, length}
use Rattle.columnar_memory_bits.specs.Bits.{bits_of}
use Rattle.columnar_memory_bitmap.proofs.Places.{bits_of-range}
use Rattle.columnar_memory_bitmap.proofs.mutable.MutableBitmap.extend_from_slice.Goals as goal

pub returns : goal.returns
returns c =
    let b = c.self.inside in
    let sum : b.len + c.args.count ≡ c.in-Some.len = grind arith in
    sym (ap (λ k. bits_of c.append_bits.new.to.items 0 k) sum) ∙ c.in_ok-append_bits.ensures.ok
    ∙ ap₂ (λ (xs ys : List Bool). xs ++ ys) c.self.view_is (bits_of-range c.args.bytes.now c.args.offset c.args.count (length
    c.args.bytes.now) c.requires)
