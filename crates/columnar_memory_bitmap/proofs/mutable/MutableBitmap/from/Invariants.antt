use Rattle.std.proofs.Common.{◌≡◌, take}
use Rattle.columnar_memory_bitmap.proofs.mutable.MutableBitmap.from.Given as goal

-- the bits that were passed are packed
abbrev pub invariant-loop-bit : goal.invariant-loop-bit
invariant-loop-bit l = l.packed ≡ take l.bit-index l.bits
