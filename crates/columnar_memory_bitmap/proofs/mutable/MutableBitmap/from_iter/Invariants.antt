use Rattle.std.proofs.Common.{◌≡◌, ◌++◌, ◌%◌, ◌^◌, ◌<◌, length}
use Rattle.columnar_memory_bits.specs.Words.{word_bits}
use Rattle.columnar_memory_bitmap.proofs.mutable.MutableBitmap.from_iter.Given as goal

-- the bits that were given: whole words, and the first ones of a word
abbrev pub invariant-loop-bit : goal.invariant-loop-bit
invariant-loop-bit g l = record {
  given : l.bitmap ++ word_bits l.count l.word ≡ l.yielded;
  whole : length l.bitmap % 64 ≡ 0;
  few : l.count < 64;
  small : l.word < 2 ^ l.count;
}
