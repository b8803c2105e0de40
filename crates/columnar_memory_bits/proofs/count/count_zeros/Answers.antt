use Rattle.std.proofs.Common.{◌≡◌, ℕ, List, ◌+◌, ◌*◌, ◌-◌, ◌/◌, ◌<◌, ◌∙◌, [], ap, sym, arith, length, take, drop, get_or, count_ones}
use Rattle.std.proofs.Common.{length-take, length-drop, zero-add}
use Rattle.std.specs.Int.{from_le_bytes, w64}
use Rattle.std.specs.Simd.{first_chunks}
use Rattle.columnar_memory_bits.specs.Bits.{bits_of}
use Rattle.columnar_memory_bits.specs.Words.{word}
use Rattle.columnar_memory_bits.proofs.Counts.{set_count, ones_next, set_count_most, word_ones, unset_from_set}
use Rattle.columnar_memory_bits.proofs.WholeWords.{chunk_word}
use Rattle.columnar_memory_bits.proofs.count.count_zeros.Goals as goal
use Rattle.columnar_memory_bits.proofs.count.count_zeros.Goals.{After-from_le_bytes, After-load_word-rest}

pub loop-word-init : goal.loop-word-init
loop-word-init c =
    let bytes = c.args.bytes.now in
    let before : ℕ = c.min-before.result in
    let none : 0 + before ≡ before + 64 * 0 = omega arith in
    let first : c.args.offset ≡ c.args.offset + 0 = omega arith in
    let read : c.load_word-2.result ≡ word (bits_of bytes (c.args.offset + 0) before) =
    c.load_word-2.ensures ∙ ap (λ n. word (bits_of bytes n before)) first in
    sym (zero-add (count_ones c.load_word-2.result)) ∙ sym (ones_next bytes c.args.offset 0 before c.load_word-2.result read)
    ∙ ap (λ n. set_count (bits_of bytes c.args.offset n)) none

counted : (c : After-from_le_bytes) →
    c.loop-word.ones + count_ones c.from_le_bytes.result
    ≡ set_count (bits_of c.args.bytes.now c.args.offset (c.min-before.result + 64 * (c.loop-word.word-index + 1)))
counted c =
    let bytes = c.args.bytes.now in
    let before : ℕ = c.min-before.result in
    let k : ℕ = c.loop-word.word-index in
    let first : ℕ = (c.args.offset + before) / 8 in
    let m : ℕ = first + 8 * ((c.args.len - before) / 64) - first in
    let part : List ℕ = take m (drop first bytes) in
    let long : length part ≡ m = omega (arith, length-take m (drop first bytes), length-drop first bytes) in
    let inside : k < length part / 8 = omega (arith, c.as_chunks.ensures.front_len) in
    let read : c.from_le_bytes.result ≡ from_le_bytes w64 (get_or (first_chunks 8 (length part / 8) part) k []) =
    c.from_le_bytes.ensures ∙ ap (λ (xs : List (List ℕ)). from_le_bytes w64 (get_or xs k [])) c.as_chunks.ensures.front in
    let place : 8 * first + 64 * k ≡ c.args.offset + (before + 64 * k) = omega arith in
    let here : c.from_le_bytes.result ≡ word (bits_of bytes (c.args.offset + (before + 64 * k)) 64) =
    chunk_word bytes first m (length part / 8) k c.from_le_bytes.result [] (λ j. (c.type_inv.bytes j).fits) (omega arith) (omega arith) inside
    c.from_le_bytes.type_inv read
    ∙ ap (λ n. word (bits_of bytes n 64)) place in
    let next : before + 64 * k + 64 ≡ before + 64 * (k + 1) = omega arith in
    ap (λ n. n + count_ones c.from_le_bytes.result) c.loop-word.invariant
    ∙ sym (ones_next bytes c.args.offset (before + 64 * k) 64 c.from_le_bytes.result here)
    ∙ ap (λ n. set_count (bits_of bytes c.args.offset n)) next

pub overflow_add-ones : goal.overflow_add-ones
overflow_add-ones c =
    omega (
      arith,
      counted c,
      set_count_most c.args.bytes.now c.args.offset (c.min-before.result + 64 * (c.loop-word.word-index + 1)),
      c.as_chunks.ensures.front_len,
      length-take {A = ℕ},
      length-drop {A = ℕ},
    )

pub loop-word-preserved : goal.loop-word-preserved
loop-word-preserved c = counted c

all_counted : (c : After-load_word-rest) →
    c.loop-word.ones + count_ones c.load_word-rest.result ≡ set_count (bits_of c.args.bytes.now c.args.offset c.args.len)
all_counted c =
    let bytes = c.args.bytes.now in
    let before : ℕ = c.min-before.result in
    let first : ℕ = (c.args.offset + before) / 8 in
    let count : ℕ = (c.args.len - before) / 64 in
    let m : ℕ = first + 8 * count - first in
    let long : length (take m (drop first bytes)) ≡ m = omega (arith, length-take m (drop first bytes), length-drop first bytes) in
    let last : before + 64 * c.loop-word.word-index ≡ before + 64 * count = omega (arith, c.as_chunks.ensures.front_len) in
    let whole : before + 64 * count + (c.args.len - (before + 64 * count)) ≡ c.args.len = omega arith in
    ap (λ n. n + count_ones c.load_word-rest.result) (c.loop-word.invariant ∙ ap (λ n. set_count (bits_of bytes c.args.offset n)) last)
    ∙ sym (ones_next bytes c.args.offset (before + 64 * count) (c.args.len - (before + 64 * count)) c.load_word-rest.result
    c.load_word-rest.ensures)
    ∙ ap (λ n. set_count (bits_of bytes c.args.offset n)) whole

pub overflow_add-result : goal.overflow_add-result
overflow_add-result c = omega (arith, all_counted c, set_count_most c.args.bytes.now c.args.offset c.args.len)

pub overflow_sub-result-2 : goal.overflow_sub-result-2
overflow_sub-result-2 c = omega (arith, all_counted c, set_count_most c.args.bytes.now c.args.offset c.args.len)

pub returns : goal.returns
returns c = unset_from_set c.args.bytes.now c.args.offset c.args.len (c.loop-word.ones + count_ones c.load_word-rest.result) (all_counted c)

pub overflow_sub-result : goal.overflow_sub-result
overflow_sub-result c =
    omega (
      arith,
      word_ones c.args.bytes.now c.args.offset c.args.len c.load_word.result c.load_word.ensures,
      set_count_most c.args.bytes.now c.args.offset c.args.len,
    )

pub returns-then-len-le64 : goal.returns-then-len-le64
returns-then-len-le64 c =
    unset_from_set c.args.bytes.now c.args.offset c.args.len (count_ones c.load_word.result)
    (word_ones c.args.bytes.now c.args.offset c.args.len c.load_word.result c.load_word.ensures)
