-- Packed bits as the bytes of a bitmap.
use Rattle.std.proofs.Common.{◌≡◌, ◌∙◌, ℕ, zero, suc, ◌+◌, ◌-◌, ◌*◌, ◌/◌, ◌%◌, ◌≤◌, ◌<◌, Bool, false, List, [], ◌∷◌, ◌++◌}
use Rattle.std.proofs.Common.{length, take, drop, get_or, replicate, refl, sym, ap, ap₂, arith, if◌then◌else◌, inl, inr}
use Rattle.std.specs.Int as number
use Rattle.std.proofs.lemmas.Bool.{cases_lt}
use Rattle.std.specs.Prelude.{slice_range}
use Rattle.std.proofs.lemmas.List.{drop-append-le, drop_all, length-append, length-drop, length-take-le, take-append-le, take_all}
use Rattle.std.proofs.Math.Seq.{take-append_seam, drop-append_seam}
use Rattle.ipc_format_streams.specs.columnar_memory.Bits.{IsPacked, bit_at, bits_of, bytes_for}
use Rattle.ipc_format_streams.specs.columnar_memory.Windows.{window}
use Rattle.ipc_format_streams.specs.columnar_memory.Words.{word}
use Rattle.ipc_format_streams.proofs.columnar_memory_lemmas.bits_lemmas.Appends.{bit_at_behind, bit_at_beyond}
use Rattle.ipc_format_streams.proofs.columnar_memory_lemmas.bits_lemmas.Words.{word_of_bytes}
use Rattle.ipc_format_streams.proofs.columnar_memory_lemmas.bits_lemmas.Bits.{digit_first}
use Rattle.ipc_format_streams.proofs.columnar_memory_lemmas.bits_lemmas.Windows.{length_window, window_append, window_same}
use Rattle.ipc_format_streams.proofs.columnar_memory_lemmas.bitmap_lemmas.Lists.{slice_range-window}
use Rattle.ipc_format_streams.proofs.columnar_memory_lemmas.bitmap_lemmas.Places.{bits_of-range, bits_of-take}
use Rattle.ipc_format_streams.specs.columns.StoredColumns.{cut_list}
use Rattle.ipc_format_streams.specs.grammar.Buffers.{bits_by, bitmap_by, bitmap_bytes}

word_of_bits : (bits : List Bool) → bits_by (λ (b : Bool). b) bits ≡ word bits
word_of_bits [] = refl
word_of_bits (b ∷ bits) = ap (λ n. (if b then 1 else 0) + 2 * n) (word_of_bits bits)

-- one byte more in front
bitmap_step : (most : ℕ) (xs ys : List Bool) → length xs ≡ 8 → bitmap_by (λ (b : Bool). b) (suc most) (xs ++ ys) ≡ word xs ∷ bitmap_by (λ (b :
    Bool). b) most ys
bitmap_step most [] ys eight = absurd (omega arith)
bitmap_step most (x ∷ xs) ys eight =
    let all : List Bool = (x ∷ xs) ++ ys in
    let front : take 8 all ≡ x ∷ xs = ap (λ n. take n all) (sym eight) ∙ take-append_seam (x ∷ xs) ys in
    let behind : drop 8 all ≡ ys = ap (λ n. drop n all) (sym eight) ∙ drop-append_seam (x ∷ xs) ys in
    ap₂ (λ (n : ℕ) (bytes : List ℕ). n ∷ bytes) (ap (bits_by (λ (b : Bool). b)) front ∙ word_of_bits (x ∷ xs)) (ap (bitmap_by (λ (b : Bool). b)
    most) behind)

no_bits : (m : ℕ) → bitmap_by (λ (b : Bool). b) m [] ≡ []
no_bits zero = refl
no_bits (suc m) = refl

-- the last byte
bitmap_last : (most : ℕ) (xs : List Bool) → 0 < length xs → length xs ≤ 8 → bitmap_by (λ (b : Bool). b) (suc most) xs ≡ word xs ∷ []
bitmap_last most [] some few = absurd (omega arith)
bitmap_last most (x ∷ xs) some few =
    ap₂ (λ (n : ℕ) (bytes : List ℕ). n ∷ bytes) (ap (bits_by (λ (b : Bool). b)) (take_all 8 (x ∷ xs) few) ∙ word_of_bits (x ∷ xs))
    (ap (bitmap_by (λ (b : Bool). b) most) (drop_all 8 (x ∷ xs) few) ∙ no_bits most)

-- spare bits that are not set
word_zeros : (xs : List Bool) (k : ℕ) → word (xs ++ replicate k false) ≡ word xs
word_zeros [] zero = refl
word_zeros [] (suc k) = ap (λ n. 0 + 2 * n) (word_zeros [] k)
word_zeros (x ∷ xs) k = ap (λ n. (if x then 1 else 0) + 2 * n) (word_zeros xs k)

window_zeros : (f : ℕ → Bool) (first n : ℕ) → ((i : ℕ) → i < n → f (first + i) ≡ false) → window f first n ≡ replicate n false
window_zeros f first zero none = refl
window_zeros f first (suc n) none =
    ap₂ (λ (b : Bool) (bits : List Bool). b ∷ bits)
    (let here : first ≡ first + 0 = omega arith in ap f here ∙ none 0 (omega arith))
    (window_zeros f (first + 1) n (λ i h. let place : first + 1 + i ≡ first + suc i = omega arith in ap f place ∙ none (suc i) (omega arith)))

-- a byte is its eight bits
byte_word : (b : ℕ) (bytes : List ℕ) → b < 256 → b ≡ word (bits_of (b ∷ bytes) 0 8)
byte_word b bytes small =
    word_of_bytes (b ∷ bytes) 0 8 b small
    (λ i h. let place : i ≡ 0 + i = omega arith in ap (number.bit_at b) place ∙ sym (digit_first b bytes (0 + i) (omega arith)))

next_bits : (b : ℕ) (bytes : List ℕ) (n : ℕ) → bits_of (b ∷ bytes) 8 n ≡ bits_of bytes 0 n
next_bits b bytes n = window_same (bit_at (b ∷ bytes)) (bit_at bytes) 8 0 n
    (λ i h. bit_at_behind (b ∷ []) bytes i ∙ ap (bit_at bytes) (omega arith))

empty : (xs : List ℕ) → length xs ≡ 0 → xs ≡ []
empty [] none = refl
empty (x ∷ xs) none = absurd (omega arith)

one_byte : (b : ℕ) (bytes : List ℕ) (n most : ℕ) → b < 256 → length (b ∷ bytes) ≡ bytes_for n
    → ((i : ℕ) → n ≤ i → bit_at (b ∷ bytes) i ≡ false) → n < 8 → b ∷ bytes ≡ bitmap_by (λ (b : Bool). b) (suc most) (bits_of (b ∷ bytes) 0 n)
one_byte b bytes n most small counted zeros few =
    let f : ℕ → Bool = bit_at (b ∷ bytes) in
    let some : 0 < length (window f 0 n) = omega (arith, length_window f 0 n) in
    let short : length (window f 0 n) ≤ 8 = omega (arith, length_window f 0 n) in
    let all : n + (8 - n) ≡ 8 = omega arith in
    let own : b ≡ word (window f 0 n) =
    byte_word b bytes small ∙ ap (λ k. word (window f 0 k)) (sym all)
    ∙ ap word (window_append f 0 n (8 - n)
    ∙ ap (λ (more : List Bool). window f 0 n ++ more) (window_zeros f (0 + n) (8 - n) (λ i h. zeros (0 + n + i) (omega arith))))
    ∙ word_zeros (window f 0 n) (8 - n) in
    ap₂ (λ (k : ℕ) (more : List ℕ). k ∷ more) own (empty bytes (omega arith)) ∙ sym (bitmap_last most (window f 0 n) some short)

-- packed bytes are the bytes of their bits
packed_from : (bytes : List ℕ) (n most : ℕ) → ((k : ℕ) → get_or bytes k 0 < 256) → length bytes ≡ bytes_for n
    → ((i : ℕ) → n ≤ i → bit_at bytes i ≡ false) → n ≤ most → bytes ≡ bitmap_by (λ (b : Bool). b) most (bits_of bytes 0 n)
packed_from [] zero most small counted zeros fits = sym (no_bits most)
packed_from [] (suc n) most small counted zeros fits = absurd (omega arith)
packed_from (b ∷ bytes) n zero small counted zeros fits = absurd (omega arith)
packed_from (b ∷ bytes) n (suc most) small counted zeros fits = elim (cases_lt n 8) [
  | inl few ↦ one_byte b bytes n most (small 0) counted zeros few
  | inr many ↦
      let rest : length bytes ≡ bytes_for (n - 8) = omega arith in
      let within : n - 8 ≤ most = omega arith in
      let all : 8 + (n - 8) ≡ n = omega arith in
      let behind : bytes ≡ bitmap_by (λ (b : Bool). b) most (bits_of bytes 0 (n - 8)) =
      packed_from bytes (n - 8) most (λ k. small (suc k)) rest
      (λ i h. sym (bit_at_behind (b ∷ []) bytes i) ∙ zeros (8 * length (b ∷ []) + i) (omega arith)) within in
      ap₂ (λ (n : ℕ) (more : List ℕ). n ∷ more) (byte_word b bytes (small 0)) behind
      ∙ sym (bitmap_step most (bits_of (b ∷ bytes) 0 8) (bits_of bytes 0 (n - 8)) (length_window (bit_at (b ∷ bytes)) 0 8))
      ∙ ap (bitmap_by (λ (b : Bool). b) (suc most))
      (ap (λ (more : List Bool). bits_of (b ∷ bytes) 0 8 ++ more) (sym (next_bits b bytes (n - 8)))
      ∙ sym (window_append (bit_at (b ∷ bytes)) 0 8 (n - 8)) ∙ ap (bits_of (b ∷ bytes) 0) all)
]

pub packed_bytes : (bytes : List ℕ) (len : ℕ) → ((k : ℕ) → get_or bytes k 0 < 256) → IsPacked bytes len → bytes ≡ bitmap_bytes (bits_of bytes 0 len)
packed_bytes bytes len small packed =
    let count : length (bits_of bytes 0 len) ≡ len = length_window (bit_at bytes) 0 len in
    packed_from bytes len (length (bits_of bytes 0 len)) small packed.counted packed.zeros (omega arith)

-- enough bytes are enough
bitmap_enough : (m k : ℕ) (xs : List Bool) → length xs ≤ m → length xs ≤ k → bitmap_by (λ (b : Bool). b) m xs ≡ bitmap_by (λ (b : Bool). b) k xs
bitmap_enough m k [] few less = no_bits m ∙ sym (no_bits k)
bitmap_enough zero k (x ∷ xs) few less = absurd (omega arith)
bitmap_enough (suc m) zero (x ∷ xs) few less = absurd (omega arith)
bitmap_enough (suc m) (suc k) (x ∷ xs) few less =
    let size : length (drop 8 (x ∷ xs)) ≡ length (x ∷ xs) - 8 = length-drop 8 (x ∷ xs) in
    ap (λ (bytes : List ℕ). bits_by (λ (b : Bool). b) (take 8 (x ∷ xs)) ∷ bytes)
    (bitmap_enough m k (drop 8 (x ∷ xs)) (omega arith) (omega arith))

-- the bytes of a whole number of bytes of bits, and those of the bits behind them
bitmap_joined : (n most : ℕ) (xs ys : List Bool) → length xs ≡ 8 * n → length xs + length ys ≤ most
    → bitmap_by (λ (b : Bool). b) most (xs ++ ys) ≡ bitmap_bytes xs ++ bitmap_bytes ys
bitmap_joined zero most [] ys whole fits = bitmap_enough most (length ys) ys (omega arith) (omega arith)
bitmap_joined zero most (x ∷ xs) ys whole fits = absurd (omega arith)
bitmap_joined (suc n) most [] ys whole fits = absurd (omega arith)
bitmap_joined (suc n) zero (x ∷ xs) ys whole fits = absurd (omega arith)
bitmap_joined (suc n) (suc most) (x ∷ xs) ys whole fits =
    let size : length (drop 8 (x ∷ xs)) ≡ length (x ∷ xs) - 8 = length-drop 8 (x ∷ xs) in
    let eight : 8 ≤ length (x ∷ xs) = omega arith in
    let front : take 8 ((x ∷ xs) ++ ys) ≡ take 8 (x ∷ xs) = take-append-le 8 (x ∷ xs) ys eight in
    let behind : drop 8 ((x ∷ xs) ++ ys) ≡ drop 8 (x ∷ xs) ++ ys = drop-append-le 8 (x ∷ xs) ys eight in
    let rest = bitmap_joined n most (drop 8 (x ∷ xs)) ys (omega arith) (omega arith) in
    let own : bitmap_bytes (drop 8 (x ∷ xs)) ≡ bitmap_by (λ (b : Bool). b) (length xs) (drop 8 (x ∷ xs)) =
    bitmap_enough (length (drop 8 (x ∷ xs))) (length xs) (drop 8 (x ∷ xs)) (omega arith) (omega arith) in
    ap₂ (λ (n : ℕ) (more : List ℕ). n ∷ more) (ap (bits_by (λ (b : Bool). b)) front)
    (ap (bitmap_by (λ (b : Bool). b) most) behind ∙ rest ∙ ap (λ (bytes : List ℕ). bytes ++ bitmap_bytes ys) own)

-- the first bytes, which have no spare bits
pub packed_whole : (front bytes : List ℕ) (whole : ℕ) → front ≡ take whole bytes → whole ≤ length bytes → IsPacked front (8 * whole)
packed_whole front bytes whole is within =
    let size : length front ≡ whole = ap (λ (xs : List ℕ). length xs) is ∙ length-take-le whole bytes within in
    record { counted = omega arith; zeros = λ (i : ℕ) (past : 8 * whole ≤ i). bit_at_beyond front i (omega arith) }

-- the bytes of the first bits: of those that fill bytes, and of those behind them
pub aligned_bytes : (front bytes : List ℕ) (whole rest count : ℕ) → front ≡ take whole bytes → 8 * whole + rest ≡ count
    → bitmap_bytes (bits_of front 0 (8 * whole)) ++ bitmap_bytes (bits_of bytes (8 * whole) rest) ≡ bitmap_bytes (bits_of bytes 0 count)
aligned_bytes front bytes whole rest count is all =
    let xs : List Bool = bits_of bytes 0 (8 * whole) in
    let ys : List Bool = bits_of bytes (0 + 8 * whole) rest in
    let many : length xs ≡ 8 * whole = length_window (bit_at bytes) 0 (8 * whole) in
    let first : bits_of front 0 (8 * whole) ≡ xs =
    ap (λ (part : List ℕ). bits_of part 0 (8 * whole)) is ∙ bits_of-take bytes whole (8 * whole) (omega arith) in
    let second : bits_of bytes (8 * whole) rest ≡ ys = ap (λ (k : ℕ). bits_of bytes k rest) (omega arith) in
    let both : xs ++ ys ≡ bits_of bytes 0 count = sym (window_append (bit_at bytes) 0 (8 * whole) rest) ∙ ap (bits_of bytes 0) all in
    ap₂ (λ (a b : List Bool). bitmap_bytes a ++ bitmap_bytes b) first second
    ∙ sym (bitmap_joined whole (length (xs ++ ys)) xs ys many (omega (arith, length-append xs ys)))
    ∙ ap bitmap_bytes both

-- the bits from a whole byte on are the first bits of the bytes from there on
pub bits_behind : (part bytes : List ℕ) (first count : ℕ) → part ≡ slice_range bytes (first / 8) (length bytes) → first % 8 ≡ 0
    → first + count ≤ 8 * length bytes → bits_of part 0 count ≡ bits_of bytes first count
bits_behind part bytes first count is aligned within =
    ap₂ (λ (xs : List ℕ) (k : ℕ). bits_of xs k count) is (sym aligned) ∙ bits_of-range bytes first count (length bytes) within

-- a part of some bits of bytes
pub part_of_bits : (bits : List Bool) (bytes : List ℕ) (start len first count : ℕ) → bits_of bytes start len ≡ bits → first + count ≤ len
    → bits_of bytes (start + first) count ≡ cut_list bits first count
part_of_bits bits bytes start len first count is within =
    sym (slice_range-window (bit_at bytes) start len first count within) ∙ ap (λ (xs : List Bool). cut_list xs first count) is
