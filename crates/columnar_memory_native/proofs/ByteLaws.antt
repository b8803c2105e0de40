-- What the value of some bytes is stored as are these bytes.
use Rattle.std.proofs.Common.{
  ◌≡◌,
  ◌∙◌,
  ℕ,
  zero,
  suc,
  ◌+◌,
  ◌*◌,
  ◌/◌,
  ◌%◌,
  ◌^◌,
  ◌<◌,
  Bool,
  true,
  false,
  List,
  [],
  ◌∷◌,
  ◌++◌,
  length,
  get_or,
  take,
  drop,
  refl,
  sym,
  ap,
  arith,
  lit<,
  append_assoc,
  length-drop,
}
use Rattle.std.specs.Prelude.{pos}
use Rattle.std.specs.Int.{Width, w8, w16, w32, w64, w128}
use Rattle.std.specs.Int.{to_le_bytes, to_be_bytes, from_le_bytes, from_be_bytes, byte_len}
use mir.Val.{bits}
use Rattle.std.proofs.lemmas.Nat.{div-mul-add, mod-mul-add}
use mathlib.Core.List.{reverse}
use Rattle.std.proofs.lemmas.Int.{of_z-to_z, ints}
use Rattle.std.proofs.lemmas.Bool.Decides.{nat_tests}
use Rattle.std.proofs.lemmas.List.{length-take-le, drop-drop}
use Rattle.std.proofs.lemmas.Nat.{le_bytes_2, le_bytes_4, le_bytes_8, be_bytes_2, be_bytes_4, be_bytes_8}
use Rattle.columnar_memory_types.specs.declared.kinds.PrimitiveType.{PrimitiveType}
use Rattle.columnar_memory_types.specs.declared.kinds.PrimitiveType.TheVariants as kinds
use Rattle.columnar_memory_native.specs.Numbers.{IsNative, kind_size, bytes_of}
use Rattle.columnar_memory_native.specs.Numbers.{number_bytes, numbers_in, unsigned_in, signed_in, wide_bits, wide_bytes, wide_in, wide_number}

AreBytes : List ℕ → Type 0
AreBytes bytes = (i : ℕ) → get_or bytes i 0 < 256

taken : (k : ℕ) (bytes : List ℕ) → AreBytes bytes → AreBytes (take k bytes)
unfolding AreBytes
taken zero bytes small i = lit< tt
taken (suc k) [] small i = lit< tt
taken (suc k) (b ∷ bytes) small zero = small 0
taken (suc k) (b ∷ bytes) small (suc i) = taken k bytes (λ j. small (suc j)) i

dropped : (k : ℕ) (bytes : List ℕ) → AreBytes bytes → AreBytes (drop k bytes)
unfolding AreBytes
dropped zero bytes small = small
dropped (suc k) [] small = λ i. lit< tt
dropped (suc k) (b ∷ bytes) small = dropped k bytes (λ j. small (suc j))

rejoined : (k : ℕ) (bytes : List ℕ) → take k bytes ++ drop k bytes ≡ bytes
rejoined zero bytes = refl
rejoined (suc k) [] = refl
rejoined (suc k) (b ∷ bytes) = ap (λ xs. b ∷ xs) (rejoined k bytes)

byte_at : (low p x high n : ℕ) → low < p → x < 256 → n ≡ (high * 256 + x) * p + low → n / p % 256 ≡ x
byte_at low p x high n below small is =
    ap (λ m. m / p % 256) is ∙ ap (λ m. m % 256) (div-mul-add (high * 256 + x) p low below) ∙ mod-mul-add high 256 x small

bytes_16 : (b0 b1 b2 b3 b4 b5 b6 b7 b8 b9 b10 b11 b12 b13 b14 b15 n : ℕ) → b0 < 256 → b1 < 256 → b2 < 256 → b3 < 256 → b4 < 256 → b5 < 256 → b6 <
    256 → b7 < 256 → b8 < 256 → b9 < 256 → b10 < 256 → b11 < 256 → b12 < 256 → b13 < 256 → b14 < 256 → b15 < 256
    → n ≡ b0 + b1 * 256 + b2 * 65536 + b3 * 16777216 + b4 * 4294967296 + b5 * 1099511627776 + b6 * 281474976710656 + b7 * 72057594037927936 + b8
    * 18446744073709551616 + b9 * 4722366482869645213696 + b10 * 1208925819614629174706176 + b11 * 309485009821345068724781056 + b12 *
    79228162514264337593543950336 + b13 * 20282409603651670423947251286016 + b14 * 5192296858534827628530496329220096 + b15 *
    1329227995784915872903807060280344576
    → (n % 256) ∷ (n / 256 % 256) ∷ (n / 65536 % 256) ∷ (n / 16777216 % 256) ∷ (n / 4294967296 % 256) ∷ (n / 1099511627776 % 256) ∷ (n /
    281474976710656 % 256) ∷ (n / 72057594037927936 % 256) ∷ (n / 18446744073709551616 % 256) ∷ (n / 4722366482869645213696 % 256) ∷ (n /
    1208925819614629174706176 % 256) ∷ (n / 309485009821345068724781056 % 256) ∷ (n / 79228162514264337593543950336 % 256) ∷ (n /
    20282409603651670423947251286016 % 256) ∷ (n / 5192296858534827628530496329220096 % 256) ∷ (n / 1329227995784915872903807060280344576 %
    256) ∷ [] ≡ b0 ∷ b1 ∷ b2 ∷ b3 ∷ b4 ∷ b5 ∷ b6 ∷ b7 ∷ b8 ∷ b9 ∷ b10 ∷ b11 ∷ b12 ∷ b13 ∷ b14 ∷ b15 ∷ []
bytes_16 b0 b1 b2 b3 b4 b5 b6 b7 b8 b9 b10 b11 b12 b13 b14 b15 n s0 s1 s2 s3 s4 s5 s6 s7 s8 s9 s10 s11 s12 s13 s14 s15 is =
    let split : n ≡ (b1 + b2 * 256 + b3 * 65536 + b4 * 16777216 + b5 * 4294967296 + b6 * 1099511627776 + b7 * 281474976710656 + b8 *
    72057594037927936 + b9 * 18446744073709551616 + b10 * 4722366482869645213696 + b11 * 1208925819614629174706176 + b12 *
    309485009821345068724781056 + b13 * 79228162514264337593543950336 + b14 * 20282409603651670423947251286016 + b15 *
    5192296858534827628530496329220096) * 256 + b0 = omega arith in
    let at0 : n % 256 ≡ b0 = ap (λ m. m % 256) split ∙ mod-mul-add (b1 + b2 * 256 + b3 * 65536 + b4 * 16777216 + b5 * 4294967296 + b6 *
    1099511627776 + b7 * 281474976710656 + b8 * 72057594037927936 + b9 * 18446744073709551616 + b10 * 4722366482869645213696 + b11 *
    1208925819614629174706176 + b12 * 309485009821345068724781056 + b13 * 79228162514264337593543950336 + b14 *
    20282409603651670423947251286016 + b15 * 5192296858534827628530496329220096) 256 b0 s0 in
    let at1 : n / 256 % 256 ≡ b1 = byte_at (b0) 256 b1 (b2 + b3 * 256 + b4 * 65536 + b5 * 16777216 + b6 * 4294967296 + b7 * 1099511627776 + b8 *
    281474976710656 + b9 * 72057594037927936 + b10 * 18446744073709551616 + b11 * 4722366482869645213696 + b12 * 1208925819614629174706176 +
    b13 * 309485009821345068724781056 + b14 * 79228162514264337593543950336 + b15 * 20282409603651670423947251286016) n (omega arith) s1
    (omega arith) in
    let at2 : n / 65536 % 256 ≡ b2 = byte_at (b0 + b1 * 256) 65536 b2 (b3 + b4 * 256 + b5 * 65536 + b6 * 16777216 + b7 * 4294967296 + b8 *
    1099511627776 + b9 * 281474976710656 + b10 * 72057594037927936 + b11 * 18446744073709551616 + b12 * 4722366482869645213696 + b13 *
    1208925819614629174706176 + b14 * 309485009821345068724781056 + b15 * 79228162514264337593543950336) n (omega arith) s2 (omega arith) in
    let at3 : n / 16777216 % 256 ≡ b3 = byte_at (b0 + b1 * 256 + b2 * 65536) 16777216 b3 (b4 + b5 * 256 + b6 * 65536 + b7 * 16777216 + b8 *
    4294967296 + b9 * 1099511627776 + b10 * 281474976710656 + b11 * 72057594037927936 + b12 * 18446744073709551616 + b13 *
    4722366482869645213696 + b14 * 1208925819614629174706176 + b15 * 309485009821345068724781056) n (omega arith) s3 (omega arith) in
    let at4 : n / 4294967296 % 256 ≡ b4 = byte_at (b0 + b1 * 256 + b2 * 65536 + b3 * 16777216) 4294967296 b4 (b5 + b6 * 256 + b7 * 65536 + b8 *
    16777216 + b9 * 4294967296 + b10 * 1099511627776 + b11 * 281474976710656 + b12 * 72057594037927936 + b13 * 18446744073709551616 + b14 *
    4722366482869645213696 + b15 * 1208925819614629174706176) n (omega arith) s4 (omega arith) in
    let at5 : n / 1099511627776 % 256 ≡ b5 = byte_at (b0 + b1 * 256 + b2 * 65536 + b3 * 16777216 + b4 * 4294967296) 1099511627776 b5 (b6 + b7 *
    256 + b8 * 65536 + b9 * 16777216 + b10 * 4294967296 + b11 * 1099511627776 + b12 * 281474976710656 + b13 * 72057594037927936 + b14 *
    18446744073709551616 + b15 * 4722366482869645213696) n (omega arith) s5 (omega arith) in
    let at6 : n / 281474976710656 % 256 ≡ b6 = byte_at (b0 + b1 * 256 + b2 * 65536 + b3 * 16777216 + b4 * 4294967296 + b5 * 1099511627776)
    281474976710656 b6 (b7 + b8 * 256 + b9 * 65536 + b10 * 16777216 + b11 * 4294967296 + b12 * 1099511627776 + b13 * 281474976710656 + b14 *
    72057594037927936 + b15 * 18446744073709551616) n (omega arith) s6 (omega arith) in
    let at7 : n / 72057594037927936 % 256 ≡ b7 = byte_at (b0 + b1 * 256 + b2 * 65536 + b3 * 16777216 + b4 * 4294967296 + b5 * 1099511627776 + b6
    * 281474976710656) 72057594037927936 b7 (b8 + b9 * 256 + b10 * 65536 + b11 * 16777216 + b12 * 4294967296 + b13 * 1099511627776 + b14 *
    281474976710656 + b15 * 72057594037927936) n (omega arith) s7 (omega arith) in
    let at8 : n / 18446744073709551616 % 256 ≡ b8 = byte_at (b0 + b1 * 256 + b2 * 65536 + b3 * 16777216 + b4 * 4294967296 + b5 * 1099511627776 +
    b6 * 281474976710656 + b7 * 72057594037927936) 18446744073709551616 b8 (b9 + b10 * 256 + b11 * 65536 + b12 * 16777216 + b13 * 4294967296
    + b14 * 1099511627776 + b15 * 281474976710656) n (omega arith) s8 (omega arith) in
    let at9 : n / 4722366482869645213696 % 256 ≡ b9 = byte_at (b0 + b1 * 256 + b2 * 65536 + b3 * 16777216 + b4 * 4294967296 + b5 * 1099511627776
    + b6 * 281474976710656 + b7 * 72057594037927936 + b8 * 18446744073709551616) 4722366482869645213696 b9 (b10 + b11 * 256 + b12 * 65536 +
    b13 * 16777216 + b14 * 4294967296 + b15 * 1099511627776) n (omega arith) s9 (omega arith) in
    let at10 : n / 1208925819614629174706176 % 256 ≡ b10 = byte_at (b0 + b1 * 256 + b2 * 65536 + b3 * 16777216 + b4 * 4294967296 + b5 *
    1099511627776 + b6 * 281474976710656 + b7 * 72057594037927936 + b8 * 18446744073709551616 + b9 * 4722366482869645213696)
    1208925819614629174706176 b10 (b11 + b12 * 256 + b13 * 65536 + b14 * 16777216 + b15 * 4294967296) n (omega arith) s10 (omega arith) in
    let at11 : n / 309485009821345068724781056 % 256 ≡ b11 = byte_at (b0 + b1 * 256 + b2 * 65536 + b3 * 16777216 + b4 * 4294967296 + b5 *
    1099511627776 + b6 * 281474976710656 + b7 * 72057594037927936 + b8 * 18446744073709551616 + b9 * 4722366482869645213696 + b10 *
    1208925819614629174706176) 309485009821345068724781056 b11 (b12 + b13 * 256 + b14 * 65536 + b15 * 16777216) n (omega arith) s11 (omega
    arith) in
    let at12 : n / 79228162514264337593543950336 % 256 ≡ b12 = byte_at (b0 + b1 * 256 + b2 * 65536 + b3 * 16777216 + b4 * 4294967296 + b5 *
    1099511627776 + b6 * 281474976710656 + b7 * 72057594037927936 + b8 * 18446744073709551616 + b9 * 4722366482869645213696 + b10 *
    1208925819614629174706176 + b11 * 309485009821345068724781056) 79228162514264337593543950336 b12 (b13 + b14 * 256 + b15 * 65536) n (omega
    arith) s12 (omega arith) in
    let at13 : n / 20282409603651670423947251286016 % 256 ≡ b13 = byte_at (b0 + b1 * 256 + b2 * 65536 + b3 * 16777216 + b4 * 4294967296 + b5 *
    1099511627776 + b6 * 281474976710656 + b7 * 72057594037927936 + b8 * 18446744073709551616 + b9 * 4722366482869645213696 + b10 *
    1208925819614629174706176 + b11 * 309485009821345068724781056 + b12 * 79228162514264337593543950336) 20282409603651670423947251286016 b13
    (b14 + b15 * 256) n (omega arith) s13 (omega arith) in
    let at14 : n / 5192296858534827628530496329220096 % 256 ≡ b14 = byte_at (b0 + b1 * 256 + b2 * 65536 + b3 * 16777216 + b4 * 4294967296 + b5 *
    1099511627776 + b6 * 281474976710656 + b7 * 72057594037927936 + b8 * 18446744073709551616 + b9 * 4722366482869645213696 + b10 *
    1208925819614629174706176 + b11 * 309485009821345068724781056 + b12 * 79228162514264337593543950336 + b13 *
    20282409603651670423947251286016) 5192296858534827628530496329220096 b14 (b15) n (omega arith) s14 (omega arith) in
    let at15 : n / 1329227995784915872903807060280344576 % 256 ≡ b15 = byte_at (b0 + b1 * 256 + b2 * 65536 + b3 * 16777216 + b4 * 4294967296 + b5
    * 1099511627776 + b6 * 281474976710656 + b7 * 72057594037927936 + b8 * 18446744073709551616 + b9 * 4722366482869645213696 + b10 *
    1208925819614629174706176 + b11 * 309485009821345068724781056 + b12 * 79228162514264337593543950336 + b13 *
    20282409603651670423947251286016 + b14 * 5192296858534827628530496329220096) 1329227995784915872903807060280344576 b15 (0) n (omega
    arith) s15 (omega arith) in
    λ i. at0 i ∷ at1 i ∷ at2 i ∷ at3 i ∷ at4 i ∷ at5 i ∷ at6 i ∷ at7 i ∷ at8 i ∷ at9 i ∷ at10 i ∷ at11 i ∷ at12 i ∷ at13 i ∷ at14 i ∷ at15 i ∷ []

written_16 : (bytes : List ℕ) → length bytes ≡ 16 → get_or bytes 0 0 ∷ get_or bytes 1 0 ∷ get_or bytes 2 0 ∷ get_or bytes 3 0 ∷ get_or bytes 4 0
    ∷ get_or bytes 5 0 ∷ get_or bytes 6 0 ∷ get_or bytes 7 0 ∷ get_or bytes 8 0 ∷ get_or bytes 9 0 ∷ get_or bytes 10 0 ∷ get_or bytes 11 0 ∷
    get_or bytes 12 0 ∷ get_or bytes 13 0 ∷ get_or bytes 14 0 ∷ get_or bytes 15 0 ∷ [] ≡ bytes
written_16 ([]) l = absurd (omega arith)
written_16 (b0 ∷ []) l = absurd (omega arith)
written_16 (b0 ∷ b1 ∷ []) l = absurd (omega arith)
written_16 (b0 ∷ b1 ∷ b2 ∷ []) l = absurd (omega arith)
written_16 (b0 ∷ b1 ∷ b2 ∷ b3 ∷ []) l = absurd (omega arith)
written_16 (b0 ∷ b1 ∷ b2 ∷ b3 ∷ b4 ∷ []) l = absurd (omega arith)
written_16 (b0 ∷ b1 ∷ b2 ∷ b3 ∷ b4 ∷ b5 ∷ []) l = absurd (omega arith)
written_16 (b0 ∷ b1 ∷ b2 ∷ b3 ∷ b4 ∷ b5 ∷ b6 ∷ []) l = absurd (omega arith)
written_16 (b0 ∷ b1 ∷ b2 ∷ b3 ∷ b4 ∷ b5 ∷ b6 ∷ b7 ∷ []) l = absurd (omega arith)
written_16 (b0 ∷ b1 ∷ b2 ∷ b3 ∷ b4 ∷ b5 ∷ b6 ∷ b7 ∷ b8 ∷ []) l = absurd (omega arith)
written_16 (b0 ∷ b1 ∷ b2 ∷ b3 ∷ b4 ∷ b5 ∷ b6 ∷ b7 ∷ b8 ∷ b9 ∷ []) l = absurd (omega arith)
written_16 (b0 ∷ b1 ∷ b2 ∷ b3 ∷ b4 ∷ b5 ∷ b6 ∷ b7 ∷ b8 ∷ b9 ∷ b10 ∷ []) l = absurd (omega arith)
written_16 (b0 ∷ b1 ∷ b2 ∷ b3 ∷ b4 ∷ b5 ∷ b6 ∷ b7 ∷ b8 ∷ b9 ∷ b10 ∷ b11 ∷ []) l = absurd (omega arith)
written_16 (b0 ∷ b1 ∷ b2 ∷ b3 ∷ b4 ∷ b5 ∷ b6 ∷ b7 ∷ b8 ∷ b9 ∷ b10 ∷ b11 ∷ b12 ∷ []) l = absurd (omega arith)
written_16 (b0 ∷ b1 ∷ b2 ∷ b3 ∷ b4 ∷ b5 ∷ b6 ∷ b7 ∷ b8 ∷ b9 ∷ b10 ∷ b11 ∷ b12 ∷ b13 ∷ []) l = absurd (omega arith)
written_16 (b0 ∷ b1 ∷ b2 ∷ b3 ∷ b4 ∷ b5 ∷ b6 ∷ b7 ∷ b8 ∷ b9 ∷ b10 ∷ b11 ∷ b12 ∷ b13 ∷ b14 ∷ []) l = absurd (omega arith)
written_16 (b0 ∷ b1 ∷ b2 ∷ b3 ∷ b4 ∷ b5 ∷ b6 ∷ b7 ∷ b8 ∷ b9 ∷ b10 ∷ b11 ∷ b12 ∷ b13 ∷ b14 ∷ b15 ∷ []) l = refl
written_16 (b0 ∷ b1 ∷ b2 ∷ b3 ∷ b4 ∷ b5 ∷ b6 ∷ b7 ∷ b8 ∷ b9 ∷ b10 ∷ b11 ∷ b12 ∷ b13 ∷ b14 ∷ b15 ∷ c ∷ bytes) l = absurd (omega arith)

le_bytes_16 : (bytes : List ℕ) (n : ℕ) → length bytes ≡ 16 → ((i : ℕ) → get_or bytes i 0 < 256) → n ≡ from_le_bytes w128 bytes
    → to_le_bytes w128 n ≡ bytes
le_bytes_16 bytes n l small is =
    bytes_16 _ _ _ _ _ _ _ _ _ _ _ _ _ _ _ _ n
    (small 0) (small 1) (small 2) (small 3) (small 4) (small 5) (small 6) (small 7) (small 8) (small 9) (small 10) (small 11) (small 12) (small
    13) (small 14) (small 15) is ∙ written_16 bytes l

be_bytes_16 : (bytes : List ℕ) (n : ℕ) → length bytes ≡ 16 → ((i : ℕ) → get_or bytes i 0 < 256) → n ≡ from_be_bytes w128 bytes
    → to_be_bytes w128 n ≡ bytes
be_bytes_16 bytes n l small is =
    ap reverse (bytes_16 (get_or bytes 15 0) (get_or bytes 14 0) (get_or bytes 13 0) (get_or bytes 12 0) (get_or bytes 11 0) (get_or bytes 10 0)
    (get_or bytes 9 0) (get_or bytes 8 0) (get_or bytes 7 0) (get_or bytes 6 0) (get_or bytes 5 0) (get_or bytes 4 0) (get_or bytes 3 0)
    (get_or bytes 2 0) (get_or bytes 1 0) (get_or bytes 0 0) n
    (small 15) (small 14) (small 13) (small 12) (small 11) (small 10) (small 9) (small 8) (small 7) (small 6) (small 5) (small 4) (small 3)
    (small 2) (small 1) (small 0) (omega arith)) ∙ written_16 bytes l

-- the number that as many bytes as a width has spell fits it
unsigned_in-fits : (little : Bool) (w : Width) (bytes : List ℕ) → AreBytes bytes → unsigned_in little w bytes < 2 ^ bits w
unfolding AreBytes
unsigned_in-fits true w8 bytes small = omega (arith, small 0)
unsigned_in-fits true w16 bytes small = omega (arith, small 0, small 1)
unsigned_in-fits true w32 bytes small = omega (arith, small 0, small 1, small 2, small 3)
unsigned_in-fits true w64 bytes small = omega (arith, small 0, small 1, small 2, small 3, small 4, small 5, small 6, small 7)
unsigned_in-fits true w128 bytes small = omega (
  arith,
  small 0,
  small 1,
  small 2,
  small 3,
  small 4,
  small 5,
  small 6,
  small 7,
  small 8,
  small 9,
  small 10,
  small 11,
  small 12,
  small 13,
  small 14,
  small 15,
)
unsigned_in-fits false w8 bytes small = omega (arith, small 0)
unsigned_in-fits false w16 bytes small = omega (arith, small 0, small 1)
unsigned_in-fits false w32 bytes small = omega (arith, small 0, small 1, small 2, small 3)
unsigned_in-fits false w64 bytes small = omega (arith, small 0, small 1, small 2, small 3, small 4, small 5, small 6, small 7)
unsigned_in-fits false w128 bytes small = omega (
  arith,
  small 0,
  small 1,
  small 2,
  small 3,
  small 4,
  small 5,
  small 6,
  small 7,
  small 8,
  small 9,
  small 10,
  small 11,
  small 12,
  small 13,
  small 14,
  small 15,
)

one_byte : (bytes : List ℕ) → length bytes ≡ 1 → get_or bytes 0 0 < 256 → (get_or bytes 0 0 % 256) ∷ [] ≡ bytes
one_byte [] l small = absurd (omega arith)
one_byte (a ∷ []) l small =
    let same : a % 256 ≡ a = omega arith in
    ap (λ b. b ∷ []) same
one_byte (a ∷ b ∷ bytes) l small = absurd (omega arith)

-- it is written as these bytes
number_bytes-unsigned_in : (little : Bool) (w : Width) (bytes : List ℕ) → length bytes ≡ byte_len w → AreBytes bytes
    → number_bytes little w (pos (unsigned_in little w bytes)) ≡ bytes
unfolding AreBytes
number_bytes-unsigned_in true w8 bytes l small = one_byte bytes l (small 0)
number_bytes-unsigned_in true w16 bytes l small = le_bytes_2 bytes _ l small refl
number_bytes-unsigned_in true w32 bytes l small = le_bytes_4 bytes _ l small refl
number_bytes-unsigned_in true w64 bytes l small = le_bytes_8 bytes _ l small refl
number_bytes-unsigned_in true w128 bytes l small = le_bytes_16 bytes _ l small refl
number_bytes-unsigned_in false w8 bytes l small = one_byte bytes l (small 0)
number_bytes-unsigned_in false w16 bytes l small = be_bytes_2 bytes _ l small refl
number_bytes-unsigned_in false w32 bytes l small = be_bytes_4 bytes _ l small refl
number_bytes-unsigned_in false w64 bytes l small = be_bytes_8 bytes _ l small refl
number_bytes-unsigned_in false w128 bytes l small = be_bytes_16 bytes _ l small refl

-- so is the same in two's complement
number_bytes-signed_in : (little : Bool) (w : Width) (bytes : List ℕ) → length bytes ≡ byte_len w → AreBytes bytes
    → number_bytes little w (signed_in little w bytes) ≡ bytes
number_bytes-signed_in true w bytes l small =
    ap (to_le_bytes w) (of_z-to_z w (from_le_bytes w bytes) (unsigned_in-fits true w bytes small)) ∙ number_bytes-unsigned_in true w bytes l small
number_bytes-signed_in false w bytes l small =
    ap (to_be_bytes w) (of_z-to_z w (from_be_bytes w bytes) (unsigned_in-fits false w bytes small)) ∙ number_bytes-unsigned_in false w bytes l small

wide_bits-wide_number : (n : ℕ) → n < 2 ^ 256 → wide_bits (wide_number n) ≡ n
wide_bits-wide_number n fits = grind (arith, nat_tests, ints)

split_low : (low high : ℕ) → low < 2 ^ 128 → (low + 2 ^ 128 * high) % 2 ^ 128 ≡ low
split_low low high fits = omega arith

split_high : (low high : ℕ) → low < 2 ^ 128 → (low + 2 ^ 128 * high) / 2 ^ 128 ≡ high
split_high low high fits = omega arith

-- two words of bytes
wide_bytes-wide_in : (little : Bool) (bytes : List ℕ) → length bytes ≡ 32 → AreBytes bytes → wide_bytes little (wide_in little bytes) ≡ bytes
wide_bytes-wide_in true bytes l small =
    let first : length (take 16 bytes) ≡ 16 = length-take-le 16 bytes (omega arith) in
    let second : length (drop 16 bytes) ≡ 16 = omega (arith, length-drop 16 bytes) in
    let low = unsigned_in-fits true w128 (take 16 bytes) (taken 16 bytes small) in
    (λ i. to_le_bytes w128 (split_low _ (from_le_bytes w128 (drop 16 bytes)) low i) ++ to_le_bytes w128 (split_high _ (from_le_bytes w128 (drop
    16 bytes)) low i))
    ∙ (λ i. number_bytes-unsigned_in true w128 (take 16 bytes) first (taken 16 bytes small) i
    ++ number_bytes-unsigned_in true w128 (drop 16 bytes) second (dropped 16 bytes small) i)
    ∙ rejoined 16 bytes
wide_bytes-wide_in false bytes l small =
    let first : length (take 16 bytes) ≡ 16 = length-take-le 16 bytes (omega arith) in
    let second : length (drop 16 bytes) ≡ 16 = omega (arith, length-drop 16 bytes) in
    let low = unsigned_in-fits false w128 (drop 16 bytes) (dropped 16 bytes small) in
    (λ i. to_be_bytes w128 (split_high _ (from_be_bytes w128 (take 16 bytes)) low i) ++ to_be_bytes w128 (split_low _ (from_be_bytes w128 (take
    16 bytes)) low i))
    ∙ (λ i. number_bytes-unsigned_in false w128 (take 16 bytes) first (taken 16 bytes small) i
    ++ number_bytes-unsigned_in false w128 (drop 16 bytes) second (dropped 16 bytes small) i)
    ∙ rejoined 16 bytes

wide_in-fits : (little : Bool) (bytes : List ℕ) → AreBytes bytes → wide_in little bytes < 2 ^ 256
wide_in-fits true bytes small =
    omega (
      arith,
      unsigned_in-fits true w128 (take 16 bytes) (taken 16 bytes small),
      unsigned_in-fits true w128 (drop 16 bytes) (dropped 16 bytes
          small),
    )
wide_in-fits false bytes small =
    omega (
      arith,
      unsigned_in-fits false w128 (take 16 bytes) (taken 16 bytes small),
      unsigned_in-fits false w128 (drop 16 bytes) (dropped 16
          bytes small),
    )

two_parts : (little : Bool) (bytes : List ℕ) → length bytes ≡ 8 → AreBytes bytes
    → number_bytes little w32 (signed_in little w32 (take 4 bytes)) ++ number_bytes little w32 (signed_in little w32 (drop 4 bytes)) ≡ bytes
two_parts little bytes l small =
    let first : length (take 4 bytes) ≡ 4 = length-take-le 4 bytes (omega arith) in
    let second : length (drop 4 bytes) ≡ 4 = omega (arith, length-drop 4 bytes) in
    (λ i. number_bytes-signed_in little w32 (take 4 bytes) first (taken 4 bytes small) i
    ++ number_bytes-signed_in little w32 (drop 4 bytes) second (dropped 4 bytes small) i)
    ∙ rejoined 4 bytes

three_parts : (little : Bool) (bytes : List ℕ) → length bytes ≡ 16 → AreBytes bytes
    → number_bytes little w32 (signed_in little w32 (take 4 bytes)) ++ number_bytes little w32 (signed_in little w32 (take 4 (drop 4 bytes)))
    ++ number_bytes little w64 (signed_in little w64 (drop 8 bytes)) ≡ bytes
three_parts little bytes l small =
    let behind : length (drop 4 bytes) ≡ 12 = omega (arith, length-drop 4 bytes) in
    let first : length (take 4 bytes) ≡ 4 = length-take-le 4 bytes (omega arith) in
    let second : length (take 4 (drop 4 bytes)) ≡ 4 = length-take-le 4 (drop 4 bytes) (omega arith) in
    let third : length (drop 8 bytes) ≡ 8 = omega (arith, length-drop 8 bytes) in
    (λ i. number_bytes-signed_in little w32 (take 4 bytes) first (taken 4 bytes small) i
    ++ number_bytes-signed_in little w32 (take 4 (drop 4 bytes)) second (taken 4 (drop 4 bytes) (dropped 4 bytes small)) i
    ++ number_bytes-signed_in little w64 (drop 8 bytes) third (dropped 8 bytes small) i)
    ∙ ap (λ xs. take 4 bytes ++ take 4 (drop 4 bytes) ++ xs) (sym (drop-drop 4 4 bytes))
    ∙ append_assoc (take 4 bytes) (take 4 (drop 4 bytes)) (drop 4 (drop 4 bytes))
    ∙ ap (λ xs. take 4 bytes ++ xs) (rejoined 4 (drop 4 bytes)) ∙ rejoined 4 bytes

-- the value that some bytes spell is stored as these bytes
pub bytes_of-numbers_in : (kind : PrimitiveType) (little : Bool) (bytes : List ℕ) → IsNative kind (numbers_in kind little bytes)
    → length bytes ≡ kind_size kind → ((i : ℕ) → get_or bytes i 0 < 256) → bytes_of kind little (numbers_in kind little bytes) ≡ bytes
unfolding AreBytes
bytes_of-numbers_in kinds.Int8 little bytes native l small = number_bytes-signed_in little w8 bytes l small
bytes_of-numbers_in kinds.Int16 little bytes native l small = number_bytes-signed_in little w16 bytes l small
bytes_of-numbers_in kinds.Int32 little bytes native l small = number_bytes-signed_in little w32 bytes l small
bytes_of-numbers_in kinds.Int64 little bytes native l small = number_bytes-signed_in little w64 bytes l small
bytes_of-numbers_in kinds.Int128 little bytes native l small = number_bytes-signed_in little w128 bytes l small
bytes_of-numbers_in kinds.Int256 little bytes native l small =
    ap (wide_bytes little) (wide_bits-wide_number (wide_in little bytes) (wide_in-fits little bytes small)) ∙ wide_bytes-wide_in little bytes l
    small
bytes_of-numbers_in kinds.UInt8 little bytes native l small = number_bytes-unsigned_in little w8 bytes l small
bytes_of-numbers_in kinds.UInt16 little bytes native l small = number_bytes-unsigned_in little w16 bytes l small
bytes_of-numbers_in kinds.UInt32 little bytes native l small = number_bytes-unsigned_in little w32 bytes l small
bytes_of-numbers_in kinds.UInt64 little bytes native l small = number_bytes-unsigned_in little w64 bytes l small
bytes_of-numbers_in kinds.DaysMs little bytes native l small = two_parts little bytes l small
bytes_of-numbers_in kinds.MonthDayNano little bytes native l small = three_parts little bytes l small
bytes_of-numbers_in kinds.Float16 little bytes native l small = absurd native
bytes_of-numbers_in kinds.Float32 little bytes native l small = absurd native
bytes_of-numbers_in kinds.Float64 little bytes native l small = absurd native
