-- The sum of the lengths that buffers state, one after another.
use Rattle.std.proofs.Common.{◌≡◌, ◌∙◌, ℕ, suc, ◌+◌, ◌-◌, ◌*◌, ◌≤◌, ◌<◌, ◌^◌, List, true, refl, sym, ap, arith, zero-add, add-zero, rules, nat_lt}
use Rattle.std.specs.Prelude.{Option, Some, None}
use Rattle.std.specs.Option.{option_map}
use Rattle.ipc_format_metadata.specs.flatbuffers.Reading.{◌>>=◌}
use Rattle.ipc_format_metadata.specs.flatbuffers.FlatBuffers.{Vector}
use Rattle.ipc_format_metadata.specs.grammar.Messages.{Pair, pair_at, struct_at, natural, lengths_from, lengths_sum}
use Rattle.ipc_format_messages.specs.BufferLengths.{length_at, IsNoneOrLong}

-- what m buffers state together, from buffer k on
unfoldable pub lengths_left : List ℕ → Vector → ℕ → ℕ → Option ℕ
lengths_left bytes v k m = lengths_from bytes (v.place + 16 * k) m

-- what was added of the first k buffers, and what is left to add from buffer k on, make the sum
abbrev pub IsLeft : List ℕ → Vector → ℕ → ℕ → Type 0
IsLeft bytes v sum k = (m : ℕ) → k + m ≡ v.count → lengths_sum bytes v ≡ option_map (λ n. sum + n) (lengths_left bytes v k m)

plus-zero : (x : Option ℕ) → option_map (λ n. 0 + n) x ≡ x
plus-zero None = refl
plus-zero (Some n) = ap Some (zero-add n)

pub sum-init : (bytes : List ℕ) (v : Vector) → IsLeft bytes v 0 0
unfolding lengths_sum lengths_left
sum-init bytes v m e =
    let all : m ≡ v.count = omega arith in
    let here : v.place + 16 * 0 ≡ v.place = omega arith in
    rw (all, here) (sym (plus-zero (lengths_from bytes v.place v.count)))

-- two ways to add what comes next
next-same : (p : Option Pair) (rest : Option ℕ) → (p >>= (λ b. natural b.second >>= (λ length. rest >>= (λ others. Some (length + others)))))
    ≡ ((p >>= (λ b. natural b.second)) >>= (λ length. rest >>= (λ others. Some (length + others))))
next-same None rest = refl
next-same (Some p) rest = refl

-- the next buffer's length, and those behind it
length-next : (bytes : List ℕ) (v : Vector) (k m : ℕ) → k < v.count → lengths_left bytes v k (suc m)
    ≡ (length_at bytes v k >>= (λ length. lengths_left bytes v (k + 1) m >>= (λ others. Some (length + others))))
unfolding length_at struct_at lengths_left
length-next bytes v k m h =
    let is : nat_lt k v.count ≡ true = search (rules, h) in
    let next : v.place + 16 * (k + 1) ≡ v.place + 16 * k + 16 = omega arith in
    rw (is, next) (next-same (pair_at bytes (v.place + 16 * k)) (lengths_from bytes (v.place + 16 * k + 16) m))

-- where the next buffer states no length, there is no sum
pub sum-none : (bytes : List ℕ) (v : Vector) (sum k : ℕ) → k < v.count → length_at bytes v k ≡ None → IsLeft bytes v sum k
    → lengths_sum bytes v ≡ None
sum-none bytes v sum k h none left =
    let m = v.count - k - 1 in
    let e : k + suc m ≡ v.count = omega arith in
    let next : lengths_left bytes v k (suc m) ≡ None = length-next bytes v k m h
    ∙ ap (λ (x : Option ℕ). x >>= (λ length. lengths_left bytes v (k + 1) m >>= (λ others. Some (length + others)))) none in
    left (suc m) e ∙ ap (λ (x : Option ℕ). option_map (λ n. sum + n) x) next

plus-plus : (sum length : ℕ) (rest : Option ℕ) → option_map (λ n. sum + n) (rest >>= (λ others. Some (length + others)))
    ≡ option_map (λ n. sum + length + n) rest
plus-plus sum length None = refl
plus-plus sum length (Some n) = let e : sum + (length + n) ≡ sum + length + n = omega arith in ap Some e

-- a length that is added
pub sum-next : (bytes : List ℕ) (v : Vector) (sum k length : ℕ) → k < v.count → length_at bytes v k ≡ Some length → IsLeft bytes v sum k
    → IsLeft bytes v (sum + length) (k + 1)
sum-next bytes v sum k length h is left m e =
    let e2 : k + suc m ≡ v.count = omega arith in
    let next : lengths_left bytes v k (suc m) ≡ (lengths_left bytes v (k + 1) m >>= (λ others. Some (length + others))) =
    length-next bytes v k m h ∙ ap (λ (x : Option ℕ). x >>= (λ length. lengths_left bytes v (k + 1) m >>= (λ others. Some (length + others))))
    is in
    left (suc m) e2 ∙ ap (λ (x : Option ℕ). option_map (λ n. sum + n) x) next ∙ plus-plus sum length (lengths_left bytes v (k + 1) m)

at-least : (sum n : ℕ) (rest : Option ℕ) → option_map (λ n. sum + n) rest ≡ Some n → sum ≤ n
at-least sum n None e = absurd cc
at-least sum n (Some others) e = let same : sum + others ≡ n = cc in omega arith

-- a length that makes the sum too long
pub sum-long : (bytes : List ℕ) (v : Vector) (sum k length : ℕ) → k < v.count → length_at bytes v k ≡ Some length → 2 ^ 64 ≤ sum + length
    → IsLeft bytes v sum k → IsNoneOrLong (lengths_sum bytes v)
sum-long bytes v sum k length h is long left n e =
    let m = v.count - k - 1 in
    let e2 : k + 1 + m ≡ v.count = omega arith in
    let least : sum + length ≤ n =
    at-least (sum + length) n (lengths_left bytes v (k + 1) m) (sym (sum-next bytes v sum k length h is left m e2) ∙ e) in
    omega arith

-- all lengths are added
pub sum-done : (bytes : List ℕ) (v : Vector) (sum k : ℕ) → k ≡ v.count → IsLeft bytes v sum k → lengths_sum bytes v ≡ Some sum
unfolding lengths_left
sum-done bytes v sum k done left =
    let e : k + 0 ≡ v.count = omega arith in
    left 0 e ∙ ap Some (add-zero sum)

-- no sum
pub none-or-long : (x : Option ℕ) → x ≡ None → IsNoneOrLong x
none-or-long x none n e = absurd cc
