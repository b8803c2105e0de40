-- How much of the room for values each of them takes.
use Rattle.std.proofs.Common.{◌≡◌, ◌+◌, ◌*◌, ◌<◌, ◌≤◌, ℕ, suc, zero, arith}
use Rattle.std.proofs.Math.Nat.{suc-mul}

-- as many bytes as one value takes lie below those of all values
pub room_for_one : (i n size : ℕ) → i < n → i * size + size ≤ n * size
room_for_one i zero size inside = absurd (omega arith)
room_for_one zero (suc n) size inside =
    let more : suc n * size ≡ n * size + size = suc-mul n size in
    omega arith
room_for_one (suc i) (suc n) size inside =
    let below : i * size + size ≤ n * size = room_for_one i n size (omega arith) in
    let more : suc n * size ≡ n * size + size = suc-mul n size in
    let less : suc i * size ≡ i * size + size = suc-mul i size in
    omega arith

-- the bytes of one value more
pub one_value_more : (i size : ℕ) → i * size + size ≡ (i + 1) * size
one_value_more i size =
    let more : suc i * size ≡ i * size + size = suc-mul i size in
    let next : i + 1 ≡ suc i = omega arith in
    omega arith
