-- Ranges of ranges of bits.
use Rattle.std.proofs.Common.{◌≡◌, ◌∙◌, ℕ, ◌+◌, ◌-◌, ◌≤◌, Bool, List, take, drop, refl, sym, ap, arith}
use Rattle.std.specs.Prelude.{slice_range}
use Rattle.std.proofs.lemmas.List.{take-take, drop-drop, drop-take}

-- a range by its first place and its length
range-at : (bits : List Bool) (a n : ℕ) → slice_range bits a (a + n) ≡ take n (drop a bits)
range-at bits a n =
    let width : a + n - a ≡ n = omega arith in
    ap (λ k. take k (drop a bits)) width

parts_join-plus : (bits : List Bool) (a b k m : ℕ) → m ≤ k → take m (drop b (take (b + k) (drop a bits))) ≡ take m (drop (a + b) bits)
parts_join-plus bits a b k m h = rw (drop-take b k (drop a bits), take-take m k (drop b (drop a bits)) h, drop-drop b a bits) refl

parts_join : (bits : List Bool) (a n b m : ℕ) → b + m ≤ n → take m (drop b (take n (drop a bits))) ≡ take m (drop (a + b) bits)
parts_join bits a n b m h =
    let e : n ≡ b + (n - b) = omega arith in
    let le : m ≤ n - b = omega arith in
    rw e (parts_join-plus bits a b (n - b) m le)

-- a range of a range is one range
pub ranges_join : (bits : List Bool) (a n b m : ℕ) → b + m ≤ n
    → slice_range (slice_range bits a (a + n)) b (b + m) ≡ slice_range bits (a + b) (a + b + m)
ranges_join bits a n b m h =
    range-at (slice_range bits a (a + n)) b m ∙ ap (λ xs. take m (drop b xs)) (range-at bits a n) ∙ parts_join bits a n b m h
    ∙ sym (range-at bits (a + b) m)
