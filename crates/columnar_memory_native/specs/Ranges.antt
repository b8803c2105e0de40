-- Integers one after another.
use Rattle.std.specs.Prelude.{◌≡◌, ◌+ℤ◌, ◌-◌, ◌≢◌, ℕ, suc, zero, ℤ, pos, List, [], ◌∷◌, length}
use Rattle.std.proofs.Common.{refl, sym, ap, arith}

-- the first n integers from this one on
abbrev pub integers : ℤ → ℕ → List ℤ
integers first zero = []
integers first (suc n) = first ∷ integers (first +ℤ pos 1) n

-- the integers from a first one up to an end that is not among them
abbrev pub SpansTo : ℤ → ℤ → List ℤ → Type 0
SpansTo first end xs = (n : ℕ) × (end ≡ first +ℤ pos n) × (xs ≡ integers first n)

pub length-integers : (first : ℤ) (n : ℕ) → length (integers first n) ≡ n
length-integers first zero = refl
length-integers first (suc n) = ap suc (length-integers (first +ℤ pos 1) n)

pub integers-next : (first next : ℤ) (n : ℕ) → n ≢ 0 → next ≡ first +ℤ pos 1 → integers first n ≡ first ∷ integers next (n - 1)
integers-next first next zero some is = absurd (some refl)
integers-next first next (suc n) some is =
    let rest : n ≡ suc n - 1 = omega arith in
    λ i. first ∷ integers (sym is i) (rest i)
