-- A test that one of some elements passes.
use Rattle.std.proofs.Common.{◌≡◌, ◌∙◌, ℕ, zero, suc, ◌<◌, List, [], ◌∷◌, length, get_or, map, true, refl, sym, ap, arith}
use Rattle.std.specs.Prelude.{Bool, false}
use Rattle.std.specs.List.{list_any}

pub found : {A : Type 0} (test : A → Bool) (xs : List A) (i : ℕ) (x : A) → i < length xs → x ≡ get_or xs i x → test x ≡ true
    → list_any (λ here. here) (map test xs) ≡ true
found test [] i x lt is e = absurd (omega arith)
found test (y ∷ xs) zero x lt is e =
    let here : test y ≡ true = ap test (sym is) ∙ e in
    rw here refl
found test (y ∷ xs) (suc i) x lt is e = go (test y) (found test xs i x (omega arith) is e)
  where
    go : (b : Bool) → list_any (λ here. here) (map test xs) ≡ true → list_any (λ here. here) (b ∷ map test xs) ≡ true
    go true later = refl
    go false later = later
