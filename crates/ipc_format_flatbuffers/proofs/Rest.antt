-- What is left of a list that a loop goes over.
use Rattle.std.proofs.Common.{◌≡◌, ℕ, ◌+◌, ◌≤◌, ◌<◌, List, [], ◌∷◌, ◌++◌, length, get_or, map, drop, sym, ap, ◌∙◌, append_assoc, add-one}
use Rattle.std.proofs.lemmas.List.{drop-map, length-map}
use Rattle.std.proofs.Math.Seq.{drop-cons}
use Rattle.std.proofs.Math.ListN.{drop_of_length-le}

-- what is left of a list under a function, with the element that is taken next
pub rest_step : {A B : Type 0} (f : A → B) (xs : List A) (i : ℕ) (x : A) → i < length xs → x ≡ get_or xs i x
    → drop i (map f xs) ≡ f x ∷ drop (i + 1) (map f xs)
rest_step f xs i x lt is =
    let one : drop i xs ≡ get_or xs i x ∷ drop (i + 1) xs = rw add-one (drop-cons xs i x lt) in
    let two : drop i xs ≡ x ∷ drop (i + 1) xs = one ∙ ap (λ y. y ∷ drop (i + 1) xs) (sym is) in
    drop-map f i xs ∙ ap (map f) two ∙ ap (λ ys. f x ∷ ys) (sym (drop-map f (i + 1) xs))

-- nothing is left at the end
pub rest_end : {A B : Type 0} (f : A → B) (xs : List A) (i : ℕ) → length xs ≤ i → drop i (map f xs) ≡ []
rest_end f xs i h = drop_of_length-le (map f xs) (rw length-map h)

-- what was written with what is still to be written, after one more part
pub append_step : (out new part rest total : List ℕ) → new ≡ out ++ part → out ++ (part ++ rest) ≡ total → new ++ rest ≡ total
append_step out new part rest total e h = rw e (append_assoc out part rest ∙ h)

-- three parts written one after the other, of which the first two are one thing
pub three_written : (out a b z o1 o2 o3 : List ℕ) → o1 ≡ out ++ a → o2 ≡ o1 ++ b → o3 ≡ o2 ++ z → o3 ≡ out ++ ((a ++ b) ++ z)
three_written out a b z o1 o2 o3 e1 e2 e3 = rw (e3, e2, e1) (simp append_assoc)

-- four parts written one after the other, of which the first three are one thing
pub four_written : (out a b c z o1 o2 o3 o4 : List ℕ) → o1 ≡ out ++ a → o2 ≡ o1 ++ b → o3 ≡ o2 ++ c → o4 ≡ o3 ++ z → o4 ≡ out ++ ((a ++ b ++ c) ++ z)
four_written out a b c z o1 o2 o3 o4 e1 e2 e3 e4 = rw (e4, e3, e2, e1) (simp append_assoc)
