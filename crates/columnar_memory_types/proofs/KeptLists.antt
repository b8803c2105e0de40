-- A loop that keeps some items of a list, one after another.
use Rattle.std.proofs.Common.{◌≡◌, ◌+◌, ◌++◌, ◌∙◌, ℕ, Bool, true, false, List, [], ◌∷◌, refl, sym, ap, subst, append_assoc}
use Rattle.std.specs.Prelude.{if◌then◌else◌}
use Rattle.std.proofs.lemmas.List.{append-nil}
use Rattle.columnar_memory_types.specs.Kept.{KeptFrom}

-- one item more, which was tested at its place
pub KeptFrom-turn : {A : Type 0} (gives : ℕ → A → Bool → Type 0) (all kept kept' rest rest' : List A) (k : ℕ) (x : A) (b : Bool)
    → rest ≡ x ∷ rest' → gives k x b → kept' ≡ kept ++ (if b then x ∷ [] else [])
    → ((tail : List A) → KeptFrom gives k rest tail → KeptFrom gives 0 all (kept ++ tail))
    → (tail : List A) → KeptFrom gives (k + 1) rest' tail → KeptFrom gives 0 all (kept' ++ tail)
KeptFrom-turn {A} gives all kept kept' rest rest' k x true is gave new so_far tail later =
    let here : KeptFrom gives k (x ∷ rest') (x ∷ tail) = (true, tail, gave, refl, later) in
    let now : KeptFrom gives 0 all (kept ++ x ∷ tail) =
    so_far (x ∷ tail) (subst (λ (xs : List A). KeptFrom gives k xs (x ∷ tail)) (sym is) here) in
    subst (KeptFrom gives 0 all) (sym (append_assoc kept (x ∷ []) tail) ∙ ap (λ xs. xs ++ tail) (sym new)) now
KeptFrom-turn {A} gives all kept kept' rest rest' k x false is gave new so_far tail later =
    let here : KeptFrom gives k (x ∷ rest') tail = (false, tail, gave, refl, later) in
    let now : KeptFrom gives 0 all (kept ++ tail) =
    so_far tail (subst (λ (xs : List A). KeptFrom gives k xs tail) (sym is) here) in
    subst (KeptFrom gives 0 all) (ap (λ xs. xs ++ tail) (sym (new ∙ append-nil kept))) now

-- no item is left
pub KeptFrom-end : {A : Type 0} (gives : ℕ → A → Bool → Type 0) (all kept rest : List A) (k : ℕ) → rest ≡ []
    → ((tail : List A) → KeptFrom gives k rest tail → KeptFrom gives 0 all (kept ++ tail)) → KeptFrom gives 0 all kept
KeptFrom-end {A} gives all kept rest k none so_far =
    subst (KeptFrom gives 0 all) (append-nil kept) (so_far [] (subst (λ (xs : List A). KeptFrom gives k xs []) (sym none) refl))
