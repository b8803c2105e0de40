-- The reports of some fields and one more, whose counts stop at one more than the most.
use Rattle.std.proofs.Common.{◌≡◌, ◌∙◌, ◌+◌, List, [], ◌∷◌, ◌++◌, Bool, true, false, refl, sym, ap, arith}
use Rattle.std.specs.Prelude.{◌&&◌, min, max, sum_by}
use Rattle.std.specs.List.{list_all}
use Rattle.std.proofs.lemmas.List.Folds.{list_all-append}
use Rattle.std.proofs.lemmas.List.Sums.{sum_by-append}
use Rattle.ipc_format_grammar.specs.Writable.{Report, plain, over_all, deepest}
use Rattle.ipc_format_metadata.specs.Reports.{capped, joined_reports}

capped-joined : (a c : Report) → capped (joined_reports (capped a) (capped c)) ≡ capped (joined_reports a c)
capped-joined a c =
    let levels : min (max (min a.levels 65) (min c.levels 65 + 1)) 65 ≡ min (max a.levels (c.levels + 1)) 65 = omega arith in
    let dictionaries : min (min a.dictionaries 65537 + min c.dictionaries 65537) 65537 ≡ min (a.dictionaries + c.dictionaries) 65537 = omega arith in
    λ i. record { is_allowed = a.is_allowed && c.is_allowed; levels = levels i; dictionaries = dictionaries i; shape = plain }

deepest-append : (xs : List Report) (x : Report) → deepest (xs ++ x ∷ []) ≡ max (deepest xs) (x.levels + 1)
deepest-append [] x = omega arith
deepest-append (y ∷ xs) x =
    let tail = deepest-append xs x in
    rw tail (omega arith)

joined-more : (xs : List Report) (x : Report) → over_all true plain (xs ++ x ∷ []) ≡ joined_reports (over_all true plain xs) x
joined-more xs x =
    let last : list_all (λ (child : Report). child.is_allowed) (x ∷ []) ≡ x.is_allowed = one x.is_allowed in
    let allowed = list_all-append (λ (child : Report). child.is_allowed) xs (x ∷ []) ∙ ap
    (λ b. list_all (λ (child : Report). child.is_allowed) xs && b) last in
    let levels = deepest-append xs x in
    let single : sum_by (λ (child : Report). child.dictionaries) (x ∷ []) ≡ x.dictionaries = omega arith in
    let dictionaries = sum_by-append (λ (child : Report). child.dictionaries) xs (x ∷ []) ∙ ap
    (λ n. sum_by (λ (child : Report). child.dictionaries) xs + n) single in
    λ i. record { is_allowed = allowed i; levels = levels i; dictionaries = dictionaries i; shape = plain }
  where
    one : (b : Bool) → (b && true) ≡ b
    one true = refl
    one false = refl

pub reports-more : (xs : List Report) (x before after child : Report) → before ≡ capped (over_all true plain xs) → child ≡ capped x → after ≡
    capped (joined_reports before child)
    → after ≡ capped (over_all true plain (xs ++ x ∷ []))
reports-more xs x before after child b c a =
    a ∙ (λ i. capped (joined_reports (b i) (c i))) ∙ capped-joined (over_all true plain xs) x ∙ ap capped (sym (joined-more xs x))
