-- The pieces of a word, one after another.
use Rattle.std.proofs.Common.{◌≡◌, ◌∙◌, ℕ, ◌<◌, Bool, true, false, List, [], ◌∷◌, ◌++◌, length, map, get_or, refl, sym, ap, cond}
use Rattle.std.specs.Prelude.{Option, Some, None}
use Rattle.std.specs.Option.{is_some}
use Rattle.std.specs.List.{cons_option, filter_map, list_all}
use Rattle.std.proofs.lemmas.Bool.{false≢true}
use Rattle.std.proofs.lemmas.List.{map-append}
use Rattle.std.proofs.lemmas.List.Elements.{filter_map-append}
use Rattle.std.proofs.lemmas.List.Folds.{list_all_at}
use Rattle.tables.specs.Number.{is_number, number_of}

-- ---- numbers

fails_with : {A : Type 0} (test : Bool) (x : A) (found : Option A) → found ≡ cond test (Some x) None → is_some found ≡ false → test ≡ false
fails_with false x found e none = refl
fails_with true x None e none = absurd cc
fails_with true x (Some y) e none = absurd (false≢true (sym none))

-- ---- the columns of a word

-- one piece more
pub columns_more : {A : Type 0} (v : A → List ℕ) (xs : List A) (x : A) (columns new : List ℕ) → columns ≡ filter_map number_of (map v xs)
    → new ≡ columns ++ cons_option (number_of (v x)) [] → new ≡ filter_map number_of (map v (xs ++ x ∷ []))
columns_more v xs x columns new before pushed =
    pushed ∙ ap (λ (ks : List ℕ). ks ++ cons_option (number_of (v x)) []) before
    ∙ sym (ap (filter_map number_of) (map-append v xs (x ∷ [])) ∙ filter_map-append number_of (map v xs) (v x ∷ []))

-- ---- whether a word names columns

-- where one piece is none, not all are
pub not_all_numbers : (pieces : List (List ℕ)) (i : ℕ) (piece : List ℕ) (found : Option ℕ) → i < length pieces → piece ≡ get_or pieces i piece
    → found ≡ number_of piece → is_some found ≡ false → list_all is_number pieces ≡ false
not_all_numbers pieces i piece found inside at is none =
    list_all_at is_number pieces i piece inside (ap is_number (sym at) ∙ fails_with (is_number piece) _ found is none)
