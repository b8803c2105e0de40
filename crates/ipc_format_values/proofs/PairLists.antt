-- Pairs, one after another.
use Rattle.std.proofs.Common.{◌≡◌, ◌∙◌, ℕ, List, [], ◌∷◌, ◌++◌, map, true, false, sym, ap, append_assoc}
use Rattle.std.specs.Prelude.{Bool, Option, filter, cond}
use Rattle.std.specs.Map.{keys_of}
use Rattle.std.specs.List.Sorted.{IsStrictlySortedBy}
use Rattle.std.specs.Ordering.{nat_cmp}
use Rattle.std.specs.Cmp.Lexicographic.{slice_cmp}
use Rattle.std.proofs.lemmas.List.{map-append, append-nil}
use Rattle.ipc_format_writing.specs.grammar.SchemaObjects.{extension_pairs, written_pairs}
use Rattle.ipc_format_writing.specs.Pieces.{Pair, is_kept}
use Rattle.ipc_format_writing.proofs.KeptPairs.{kept_pairs}
use Rattle.ipc_format_values.specs.declared.fields.KeyValue.{KeyValue}
use Rattle.ipc_format_values.specs.ValueObjects.{pair_view}

-- one pair more of those that are left
pub pair_made : (made new : List KeyValue) (one : KeyValue) (pair : Pair) (others whole : List Pair) → new ≡ made ++ one ∷ []
    → pair_view one ≡ pair → map pair_view made ++ pair ∷ others ≡ whole → map pair_view new ++ others ≡ whole
pair_made made new one pair others whole push same before =
    ap (λ new. map pair_view new ++ others) push ∙ ap (λ views. views ++ others) (map-append pair_view made (one ∷ []))
    ∙ ap (λ p. (map pair_view made ++ p ∷ []) ++ others) same ∙ append_assoc (map pair_view made) (pair ∷ []) others ∙ before

-- no pair is left
pub pairs_done : (made : List KeyValue) (whole : List Pair) → map pair_view made ++ [] ≡ whole → map pair_view made ≡ whole
pairs_done made whole before = sym (append-nil (map pair_view made)) ∙ before

-- the pairs of an extension, and then those that are no part of one
abbrev pub all_pairs : Option (List ℕ × Option (List ℕ)) → List Pair → List Pair
all_pairs extension pairs = extension_pairs extension ++ filter is_kept pairs

kept_step : (pair : Pair) (others : List Pair) (b : Bool) → b ≡ is_kept pair
    → filter is_kept (pair ∷ others) ≡ cond b (pair ∷ filter is_kept others) (filter is_kept others)
kept_step pair others b e = ap (λ b. cond b (pair ∷ filter is_kept others) (filter is_kept others)) (sym e)

pub kept_here : (made : List KeyValue) (pair : Pair) (others whole : List Pair) → true ≡ is_kept pair
    → map pair_view made ++ filter is_kept (pair ∷ others) ≡ whole → map pair_view made ++ pair ∷ filter is_kept others ≡ whole
kept_here made pair others whole e before = ap (λ ps. map pair_view made ++ ps) (sym (kept_step pair others true e)) ∙ before

pub dropped_here : (made : List KeyValue) (pair : Pair) (others whole : List Pair) → false ≡ is_kept pair
    → map pair_view made ++ filter is_kept (pair ∷ others) ≡ whole → map pair_view made ++ filter is_kept others ≡ whole
dropped_here made pair others whole e before = ap (λ ps. map pair_view made ++ ps) (sym (kept_step pair others false e)) ∙ before

-- the pairs of a field as the definition has them
pub field_pairs_done : (made : List KeyValue) (extension : Option (List ℕ × Option (List ℕ))) (pairs : List Pair)
    → IsStrictlySortedBy (slice_cmp nat_cmp) (keys_of pairs) → map pair_view made ++ [] ≡ all_pairs extension pairs
    → map pair_view made ≡ written_pairs extension pairs
field_pairs_done made extension pairs sorted before =
    pairs_done made (all_pairs extension pairs) before ∙ ap (λ others. extension_pairs extension ++ others) (sym (kept_pairs pairs sorted))
