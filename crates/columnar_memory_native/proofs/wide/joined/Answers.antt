use Rattle.std.proofs.Common.{◌≡◌, ◌∙◌, refl, ap, ℕ, List, [], ◌++◌, length, take, drop, subst}
use Rattle.std.proofs.Math.Seq.{take-append_seam, drop-append_seam}
use Rattle.std.proofs.lemmas.List.{append-nil}
use Rattle.columnar_memory_native.proofs.wide.joined.Goals as goal

-- the second of two parts of 16 replaced
second_replaced : (first second zeros part : List ℕ) → length first ≡ 16 → drop 16 zeros ≡ [] → part ≡ second
    → take 16 (first ++ zeros) ++ (part ++ drop 16 (drop 16 (first ++ zeros))) ≡ first ++ second
second_replaced first second zeros part size none same =
    let front : take 16 (first ++ zeros) ≡ first = subst (λ (n : ℕ). take n (first ++ zeros) ≡ first) size (take-append_seam first zeros) in
    let seam : drop (length first) (first ++ zeros) ≡ zeros = drop-append_seam first zeros in
    let back : drop 16 (drop 16 (first ++ zeros)) ≡ [] =
    subst (λ (n : ℕ). drop 16 (drop n (first ++ zeros)) ≡ []) size (ap (drop 16) seam ∙ none) in
    λ i. front i ++ (ap (λ xs. xs ++ drop 16 (drop 16 (first ++ zeros))) same ∙ ap (λ xs. second ++ xs) back ∙ append-nil second) i

pub returns : goal.returns
returns c =
    let size : length c.copy_from_slice.new.self ≡ 16 = c.copy_from_slice.ensures.len in
    second_replaced c.copy_from_slice.new.self c.args.second.now _ c.copy_from_slice-2.new.self size refl c.copy_from_slice-2.ensures.after
    ∙ ap (λ xs. xs ++ c.args.second.now) c.copy_from_slice.ensures.after
