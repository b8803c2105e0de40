-- Items that are put back, one by one, and fields that are chosen: what is done with each of them may come before or behind.
use Rattle.std.proofs.Common.{◌≡◌, ◌∙◌, ◌&&◌, ℕ, true, List, [], ◌∷◌, length, map, refl, sym, ap, subst}
use Rattle.std.specs.Prelude.{Some, nat_lt, slice_get}
use Rattle.std.specs.List.{AllZip, cons_option, list_all}
use Rattle.std.proofs.lemmas.Bool.{and_parts, ltb-true}
use Rattle.std.proofs.lemmas.List.{length-map}
use Rattle.std.proofs.lemmas.Slice.Zip.{AllZip-long, AllZip-map}
use Rattle.ipc_format_chunk_writing.specs.BatchReads.{rise_below}
use Rattle.ipc_format_chunk_writing.specs.Projections.{put_back}
use Rattle.ipc_format_chunk_writing.specs.columns.Tables.{chosen}
use Rattle.ipc_format_chunk_writing.proofs.PutBack.{inside_some, zip_back}

-- ---- what is done with each item

zip_map : {A B : Type 0} (f : A → B) (xs : List A) → AllZip (λ x y. y ≡ f x) xs (map f xs)
zip_map f [] = tt
zip_map f (x ∷ xs) = (refl, zip_map f xs)

pub map_back : {A B : Type 0} (f : A → B) (xs : List A) (entries : List (ℕ × ℕ)) → map f (put_back entries xs) ≡ put_back entries (map f xs)
map_back f xs entries =
    sym (AllZip-map f (put_back entries xs) (put_back entries (map f xs)) (zip_back (λ x y. y ≡ f x) xs (map f xs) entries (zip_map f xs)))

-- ---- what is chosen

-- an item stands at a place
abbrev Stands : {A : Type 0} → List A → ℕ → A → Type 0
Stands items k x = slice_get items k ≡ Some x

each_stands : {A : Type 0} (items : List A) (ks : List ℕ) → rise_below (length items) ks ≡ true → AllZip (Stands items) ks (chosen ks items)
each_stands items [] rise = tt
each_stands items (k ∷ ks) rise =
    let parts = and_parts (nat_lt k (length items) && list_all (λ other. nat_lt k other) ks) (rise_below (length items) ks) rise in
    let first = and_parts (nat_lt k (length items)) (list_all (λ other. nat_lt k other) ks) parts.0 in
    let found = inside_some items k (ltb-true k (length items) first.0) in
    subst (λ here. AllZip (Stands items) (k ∷ ks) (cons_option here (chosen ks items))) (sym found.1)
    (found.1, each_stands items ks parts.1)

chosen_are : {A : Type 0} (items : List A) (ks : List ℕ) (xs : List A) → AllZip (Stands items) ks xs → xs ≡ chosen ks items
chosen_are items [] [] stand = refl
chosen_are items [] (x ∷ xs) stand = absurd stand
chosen_are items (k ∷ ks) [] stand = absurd stand
chosen_are items (k ∷ ks) (x ∷ xs) stand =
    ap (λ rest. x ∷ rest) (chosen_are items ks xs stand.1) ∙ ap (λ here. cons_option here (chosen ks items)) (sym stand.0)

-- as many are chosen as there are places
pub chosen_long : {A : Type 0} (items : List A) (ks : List ℕ) → rise_below (length items) ks ≡ true → length (chosen ks items) ≡ length ks
chosen_long items ks rise = AllZip-long (Stands items) ks (chosen ks items) (each_stands items ks rise)

-- what is chosen by places that are put back is what is chosen by them, put back
pub chosen_back : {A : Type 0} (items : List A) (ks : List ℕ) (entries : List (ℕ × ℕ)) → rise_below (length items) ks ≡ true
    → put_back entries (chosen ks items) ≡ chosen (put_back entries ks) items
chosen_back items ks entries rise =
    chosen_are items (put_back entries ks) (put_back entries (chosen ks items))
    (zip_back (Stands items) ks (chosen ks items) entries (each_stands items ks rise))

-- ---- the same beside other items

-- what is alike item by item is alike where it is chosen and put back
pub alike_back : {A B C : Type 0} (f : A → C) (g : B → C) (xs : List A) (items : List B) (ks : List ℕ) (entries : List (ℕ × ℕ))
    → rise_below (length items) ks ≡ true → map f xs ≡ map g (chosen ks items)
    → map f (put_back entries xs) ≡ map g (chosen (put_back entries ks) items)
alike_back f g xs items ks entries rise same =
    map_back f xs entries ∙ ap (put_back entries) same ∙ sym (map_back g (chosen ks items) entries)
    ∙ ap (map g) (chosen_back items ks entries rise)

pub alike_long : {A B C : Type 0} (f : A → C) (g : B → C) (xs : List A) (items : List B) (ks : List ℕ)
    → rise_below (length items) ks ≡ true → map f xs ≡ map g (chosen ks items) → length xs ≡ length ks
alike_long f g xs items ks rise same =
    sym (length-map xs f) ∙ ap length same ∙ length-map (chosen ks items) g ∙ chosen_long items ks rise
