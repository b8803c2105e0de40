-- Items that are put back: what holds of each of them, and where each of them stands.
use Rattle.std.proofs.Common.{◌≡◌, ◌∙◌, ◌⊎◌, inl, inr, ℕ, zero, suc, ◌<◌, ◌≤◌, Bool, true, false, ◌||◌, List, [], ◌∷◌, length, refl, sym, ap, arith}
use Rattle.std.specs.Prelude.{Option, Some, None, nat_eq, slice_get}
use Rattle.std.specs.List.{AllByRecursion, AllZip, fold, list_any, slice_set}
use Rattle.std.proofs.lemmas.Bool.{cases_Bool, cases_lt, eqb-false, eqb-true, or_cases}
use Rattle.std.proofs.lemmas.List.{length-set}
use Rattle.std.proofs.lemmas.Option.{none-some, same_Some, slice_get_past, slice_get_within}
use Rattle.ipc_format_batch_reading.specs.Projections.{put, put_back, put_one}

-- ---- lists by their places

-- something or nothing
pub given_or : {A : Type 0} (o : Option A) → (o ≡ None) ⊎ ((x : A) × (o ≡ Some x))
given_or None = inl refl
given_or (Some x) = inr (x, refl)

pub get_set_same : {A : Type 0} (xs : List A) (k : ℕ) (x y : A) → slice_get xs k ≡ Some y → slice_get (slice_set xs k x) k ≡ Some x
get_set_same [] k x y is = absurd (none-some y is)
get_set_same (z ∷ xs) zero x y is = refl
get_set_same (z ∷ xs) (suc k) x y is = get_set_same xs k x y is

pub get_set_other : {A : Type 0} (xs : List A) (k j : ℕ) (x : A) → (k ≡ j → ⊥) → slice_get (slice_set xs k x) j ≡ slice_get xs j
get_set_other [] k j x apart = refl
get_set_other (z ∷ xs) zero zero x apart = absurd (apart refl)
get_set_other (z ∷ xs) zero (suc j) x apart = refl
get_set_other (z ∷ xs) (suc k) zero x apart = refl
get_set_other (z ∷ xs) (suc k) (suc j) x apart = get_set_other xs k j x (λ same. apart (ap suc same))

pub same_list : {A : Type 0} (xs ys : List A) → ((k : ℕ) → slice_get xs k ≡ slice_get ys k) → xs ≡ ys
same_list [] [] same = refl
same_list [] (y ∷ ys) same = absurd (none-some y (same 0))
same_list (x ∷ xs) [] same = absurd (none-some x (sym (same 0)))
same_list (x ∷ xs) (y ∷ ys) same = λ i. same_Some x y (same 0) i ∷ same_list xs ys (λ k. same (suc k)) i

pub inside_some : {A : Type 0} (xs : List A) (k : ℕ) → k < length xs → (x : A) × (slice_get xs k ≡ Some x)
inside_some [] k inside = absurd (omega arith)
inside_some (x ∷ xs) zero inside = (x, refl)
inside_some (x ∷ xs) (suc k) inside = inside_some xs k (omega arith)

-- ---- pairs of lists that are put back alike

-- both or neither is there, and both are related
abbrev Both : {A B : Type 0} → (A → B → Type 0) → Option A → Option B → Type 0
Both R None None = Unit {0}
Both R (Some x) (Some y) = R x y
Both R _ _ = ⊥

zip_at : {A B : Type 0} (R : A → B → Type 0) (xs : List A) (ys : List B) (k : ℕ) → AllZip R xs ys → Both R (slice_get xs k) (slice_get ys k)
zip_at R [] [] k all = tt
zip_at R [] (y ∷ ys) k all = absurd all
zip_at R (x ∷ xs) [] k all = absurd all
zip_at R (x ∷ xs) (y ∷ ys) zero all = all.0
zip_at R (x ∷ xs) (y ∷ ys) (suc k) all = zip_at R xs ys k all.1

zip_set : {A B : Type 0} (R : A → B → Type 0) (xs : List A) (ys : List B) (k : ℕ) (x : A) (y : B) → R x y → AllZip R xs ys
    → AllZip R (slice_set xs k x) (slice_set ys k y)
zip_set R [] [] k x y r all = all
zip_set R [] (b ∷ ys) k x y r all = absurd all
zip_set R (a ∷ xs) [] k x y r all = absurd all
zip_set R (a ∷ xs) (b ∷ ys) zero x y r all = (r, all.1)
zip_set R (a ∷ xs) (b ∷ ys) (suc k) x y r all = (all.0, zip_set R xs ys k x y r all.1)

zip_put : {A B : Type 0} (R : A → B → Type 0) (xs : List A) (ys : List B) (k : ℕ) (a : Option A) (b : Option B) → Both R a b → AllZip R xs ys
    → AllZip R (put xs k a) (put ys k b)
zip_put R xs ys k None None both all = all
zip_put R xs ys k None (Some y) both all = absurd both
zip_put R xs ys k (Some x) None both all = absurd both
zip_put R xs ys k (Some x) (Some y) both all = zip_set R xs ys k x y both all

zip_fold : {A B : Type 0} (R : A → B → Type 0) (xs : List A) (ys : List B) (made : List A) (beside : List B) (entries : List (ℕ × ℕ))
    → AllZip R xs ys → AllZip R made beside → AllZip R (fold (put_one xs) made entries) (fold (put_one ys) beside entries)
zip_fold R xs ys made beside [] all so_far = so_far
zip_fold R xs ys made beside (entry ∷ entries) all so_far =
    zip_fold R xs ys (put_one xs made entry) (put_one ys beside entry) entries all
    (zip_put R made beside entry.1 (slice_get xs entry.0) (slice_get ys entry.0) (zip_at R xs ys entry.0 all) so_far)

-- what is related place by place still is
pub zip_back : {A B : Type 0} (R : A → B → Type 0) (xs : List A) (ys : List B) (entries : List (ℕ × ℕ)) → AllZip R xs ys
    → AllZip R (put_back entries xs) (put_back entries ys)
zip_back R xs ys entries all = zip_fold R xs ys xs ys entries all all

-- ---- what holds of each item

zip_itself : {A : Type 0} (P : A → Type 0) (xs : List A) → AllByRecursion P xs → AllZip (λ x y. P x) xs xs
zip_itself P [] all = tt
zip_itself P (x ∷ xs) all = (all.0, zip_itself P xs all.1)

all_left : {A B : Type 0} (P : A → Type 0) (xs : List A) (ys : List B) → AllZip (λ x y. P x) xs ys → AllByRecursion P xs
all_left P [] ys all = tt
all_left P (x ∷ xs) [] all = absurd all
all_left P (x ∷ xs) (y ∷ ys) all = (all.0, all_left P xs ys all.1)

-- it still does
pub all_back : {A : Type 0} (P : A → Type 0) (xs : List A) (entries : List (ℕ × ℕ)) → AllByRecursion P xs
    → AllByRecursion P (put_back entries xs)
all_back P xs entries all =
    all_left P (put_back entries xs) (put_back entries xs) (zip_back (λ x y. P x) xs xs entries (zip_itself P xs all))

length_put : {A : Type 0} (xs : List A) (k : ℕ) (a : Option A) → length (put xs k a) ≡ length xs
length_put xs k None = refl
length_put xs k (Some x) = length-set xs k x

length_fold : {A : Type 0} (items made : List A) (entries : List (ℕ × ℕ)) → length (fold (put_one items) made entries) ≡ length made
length_fold items made [] = refl
length_fold items made (entry ∷ entries) =
    length_fold items (put_one items made entry) entries ∙ length_put made entry.1 (slice_get items entry.0)

pub length_back : {A : Type 0} (items : List A) (entries : List (ℕ × ℕ)) → length (put_back entries items) ≡ length items
length_back items entries = length_fold items items entries

-- ---- items that are put where they are asked for

-- an entry is for a place
abbrev pub is_for : ℕ → ℕ × ℕ → Bool
is_for k entry = nat_eq entry.1 k

-- what an entry moves is what is asked for
abbrev pub Right : {A : Type 0} → List A → List A → ℕ × ℕ → Type 0
Right items asked entry = slice_get items entry.0 ≡ slice_get asked entry.1

-- past the end stands nothing
past_none : {A : Type 0} (xs : List A) (k : ℕ) (o : Option A) → slice_get xs k ≡ o → o ≡ None → length xs < suc k
past_none [] k o is none = omega arith
past_none (x ∷ xs) zero o is none = absurd (none-some x (sym none ∙ sym is))
past_none (x ∷ xs) (suc k) o is none = let rest = past_none xs k o is none in omega arith

put_right : {A : Type 0} (asked made : List A) (k : ℕ) (item : Option A) → item ≡ slice_get asked k → length made ≡ length asked
    → slice_get (put made k item) k ≡ slice_get asked k
put_right asked made k None is long =
    let past = past_none asked k (slice_get asked k) refl (sym is) in slice_get_past made k (omega arith) ∙ is
put_right asked made k (Some x) is long =
    let there = slice_get_within asked k x (sym is) in
    let held = inside_some made k (omega arith) in
    get_set_same made k x held.0 held.1 ∙ is

put_other : {A : Type 0} (made : List A) (j k : ℕ) (item : Option A) → (j ≡ k → ⊥) → slice_get (put made j item) k ≡ slice_get made k
put_other made j k None apart = refl
put_other made j k (Some x) apart = get_set_other made j k x apart

fold_right : {A : Type 0} (items asked made : List A) (k : ℕ) (entries : List (ℕ × ℕ)) → length made ≡ length asked
    → AllByRecursion (Right items asked) entries → (slice_get made k ≡ slice_get asked k) ⊎ (list_any (is_for k) entries ≡ true)
    → slice_get (fold (put_one items) made entries) k ≡ slice_get asked k
fold_right items asked made k [] long right (inl is) = is
fold_right items asked made k [] long right (inr some) = absurd cc
fold_right items asked made k (entry ∷ entries) long right either =
    let longer = length_put made entry.1 (slice_get items entry.0) ∙ long in
    elim (cases_Bool (nat_eq entry.1 k)) [
      | inl here ↦ fold_right items asked (put_one items made entry) k entries longer right.1
          (inl (put_here (eqb-true entry.1 k here)))
      | inr apart ↦ fold_right items asked (put_one items made entry) k entries longer right.1 (later apart either)
    ]
  where
    put_here : entry.1 ≡ k → slice_get (put_one items made entry) k ≡ slice_get asked k
    put_here same =
        ap (λ j. slice_get (put_one items made entry) j) (sym same)
        ∙ put_right asked made entry.1 (slice_get items entry.0) right.0 long
        ∙ ap (slice_get asked) same

    later : nat_eq entry.1 k ≡ false → (slice_get made k ≡ slice_get asked k) ⊎ ((nat_eq entry.1 k || list_any (is_for k) entries) ≡ true)
        → (slice_get (put_one items made entry) k ≡ slice_get asked k) ⊎ (list_any (is_for k) entries ≡ true)
    later apart (inl is) = inl (put_other made entry.1 k (slice_get items entry.0) (eqb-false entry.1 k apart) ∙ is)
    later apart (inr some) = elim (or_cases (nat_eq entry.1 k) (list_any (is_for k) entries) some) [
      | inl here ↦ absurd cc
      | inr there ↦ inr there
    ]

-- Where each entry moves what is asked for, and there is one for each place, what is put back is what is asked for.
pub back_is : {A : Type 0} (items asked : List A) (entries : List (ℕ × ℕ)) → length items ≡ length asked
    → AllByRecursion (Right items asked) entries → ((k : ℕ) → k < length asked → list_any (is_for k) entries ≡ true)
    → put_back entries items ≡ asked
back_is items asked entries long right all =
    same_list (put_back entries items) asked (λ k. fold_right items asked items k entries long right (there k (cases_lt k (length asked))))
  where
    there : (k : ℕ) → (k < length asked) ⊎ (length asked ≤ k)
        → (slice_get items k ≡ slice_get asked k) ⊎ (list_any (is_for k) entries ≡ true)
    there k (inl inside) = inr (all k inside)
    there k (inr past) = inl (slice_get_past items k (omega arith) ∙ sym (slice_get_past asked k past))
