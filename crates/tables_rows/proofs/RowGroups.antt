-- Groups of a list: the first one, and those behind groups that are full.
use Rattle.std.proofs.Common.{◌≡◌, ◌∙◌, ℕ, zero, suc, ◌+◌, ◌-◌, ◌≤◌, ◌<◌, List, [], ◌∷◌, ◌++◌, length, take, drop, refl, sym, ap, arith}
use Rattle.std.proofs.Common.{length-drop}
use Rattle.std.proofs.Math.Seq.{take-append_seam, take-append-add}
use Rattle.std.proofs.lemmas.List.{take_all}
use Rattle.tables_chunks.specs.ipc_format.Seals.{groups_within, groups_of}

fewer : {A : Type 0} (n most : ℕ) (x : A) (xs : List A) → 1 ≤ n → length (x ∷ xs) ≤ suc most → length (drop n (x ∷ xs)) ≤ most
fewer n most x xs some h = omega (arith, length-drop n (x ∷ xs))

-- it doesn't matter how many groups there may be, where there may be enough
enough : {A : Type 0} (a b n : ℕ) (xs : List A) → 1 ≤ n → length xs ≤ a → length xs ≤ b → groups_within a n xs ≡ groups_within b n xs
enough zero zero n [] some few less = refl
enough zero (suc b) n [] some few less = refl
enough (suc a) zero n [] some few less = refl
enough (suc a) (suc b) n [] some few less = refl
enough zero b n (x ∷ xs) some few less = absurd (omega arith)
enough (suc a) zero n (x ∷ xs) some few less = absurd (omega arith)
enough (suc a) (suc b) n (x ∷ xs) some few less =
    ap (λ groups. take n (x ∷ xs) ∷ groups)
    (enough a b n (drop n (x ∷ xs)) some (fewer n a x xs some few) (fewer n b x xs some less))

-- the first group, and those of what is left
first_group : {A : Type 0} (n : ℕ) (x : A) (xs : List A) → 1 ≤ n → groups_of n (x ∷ xs) ≡ take n (x ∷ xs) ∷ groups_of n (drop n (x ∷ xs))
first_group n x xs some =
    ap (λ groups. take n (x ∷ xs) ∷ groups)
    (enough (length xs) (length (drop n (x ∷ xs))) n (drop n (x ∷ xs)) some (fewer n (length xs) x xs some (omega arith)) (omega arith))

dropped : {A : Type 0} (xs ys : List A) → drop (length xs) (xs ++ ys) ≡ ys
dropped [] ys = refl
dropped (x ∷ xs) ys = dropped xs ys

-- a full group stands before those of what is behind it
pub full_group : {A : Type 0} (n : ℕ) (xs ys : List A) → 1 ≤ n → length xs ≡ n → groups_of n (xs ++ ys) ≡ xs ∷ groups_of n ys
full_group n [] ys some size = absurd (omega arith)
full_group n (x ∷ xs) ys some size =
    first_group n x (xs ++ ys) some
    ∙ (λ j. take (sym size j) ((x ∷ xs) ++ ys) ∷ groups_of n (drop (sym size j) ((x ∷ xs) ++ ys)))
    ∙ (λ j. take-append_seam (x ∷ xs) ys j ∷ groups_of n (dropped (x ∷ xs) ys j))

-- a group that is not full stands alone
pub last_group : {A : Type 0} (n : ℕ) (x : A) (xs : List A) → length (x ∷ xs) < n → groups_of n (x ∷ xs) ≡ (x ∷ xs) ∷ []
last_group n x xs short =
    first_group n x xs (omega arith) ∙ (λ j. take_all n (x ∷ xs) (omega arith) j ∷ groups_of n (dropped_all n (x ∷ xs) (omega arith) j))
  where
    dropped_all : {A : Type 0} (n : ℕ) (xs : List A) → length xs ≤ n → drop n xs ≡ []
    dropped_all zero [] few = refl
    dropped_all (suc n) [] few = refl
    dropped_all zero (x ∷ xs) few = absurd (omega arith)
    dropped_all (suc n) (x ∷ xs) few = dropped_all n xs (omega arith)

-- the first group begins with what there is room for in it
pub record BeginsWith {A : Type 0} (n : ℕ) (all front : List A) : Type 0 where
  pub more : List A
  pub others : List (List A)
  pub groups_are : groups_of n all ≡ (front ++ more) ∷ others

pub group_begins : {A : Type 0} (n : ℕ) (xs ys : List A) → 1 ≤ length xs → length xs ≤ n → BeginsWith n (xs ++ ys) xs
group_begins n [] ys some few = absurd (omega arith)
group_begins n (x ∷ xs) ys some few =
    let front = x ∷ xs in
    let size : n ≡ length front + (n - length front) = omega arith in
    record {
      more = take (n - length front) ys;
      others = groups_of n (drop n (front ++ ys));
      groups_are = first_group n x (xs ++ ys) (omega arith)
          ∙ ap (λ group. group ∷ groups_of n (drop n (front ++ ys)))
          (ap (λ k. take k (front ++ ys)) size ∙ take-append-add front ys (n - length front));
    }
