-- Lists that are made element by element.
use Rattle.std.proofs.Common.{◌≡◌, ◌∙◌, ℕ, zero, suc, ◌<◌, List, [], ◌∷◌, ◌++◌, length, map, drop, get_or, refl, sym, ap, append_assoc, inl, inr}
use Rattle.std.proofs.lemmas.Option.{slice_get_read, slice_get-map}
use Rattle.std.specs.Option.{option_map}
use Rattle.std.specs.Prelude.{Option, Some, None, slice_get, IsSomeAnd, ◌⊎◌}
use Rattle.ipc_format_chunk_writing.specs.flatbuffers.Reading.{◌>>=◌}
use Rattle.ipc_format_readers.proofs.Binding.{same_some}

-- elements behind those that are there, where there are any
abbrev pub behind : {A : Type 0} → List A → Option (List A) → Option (List A)
behind before rest = option_map (λ others. before ++ others) rest

pub behind_none : {A : Type 0} (rest : Option (List A)) → behind [] rest ≡ rest
behind_none None = refl
behind_none (Some xs) = refl

-- one element more
pub behind_next : {A : Type 0} (before : List A) (x : A) (rest : Option (List A))
    → behind before (rest >>= (λ others. Some (x ∷ others))) ≡ behind (before ++ x ∷ []) rest
behind_next before x None = refl
behind_next before x (Some xs) = ap Some (sym (append_assoc before (x ∷ []) xs))

-- the first of what is left
pub drop_next : {A : Type 0} (xs : List A) (k : ℕ) (x : A) → slice_get xs k ≡ Some x → drop k xs ≡ x ∷ drop (suc k) xs
drop_next [] k x e = absurd cc
drop_next (y ∷ ys) zero x e = ap (λ z. z ∷ ys) (same_some y x e)
drop_next (y ∷ ys) (suc k) x e = drop_next ys k x e

-- an element as it is seen
pub seen_at : {A B : Type 0} (view : A → B) (xs : List A) (k : ℕ) (x : A) → k < length xs → x ≡ get_or xs k x
    → slice_get (map view xs) k ≡ Some (view x)
seen_at view xs k x inside is = slice_get-map view xs k ∙ ap (option_map view) (slice_get_read xs (length xs) k x refl inside is)

-- ---- what is there and holds

pub and_then : {A B : Type 0} (r : Option A) (f : A → Option B) (P : B → Type 0) → IsSomeAnd r (λ x. IsSomeAnd (f x) P) → IsSomeAnd (r >>= f) P
and_then None f P is = absurd is
and_then (Some x) f P is = is

-- what is there, and holds
pub some_of : {A : Type 0} (r : Option A) (P : A → Type 0) → IsSomeAnd r P → (x : A) × (r ≡ Some x) × P x
some_of None P is = absurd is
some_of (Some x) P is = (x, refl, is)

pub either : {A : Type 0} (r : Option A) (P Q : A → Type 0) → IsSomeAnd r (λ x. P x ⊎ Q x) → IsSomeAnd r P ⊎ IsSomeAnd r Q
either None P Q is = absurd is
either (Some x) P Q (inl p) = inl p
either (Some x) P Q (inr q) = inr q
