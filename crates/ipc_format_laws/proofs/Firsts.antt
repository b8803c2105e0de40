-- The first of some values, and a limit within another one.
use Rattle.std.proofs.Common.{inl, inr, ◌≡◌, ◌∙◌, ℕ, zero, suc, ◌+◌, ◌-◌, ◌*◌, ◌/◌, ◌%◌, ◌^◌, ◌≤◌, ◌<◌, min, Bool, true, false, List, [], ◌∷◌}
use Rattle.std.proofs.Common.{take, drop, replicate, refl, sym, ap, subst, arith, zero-add, mul-suc, ◌==◌, slice_index, slice_range}
use Rattle.std.specs.Prelude.{Option, Some, None}
use Rattle.std.specs.List.{list_all}
use Rattle.std.proofs.Math.Nat.{mul_comm, mul-le-mul_right, min-eq_left, min-eq_right, min-le_right}
use Rattle.std.proofs.lemmas.Bool.{and_parts, and_from, cases_lt}
use Rattle.std.proofs.lemmas.List.{get_or-take, drop-take, take-take}
use Rattle.ipc_format_grammar.specs.flatbuffers.Reading.{◌>>=◌, guard}
use Rattle.ipc_format_grammar.specs.columns.Slots.{window}
use Rattle.ipc_format_grammar.proofs.columns_lemmas.Windows.{window_same}
use Rattle.ipc_format_grammar.specs.Values.{bit_at, element_bytes}
use Rattle.ipc_format_grammar.specs.Columns.{taken_of}

-- ---- one thing after another

-- where something follows, there was something to follow
pub came_of : {A B : Type 0} (r : Option A) (f : A → Option B) (y : B) → (r >>= f) ≡ Some y → (x : A) × (r ≡ Some x) × (f x ≡ Some y)
came_of None f y e = absurd cc
came_of (Some x) f y e = (x, refl, e)

-- what follows something that is there
pub bind_is : {A B : Type 0} (r : Option A) (f : A → Option B) (x : A) → r ≡ Some x → (r >>= f) ≡ f x
bind_is r f x e = ap (λ o. o >>= f) e

abbrev or_else : {A : Type 0} → A → Option A → A
or_else other None = other
or_else other (Some x) = x

pub same_value : {A : Type 0} (x y : A) → Some x ≡ Some y → x ≡ y
same_value x y e = ap (or_else x) e

pub guarded : (test : Bool) (found : Bool) → guard test ≡ Some found → test ≡ true
guarded true found e = refl
guarded false found e = absurd cc

-- ---- limits

-- a limit takes no more than another one
abbrev pub IsWithin : Option ℕ → Option ℕ → Type 0
IsWithin new None = Unit {0}
IsWithin None (Some old) = ⊥
IsWithin (Some new) (Some old) = new ≤ old

least_of : (k l n : ℕ) → k ≤ l → min k (min l n) ≡ min k n
least_of k l n h = elim (cases_lt l n) [
  | inl some ↦ ap (min k) (min-eq_left (omega arith)) ∙ min-eq_left h ∙ sym (min-eq_left (omega arith))
  | inr few ↦ ap (min k) (min-eq_right few)
]

pub taken_within : (new old : Option ℕ) (n : ℕ) → IsWithin new old → taken_of new (taken_of old n) ≡ taken_of new n
taken_within new None n within = refl
taken_within None (Some old) n within = absurd within
taken_within (Some new) (Some old) n within = least_of new old n within

pub taken_most : (limit : Option ℕ) (n : ℕ) → taken_of limit n ≤ n
taken_most None n = omega arith
taken_most (Some limit) n = min-le_right limit n

-- ---- lists

pub index_take : (m : ℕ) (xs : List ℕ) (i : ℕ) → i < m → slice_index (take m xs) i ≡ slice_index xs i
index_take m xs i h = get_or-take m xs i 0 h

byte_within : (i k : ℕ) → i < k → i / 8 < (k + 7) / 8
byte_within i k h = omega arith

-- bit i of the first bytes that k bits need
pub bit_take : (bytes : List ℕ) (k i : ℕ) → i < k → bit_at (take ((k + 7) / 8) bytes) i ≡ bit_at bytes i
bit_take bytes k i h = ap (λ b. (b / 2 ^ (i % 8)) % 2 == 1) (index_take ((k + 7) / 8) bytes (i / 8) (byte_within i k h))

pub element_within : (size i k : ℕ) → i < k → size * i + size ≤ k * size
element_within size i k h =
    let upto : suc i * size ≤ k * size = mul-le-mul_right size (omega arith) in
    let same : size * i + size ≡ suc i * size = sym (mul-suc size i) ∙ mul_comm size (suc i) in
    subst (λ (n : ℕ). n ≤ k * size) (sym same) upto

-- what is dropped of the first values
drop_first : {A : Type 0} (n m : ℕ) (xs : List A) → n ≤ m → drop n (take m xs) ≡ take (m - n) (drop n xs)
drop_first n m xs h =
    let sum : n + (m - n) ≡ m = omega arith in
    ap (λ j. drop n (take j xs)) (sym sum) ∙ drop-take n (m - n) xs

pub part_take : {A : Type 0} (a n m : ℕ) (xs : List A) → a + n ≤ m → take n (drop a (take m xs)) ≡ take n (drop a xs)
part_take a n m xs h = ap (take n) (drop_first a m xs (omega arith)) ∙ take-take n (m - a) (drop a xs) (omega arith)

-- element i of the first k of one size
pub element_take : (size k i : ℕ) (bytes : List ℕ) → i < k → element_bytes size (take (k * size) bytes) i ≡ element_bytes size bytes i
element_take size k i bytes h = part_take (size * i) size (k * size) bytes (element_within size i k h)

pub range_take : {A : Type 0} (a b m : ℕ) (xs : List A) → a ≤ b → b ≤ m → slice_range (take m xs) a b ≡ slice_range xs a b
range_take a b m xs h h' = part_take a (b - a) m xs (omega arith)

pub all_take : {A : Type 0} (test : A → Bool) (n : ℕ) (xs : List A) → list_all test xs ≡ true → list_all test (take n xs) ≡ true
all_take test zero xs h = refl
all_take test (suc n) [] h = refl
all_take test (suc n) (x ∷ xs) h =
    let parts = and_parts (test x) (list_all test xs) h in
    and_from (test x) (list_all test (take n xs)) parts.0 (all_take test n xs parts.1)

-- ---- windows

take_window : {A : Type 0} (f : ℕ → A) (first k n : ℕ) → k ≤ n → take k (window f first n) ≡ window f first k
take_window f first zero n h = refl
take_window f first (suc k) zero h = absurd (omega arith)
take_window f first (suc k) (suc n) h = ap (λ xs. f first ∷ xs) (take_window f (first + 1) k n (omega arith))

-- the first values of a function, by another one that has the same there
pub first_same : {A : Type 0} (f g : ℕ → A) (k n : ℕ) → k ≤ n → ((i : ℕ) → i < k → g i ≡ f i) → window g 0 k ≡ take k (window f 0 n)
first_same f g k n h each =
    window_same g f 0 0 k (λ (i : ℕ) (inside : i < k). ap g (zero-add i) ∙ each i inside ∙ ap f (sym (zero-add i)))
    ∙ sym (take_window f 0 k n h)

pub replicate_take : {A : Type 0} (x : A) (k n : ℕ) → k ≤ n → replicate k x ≡ take k (replicate n x)
replicate_take x zero n h = refl
replicate_take x (suc k) zero h = absurd (omega arith)
replicate_take x (suc k) (suc n) h = ap (λ xs. x ∷ xs) (replicate_take x k n (omega arith))
