-- Slots of flat columns, place by place.
use Rattle.std.proofs.Common.{◌≡◌, ℕ, zero, suc, ◌+◌, ◌-◌, ◌*◌, List, [], ◌∷◌, length, map, take, drop, refl, sym}
use Rattle.std.proofs.Common.{ap, ◌∙◌, Bool, true, false, arith}
use Rattle.std.specs.Prelude.{not, cond, nat_lt, count_by, Some, if◌then◌else◌}
use Rattle.std.proofs.lemmas.List.{take-map, drop-map, length-map}
use Rattle.std.proofs.lemmas.List.Sums.{sum_by-cons}
use Rattle.ipc_format_grammar.specs.columns.Cells.{is_null}
use Rattle.ipc_format_grammar.specs.columns.Slots.{Slot}
use Rattle.ipc_format_grammar.specs.columns.StoredColumns.{cut_list}
use Rattle.ipc_format_grammar.specs.Buffers.{bits_by, bitmap_by, bitmap_of, bitmap_bytes, is_valid, null_count, validity_bytes}
use Rattle.ipc_format_grammar.specs.StoredEncoding.{mask_nulls, mask_bytes}

-- ---- bitmaps

bits_map : {A : Type 0} (test : A → Bool) (xs : List A) → bits_by test xs ≡ bits_by (λ b. b) (map test xs)
bits_map test [] = refl
bits_map test (x ∷ xs) = ap (λ k. (if test x then 1 else 0) + 2 * k) (bits_map test xs)

bitmap_map : {A : Type 0} (test : A → Bool) (most : ℕ) (xs : List A) → bitmap_by test most xs ≡ bitmap_by (λ b. b) most (map test xs)
bitmap_map test zero xs = refl
bitmap_map test (suc most) [] = refl
bitmap_map test (suc most) (x ∷ xs) =
    let here = bits_map test (take 8 (x ∷ xs)) ∙ ap (bits_by (λ b. b)) (sym (take-map test 8 (x ∷ xs))) in
    let rest = bitmap_map test most (drop 8 (x ∷ xs)) ∙ ap (bitmap_by (λ b. b) most) (sym (drop-map test 8 (x ∷ xs))) in
    λ j. here j ∷ rest j

-- a bitmap by a test is that of the answers
pub bitmap_answers : {A : Type 0} (test : A → Bool) (xs : List A) → bitmap_of test xs ≡ bitmap_bytes (map test xs)
bitmap_answers test xs = bitmap_map test (length xs) xs ∙ ap (λ n. bitmap_by (λ b. b) n (map test xs)) (sym (length-map xs test))

-- ---- nulls

twice_not : (b : Bool) → b ≡ not (not b)
twice_not true = refl
twice_not false = refl

null_marks : (slots : List Slot) → null_count slots ≡ count_by not (map is_valid slots)
null_marks [] = refl
null_marks (slot ∷ slots) =
    sum_by-cons (λ s. cond (is_null s) 1 0) slot slots ∙ ap (λ b. cond b 1 0 + null_count slots) (twice_not (is_null slot))
    ∙ ap (λ k. cond (not (is_valid slot)) 1 0 + k) (null_marks slots)
    ∙ sym (sum_by-cons (λ (b : Bool). cond (not b) 1 0) (is_valid slot) (map is_valid slots))

-- ---- the whole of a list

take_all : {A : Type 0} (xs : List A) → take (length xs) xs ≡ xs
take_all [] = refl
take_all (x ∷ xs) = ap (λ rest. x ∷ rest) (take_all xs)

drop_none : {A : Type 0} (xs : List A) → drop 0 xs ≡ xs
drop_none [] = refl
drop_none (x ∷ xs) = refl

pub whole_cut : {A : Type 0} (xs : List A) (n : ℕ) → length xs ≡ n → cut_list xs 0 n ≡ xs
whole_cut xs n h = ap (λ k. take k (drop 0 xs)) (size n (length xs) h) ∙ ap (take (length xs)) (drop_none xs) ∙ take_all xs
  where
    size : (n m : ℕ) → m ≡ n → 0 + n - 0 ≡ m
    size n m h = omega arith

-- ---- a column's node and validity

pub front_by : (slots : List Slot) (marks : List Bool) → map is_valid slots ≡ marks
    → (null_count slots ≡ mask_nulls (Some marks)) × (validity_bytes slots ≡ mask_bytes (Some marks))
front_by slots marks same =
    let nulls = null_marks slots ∙ ap (count_by not) same in
    let bitmap = bitmap_answers is_valid slots ∙ ap bitmap_bytes same in
    (nulls, (λ j. if nat_lt 0 (nulls j) then bitmap j else []))
