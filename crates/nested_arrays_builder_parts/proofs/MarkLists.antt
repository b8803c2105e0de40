-- Lists of marks that are cut.
use Rattle.std.proofs.Common.{◌≡◌, ◌∙◌, ℕ, zero, suc, ◌+◌, ◌-◌, ◌≤◌, ◌<◌, Bool, true, false, not, List, [], ◌∷◌, ◌++◌, length, take}
use Rattle.std.proofs.Common.{replicate, refl, ap, ap₂, sym, arith, cond}
use Rattle.std.proofs.Math.Dec.{eqb-suc-zero}
use Rattle.std.proofs.lemmas.List.{length-replicate, length-take-le}
use Rattle.std.proofs.lemmas.List.Sums.{sum_by-cons}
use Rattle.std.specs.Prelude.{Option, Some, None, if◌then◌else◌, ◌==◌}
use Rattle.nested_arrays_core.proofs.arrays_lemmas.columnar_memory_lemmas.bits_lemmas.Counts.{unset_count_append}
use Rattle.nested_arrays_core.proofs.arrays_lemmas.columnar_memory_lemmas.bits_lemmas.Windows.{take_window, window_append}
use Rattle.nested_arrays_core.specs.arrays.columnar_memory.Bits.{bit_at, bits_of, unset_count}
use Rattle.nested_arrays_builder_parts.specs.Marks.{marks, mask_of_marks, AreKept}
use Rattle.nested_arrays_core.specs.arrays.columns.Kinds.{most_slots}

-- the first of some bits that stand in bytes
pub bits_begin : (bytes : List ℕ) (bits : List Bool) (n len : ℕ) → bits_of bytes 0 len ≡ bits → n ≤ len → bits_of bytes 0 n ≡ take n bits
bits_begin bytes bits n len is within = sym (take_window (bit_at bytes) 0 n len within) ∙ ap (take n) is

-- the bits behind the first ones are the others
pub bits_split : (bytes : List ℕ) (bits : List Bool) (n len rest : ℕ) → bits_of bytes 0 len ≡ bits → len ≡ n + rest
    → unset_count bits ≡ unset_count (take n bits) + unset_count (bits_of bytes n rest)
bits_split bytes bits n len rest is parts =
    let begin : n ≤ len = omega arith in
    let place : 0 + n ≡ n = omega arith in
    let split : bits ≡ take n bits ++ bits_of bytes n rest =
    sym is ∙ ap (λ k. bits_of bytes 0 k) parts ∙ window_append (bit_at bytes) 0 n rest
    ∙ ap₂ (λ (xs : List Bool) k. xs ++ bits_of bytes k rest) (bits_begin bytes bits n len is begin) place in
    ap unset_count split ∙ unset_count_append (take n bits) (bits_of bytes n rest)

pub positive : (k : ℕ) → 0 < k → (k == 0) ≡ false
positive zero some = absurd (omega arith)
positive (suc k) some = eqb-suc-zero k

-- where no mark is false there is no mask, else there is one
pub mask_none : (bits : List Bool) → unset_count bits ≡ 0 → mask_of_marks bits ≡ None
mask_none bits none = ap (λ k. if k == 0 then None else Some bits) none

pub mask_some : (bits : List Bool) → 0 < unset_count bits → mask_of_marks bits ≡ Some bits
mask_some bits some = ap (λ b. if b then None else Some bits) (positive (unset_count bits) some)

pub none_unset : (n : ℕ) → unset_count (replicate n true) ≡ 0
none_unset zero = refl
none_unset (suc n) = none_unset n

pub take_trues : (k n : ℕ) → k ≤ n → take k (replicate n true) ≡ replicate k true
take_trues zero n h = refl
take_trues (suc k) zero h = absurd (omega arith)
take_trues (suc k) (suc n) h = ap (λ rest. true ∷ rest) (take_trues k n (omega arith))

pub unset-first : (bits : List Bool) → unset_count (false ∷ bits) ≡ 1 + unset_count bits
unset-first bits = sum_by-cons (λ b. cond (not b) 1 0) false bits

all_true : (bits : List Bool) → unset_count bits ≡ 0 → replicate (length bits) true ≡ bits
all_true [] none = refl
all_true (true ∷ bits) none = ap (λ rest. true ∷ rest) (all_true bits none)
all_true (false ∷ bits) none = absurd (let count = unset-first bits in omega (arith, count, none))

marks_of_count : (k : ℕ) (xs : List Bool) (n : ℕ) → length xs ≡ n → unset_count xs ≡ k
    → marks n (if k == 0 then None else Some xs) ≡ xs
marks_of_count zero xs n long is = ap (λ m. replicate m true) (sym long) ∙ all_true xs is
marks_of_count (suc k) xs n long is = ap (λ b. marks n (if b then None else Some xs)) (eqb-suc-zero k)

-- marks under their own mask are themselves
pub marks_back : (xs : List Bool) (n : ℕ) → length xs ≡ n → marks n (mask_of_marks xs) ≡ xs
marks_back xs n long = marks_of_count (unset_count xs) xs n long refl

-- and are kept under it
pub kept_marks : (xs : List Bool) (n nulls : ℕ) (bitmap : Option (List Bool)) → length xs ≡ n → n ≤ most_slots → nulls ≡ unset_count xs
    → bitmap ≡ mask_of_marks xs → AreKept n nulls bitmap
kept_marks xs n nulls bitmap long few counted made =
    let back : marks n bitmap ≡ xs = ap (marks n) made ∙ marks_back xs n long in
    record {
      counted = counted ∙ ap unset_count (sym back);
      made = made ∙ ap mask_of_marks (sym back);
      long = ap length back ∙ long;
      within = few;
    }

pub ruleset cut_marks = (mask_none, mask_some, none_unset, take_trues)
