-- Offsets as spans, and as a list of numbers.
use Rattle.std.proofs.Common.{◌≡◌, ℕ, zero, suc, ◌+◌, ◌-◌, ◌≤◌, ◌<◌, List, [], ◌∷◌, length, take, drop, get_or, sum, refl, sym, ap, ◌∙◌, arith}
use Rattle.std.proofs.lemmas.List.Sums.{sum_by-cons}
use Rattle.flat_arrays_core.specs.columnar_memory.Spans.{Spans, ends_from, offsets_of, offset_at, spans_between}
use Rattle.nested_arrays_columns.specs.StoredColumns.{cut_list}

sum-cons : (l : ℕ) (ls : List ℕ) → sum (l ∷ ls) ≡ l + sum ls
sum-cons l ls = sum_by-cons (λ x. x) l ls

pub length-ends_from : (before : ℕ) (lengths : List ℕ) → length (ends_from before lengths) ≡ length lengths
length-ends_from before [] = refl
length-ends_from before (l ∷ ls) = ap suc (length-ends_from (before + l) ls)

-- one offset more than spans
pub length-offsets_of : (s : Spans) → length (offsets_of s) ≡ length s.lengths + 1
length-offsets_of s = omega (arith, length-ends_from s.start s.lengths)

get_or-ends_from : (before : ℕ) (lengths : List ℕ) (i : ℕ) → i < length lengths
    → get_or (ends_from before lengths) i 0 ≡ before + sum (take (suc i) lengths)
get_or-ends_from before [] i h = absurd (omega arith)
get_or-ends_from before (l ∷ ls) zero h = omega (arith, sum-cons l [])
get_or-ends_from before (l ∷ ls) (suc i) h =
    let here : get_or (ends_from (before + l) ls) i 0 ≡ before + l + sum (take (suc i) ls) = get_or-ends_from (before + l) ls i (omega arith) in
    here ∙ omega (arith, sum-cons l (take (suc i) ls))

-- an offset is where its span begins
pub get_or-offsets_of : (s : Spans) (i : ℕ) → i ≤ length s.lengths → get_or (offsets_of s) i 0 ≡ offset_at s i
get_or-offsets_of s zero h = omega arith
get_or-offsets_of s (suc i) h = get_or-ends_from s.start s.lengths i (omega arith)

take-ends_from : (before : ℕ) (lengths : List ℕ) (n : ℕ) → take n (ends_from before lengths) ≡ ends_from before (take n lengths)
take-ends_from before lengths zero = refl
take-ends_from before [] (suc n) = refl
take-ends_from before (l ∷ ls) (suc n) = ap (λ rest. (before + l) ∷ rest) (take-ends_from (before + l) ls n)

drop-offsets : (before : ℕ) (lengths : List ℕ) (i : ℕ) → i ≤ length lengths
    → drop i (before ∷ ends_from before lengths) ≡ (before + sum (take i lengths)) ∷ ends_from (before + sum (take i lengths)) (drop i lengths)
drop-offsets before lengths zero h = ap (λ n. n ∷ ends_from n lengths) (omega arith)
drop-offsets before [] (suc i) h = absurd (omega arith)
drop-offsets before (l ∷ ls) (suc i) h =
    let e : before + l + sum (take i ls) ≡ before + sum (l ∷ take i ls) = omega (arith, sum-cons l (take i ls)) in
    drop-offsets (before + l) ls i (omega arith) ∙ ap (λ n. n ∷ ends_from n (drop i ls)) e

-- the offsets of some of the spans are one more of the offsets
pub cut_offsets : (s : Spans) (o n : ℕ) → o + n ≤ length s.lengths → offsets_of (spans_between s o n) ≡ cut_list (offsets_of s) o (n + 1)
cut_offsets s o n within =
    let size : o + (n + 1) - o ≡ suc n = omega arith in
    sym (ap (λ k. take k (drop o (offsets_of s))) size ∙ ap (take (suc n)) (drop-offsets s.start s.lengths o (omega arith))
    ∙ ap (λ rest. offset_at s o ∷ rest) (take-ends_from (offset_at s o) (drop o s.lengths) n))

-- lists by offsets are as many as spans
pub spans_count : (s : Spans) → length (offsets_of s) - 1 ≡ length s.lengths
spans_count s = omega (arith, length-offsets_of s)
