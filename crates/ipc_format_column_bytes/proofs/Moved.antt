-- The bytes of offsets less the first one.
use Rattle.std.proofs.Common.{◌≡◌, ◌∙◌, ℕ, zero, suc, ◌+◌, ◌-◌, ◌≤◌, Bool, true, false, List, [], ◌∷◌, length, map, take, drop, sum, get_or}
use Rattle.std.proofs.Common.{refl, sym, ap, subst, arith}
use Rattle.std.specs.Prelude.{ℤ, pos, ◌≤ℤ◌, if◌then◌else◌, slice_range}
use Rattle.std.specs.List.{flat_map, All}
use Rattle.std.proofs.lemmas.Int.{ints}
use Rattle.std.proofs.lemmas.List.Folds.{flat_map-map}
use Rattle.std.proofs.lemmas.List.Elements.{All-cons, All-nil}
use Rattle.ipc_format_streams.specs.columnar_memory.Numbers.{Numbers, one, bytes_of}
use Rattle.ipc_format_streams.specs.columnar_memory.Spans.{Spans, AreOffsets, ends_from, number_of, offset_at, offsets_of, spans_between}
use Rattle.ipc_format_streams.specs.columnar_memory.declared.PrimitiveType.{PrimitiveType}
use Rattle.ipc_format_streams.specs.columnar_memory.declared.PrimitiveType.TheVariants as kinds
use Rattle.ipc_format_streams.specs.columns.StoredColumns.{cut_list}
use Rattle.ipc_format_streams.specs.grammar.StoredEncoding.{moved_bytes, ordered_bytes}
use Rattle.ipc_format_streams.proofs.columnar_memory_lemmas.buffer_lemmas.Runs.{AreOffsets-window, sum-cons, value-AreOffsets}
use Rattle.ipc_format_column_bytes.specs.Numbers.{width_of}

-- the bytes of an offset
pub offset_is : (is_large little : Bool) (kind : PrimitiveType) (value : Numbers) (n : ℕ)
    → kind ≡ (if is_large then kinds.Int64 else kinds.Int32) → value ≡ one (pos n)
    → bytes_of kind little value ≡ ordered_bytes little (width_of is_large) n
offset_is true true kind value n is_kind is = λ i. bytes_of (is_kind i) true (is i)
offset_is true false kind value n is_kind is = λ i. bytes_of (is_kind i) false (is i)
offset_is false true kind value n is_kind is = λ i. bytes_of (is_kind i) true (is i)
offset_is false false kind value n is_kind is = λ i. bytes_of (is_kind i) false (is i)

-- no offset is below the first one
not_below : (first start : ℕ) (lengths : List ℕ) → first ≤ start → All (λ (n : ℕ). first ≤ n) (ends_from start lengths)
not_below first start [] low = All-nil (λ (n : ℕ). first ≤ n)
not_below first start (l ∷ lengths) low =
    All-cons (λ (n : ℕ). first ≤ n) (start + l) (ends_from (start + l) lengths) (omega arith) (not_below first (start + l) lengths (omega arith))

signed_all : (first : ℕ) (ns : List ℕ) → All (λ (n : ℕ). first ≤ n) ns → All (λ (z : ℤ). pos first ≤ℤ z) (map pos ns)
signed_all first [] all = All-nil (λ (z : ℤ). pos first ≤ℤ z)
signed_all first (n ∷ ns) all =
    let here : first ≤ n = all 0 n (omega arith) in
    All-cons (λ (z : ℤ). pos first ≤ℤ z) (pos n) (map pos ns) (omega (arith, ints, here))
    (signed_all first ns (λ k d inside. all (suc k) d (omega arith)))

unmapped : {T : Type 0} (value : T → ℤ) (first : ℕ) (xs : List T) → All (λ (z : ℤ). pos first ≤ℤ z) (map value xs)
    → All (λ x. pos first ≤ℤ value x) xs
unmapped value first [] all = All-nil (λ x. pos first ≤ℤ value x)
unmapped value first (x ∷ xs) all =
    All-cons (λ x. pos first ≤ℤ value x) x xs (all 0 (value x) (omega arith))
    (unmapped value first xs (λ k d inside. all (suc k) d (omega arith)))

-- a number that two integers are
pub one_number : (z : ℤ) (m n : ℕ) → z ≡ pos m → z ≡ pos n → m ≡ n
one_number z m n is_m is_n = ap number_of (sym is_m ∙ is_n)

pub offsets_from_first : {T : Type 0} (value : T → ℤ) (xs : List T) (s : Spans) (first : ℕ) → AreOffsets value xs s → first ≡ s.start
    → All (λ x. pos first ≤ℤ value x) xs
offsets_from_first value xs s first are is =
    let low : first ≤ s.start = omega (arith, is) in
    unmapped value first xs (subst (λ (zs : List ℤ). All (λ (z : ℤ). pos first ≤ℤ z) zs) (sym are)
    (signed_all first (offsets_of s) (All-cons (λ (n : ℕ). first ≤ n) s.start (ends_from s.start s.lengths) low
    (not_below first s.start s.lengths low))))

-- the bytes of all of them
pub moved_are : {T : Type 0} (value : T → ℤ) (little is_large : Bool) (xs : List T) (s : Spans) (first : ℕ) → AreOffsets value xs s → first ≡ s.start
    → flat_map (λ x. ordered_bytes little (width_of is_large) (number_of (value x) - first)) xs ≡ moved_bytes little (width_of is_large)
    (offsets_of s)
moved_are value little is_large xs s first are is =
    let h : ℤ → List ℕ = λ z. ordered_bytes little (width_of is_large) (number_of z - first) in
    sym (flat_map-map h value xs) ∙ ap (flat_map h) are ∙ flat_map-map h pos (offsets_of s)
    ∙ ap (λ (f : ℕ). flat_map (λ n. ordered_bytes little (width_of is_large) (n - f)) (offsets_of s)) is
    ∙ sym (flat_map-map (ordered_bytes little (width_of is_large)) (λ (n : ℕ). n - s.start) (offsets_of s))

-- ---- the offsets of some of the spans

take-ends_from : (before : ℕ) (lengths : List ℕ) (n : ℕ) → take n (ends_from before lengths) ≡ ends_from before (take n lengths)
take-ends_from before lengths zero = refl
take-ends_from before [] (suc n) = refl
take-ends_from before (l ∷ ls) (suc n) = ap (λ (rest : List ℕ). (before + l) ∷ rest) (take-ends_from (before + l) ls n)

drop-offsets : (before : ℕ) (lengths : List ℕ) (i : ℕ) → i ≤ length lengths
    → drop i (before ∷ ends_from before lengths) ≡ (before + sum (take i lengths)) ∷ ends_from (before + sum (take i lengths)) (drop i lengths)
drop-offsets before lengths zero h = ap (λ (n : ℕ). n ∷ ends_from n lengths) (omega arith)
drop-offsets before [] (suc i) h = absurd (omega arith)
drop-offsets before (l ∷ ls) (suc i) h =
    let e : before + l + sum (take i ls) ≡ before + sum (l ∷ take i ls) = omega (arith, sum-cons l (take i ls)) in
    drop-offsets (before + l) ls i (omega arith) ∙ ap (λ (n : ℕ). n ∷ ends_from n (drop i ls)) e

-- are one more of the offsets
pub cut_offsets : (s : Spans) (o n : ℕ) → o + n ≤ length s.lengths → offsets_of (spans_between s o n) ≡ cut_list (offsets_of s) o (n + 1)
cut_offsets s o n within =
    let size : o + (n + 1) - o ≡ suc n = omega arith in
    sym (ap (λ (k : ℕ). take k (drop o (offsets_of s))) size ∙ ap (take (suc n)) (drop-offsets s.start s.lengths o (omega arith))
    ∙ ap (λ (rest : List ℕ). offset_at s o ∷ rest) (take-ends_from (offset_at s o) (drop o s.lengths) n))

-- the values between two places are the offsets of the spans between them
pub part_are : {T : Type 0} (value : T → ℤ) (part xs : List T) (s : Spans) (o n : ℕ) → AreOffsets value xs s → o + n ≤ length s.lengths
    → part ≡ slice_range xs o (o + n + 1) → AreOffsets value part (spans_between s o n)
part_are {T} value part xs s o n are within is =
    let size : o + n + 1 - o ≡ suc n = omega arith in
    subst (λ (ys : List T). AreOffsets value ys (spans_between s o n)) (sym (is ∙ ap (λ (k : ℕ). take k (drop o xs)) size))
    (AreOffsets-window value xs s o n are (omega arith))

-- the bytes of some of the offsets
pub moved_part : {T : Type 0} (value : T → ℤ) (little is_large : Bool) (part xs : List T) (s : Spans) (first o n : ℕ)
    → AreOffsets value xs s → o + n ≤ length s.lengths → part ≡ slice_range xs o (o + n + 1) → first ≡ offset_at s o
    → flat_map (λ x. ordered_bytes little (width_of is_large) (number_of (value x) - first)) part
    ≡ moved_bytes little (width_of is_large) (cut_list (offsets_of s) o (n + 1))
moved_part value little is_large part xs s first o n are within is_part is =
    moved_are value little is_large part (spans_between s o n) first (part_are value part xs s o n are within is_part) is
    ∙ ap (moved_bytes little (width_of is_large)) (cut_offsets s o n within)

-- none of them is below the first
pub part_from_first : {T : Type 0} (value : T → ℤ) (part xs : List T) (s : Spans) (first o n : ℕ)
    → AreOffsets value xs s → o + n ≤ length s.lengths → part ≡ slice_range xs o (o + n + 1) → first ≡ offset_at s o
    → All (λ x. pos first ≤ℤ value x) part
part_from_first value part xs s first o n are within is_part is =
    offsets_from_first value part (spans_between s o n) first (part_are value part xs s o n are within is_part) is

-- an offset that was read
pub offset_read : {T : Type 0} (value : T → ℤ) (xs : List T) (s : Spans) (i : ℕ) (x : T) → AreOffsets value xs s → i ≤ length s.lengths
    → x ≡ get_or xs i x → value x ≡ pos (offset_at s i)
offset_read value xs s i x are within is = ap value is ∙ value-AreOffsets value xs s i x are within
