-- Byte strings that stand one behind another are the same where they are as long and all their bytes are the same.
use Rattle.std.proofs.Common.{◌≡◌, ◌∙◌, ◌<◌, ◌≤◌, ◌+◌, ◌-◌, ◌++◌, [], ℕ, zero, suc, Bool, List, true, false, refl, sym, ap, arith, length}
use Rattle.std.proofs.Common.{below_more, drop, take}
use Rattle.std.specs.Prelude.{◌↔◌, ◌&&◌, IsTrue, slice_index, slice_range}
use Rattle.std.proofs.Math.Seq.{drop-append_seam, take-append-add, take-append_seam}
use Rattle.std.proofs.lemmas.Bool.{false≢true}
use Rattle.std.proofs.lemmas.List.Folds.{drop_split}
use Rattle.nested_arrays_flat.specs.columnar_memory.Spans.{Spans, last_of, offset_at, offsets_of}
use Rattle.nested_arrays_flat.specs.columns.StoredColumns.{string_at}
use Rattle.nested_arrays_flat.proofs.columnar_memory_lemmas.buffer_lemmas.Runs.{offset_at-le-last_of, offset_at-more}
use Rattle.nested_arrays_flat.proofs.flat_arrays_lemmas.bytes_lemmas.Ranges.{range_len}
use Rattle.nested_arrays_flat.proofs.Offsets.{get_or-offsets_of}
use Rattle.nested_arrays_parts.specs.Ranges.{bytes_between, SameLengths, SameStrings}

-- ---- lengths

pub span_length : (s : Spans) (i start end : ℕ) → i < length s.lengths → start ≡ offset_at s i → end ≡ offset_at s (i + 1)
    → end - start ≡ slice_index s.lengths i
span_length s i start end h from to = omega (arith, from, to, offset_at-more s i h)

-- what holds below a place and at it holds below the next one
pub one_more : (P : ℕ → Type 0) (n : ℕ) (before here : Bool) → IsTrue before ↔ ((k : ℕ) → k < n → P k) → IsTrue here ↔ P n
    → IsTrue (before && here) ↔ ((k : ℕ) → k < n + 1 → P k)
one_more P n true here run next = (λ h. below_more P n (run.0 refl) (next.0 h), λ all. next.1 (all n (omega arith)))
one_more P n false here run next = (λ h. absurd (false≢true h), λ all. absurd (false≢true (run.1 (λ k h. all k (omega (arith, h))))))

no_further : (s : Spans) (i : ℕ) → offset_at s (i + zero) ≡ offset_at s i
no_further s i = let is : i + zero ≡ i = omega arith in ap (offset_at s) is

one_further : (s : Spans) (i n : ℕ) → offset_at s (i + suc n) ≡ offset_at s (i + n + 1)
one_further s i n = let is : i + suc n ≡ i + n + 1 = omega arith in ap (offset_at s) is

pub rises : (s : Spans) (i n : ℕ) → i + n ≤ length s.lengths → offset_at s i ≤ offset_at s (i + n)
rises s i zero h = omega (arith, no_further s i)
rises s i (suc n) h =
    omega (arith, rises s i n (omega (arith, h)), offset_at-more s (i + n) (omega (arith, h)), one_further s i n)

pub ends_behind : (s : Spans) (i n : ℕ) → 0 < n → i + n ≤ length s.lengths → offset_at s i ≤ offset_at s (i + n - 1 + 1)
ends_behind s i n some within =
    let is : i + n - 1 + 1 ≡ i + n = omega (arith, some) in omega (arith, rises s i n within, ap (offset_at s) is)

-- ---- the bytes of strings

string_between : (s : Spans) (bytes : List ℕ) (i : ℕ) → i < length s.lengths → string_at (offsets_of s) bytes i ≡ bytes_between s bytes i (i + 1)
string_between s bytes i h =
    let from = get_or-offsets_of s i (omega (arith, h)) in
    let to = get_or-offsets_of s (i + 1) (omega (arith, h)) in
    λ j. slice_range bytes (from j) (to j)

joined : (xs : List ℕ) (a b c : ℕ) → a ≤ b → b ≤ c → c ≤ length xs → slice_range xs a c ≡ slice_range xs a b ++ slice_range xs b c
joined xs a b c before behind within =
    let long = range_len xs a b (omega (arith, behind, within)) in
    let far : c - a ≡ length (slice_range xs a b) + (c - b) = omega (arith, before, behind, long) in
    (λ j. take (far j) (drop_split xs a b before j))
    ∙ take-append-add (slice_range xs a b) (drop b xs) (c - b)

-- two lists that are joined alike, of which the first are as long, are the same
front : (a b s t : List ℕ) → length a ≡ length b → a ++ s ≡ b ++ t → a ≡ b
front a b s t long is = sym (take-append_seam a s) ∙ (λ j. take (long j) (is j)) ∙ take-append_seam b t

behind : (a b s t : List ℕ) → length a ≡ length b → a ++ s ≡ b ++ t → s ≡ t
behind a b s t long is = sym (drop-append_seam a s) ∙ (λ j. drop (long j) (is j)) ∙ drop-append_seam b t

no_bytes : (s : Spans) (bytes : List ℕ) (i : ℕ) → bytes_between s bytes i (i + zero) ≡ []
no_bytes s bytes i =
    let none : offset_at s (i + zero) - offset_at s i ≡ 0 = omega (arith, no_further s i) in ap (λ n. take n (drop (offset_at s i) bytes)) none

-- one string more
next : (s : Spans) (bytes : List ℕ) (i n : ℕ) → i + n < length s.lengths → last_of s ≤ length bytes
    → bytes_between s bytes i (i + n + 1) ≡ bytes_between s bytes i (i + n) ++ bytes_between s bytes (i + n) (i + n + 1)
next s bytes i n h within =
    joined bytes (offset_at s i) (offset_at s (i + n)) (offset_at s (i + n + 1)) (rises s i n (omega (arith, h)))
    (omega (arith, offset_at-more s (i + n) h)) (omega (arith, within, offset_at-le-last_of s (i + n + 1)))

-- strings that are as long take as many bytes
as_many : (l r : Spans) (i j n : ℕ) → i + n ≤ length l.lengths → j + n ≤ length r.lengths → SameLengths l.lengths i r.lengths j n
    → offset_at l (i + n) + offset_at r j ≡ offset_at r (j + n) + offset_at l i
as_many l r i j zero left right same =
    omega (arith, no_further l i, no_further r j)
as_many l r i j (suc n) left right same =
    omega (
      arith,
      as_many l r i j n (omega (arith, left)) (omega (arith, right)) (λ k h. same k (omega (arith, h))),
      same n (omega arith),
      offset_at-more l (i + n) (omega (arith, left)),
      offset_at-more r (j + n) (omega (arith, right)),
      one_further l i n,
      one_further r j n,
    )

long_before : (l r : Spans) (xs ys : List ℕ) (i j n : ℕ) → i + n ≤ length l.lengths → j + n ≤ length r.lengths → last_of l ≤ length xs
    → last_of r ≤ length ys → SameLengths l.lengths i r.lengths j n → length (bytes_between l xs i (i + n)) ≡ length (bytes_between r ys j (j + n))
long_before l r xs ys i j n left right within other_within same =
    omega (
      arith,
      range_len xs (offset_at l i) (offset_at l (i + n)) (omega (arith, within, offset_at-le-last_of l (i + n))),
      range_len ys (offset_at r j) (offset_at r (j + n)) (omega (arith, other_within, offset_at-le-last_of r (j + n))),
      as_many l r i j n left right same,
      rises l i n left,
      rises r j n right,
    )

-- strings that are as long are the same exactly where all their bytes are
pub same_bytes : (l r : Spans) (xs ys : List ℕ) (i j n : ℕ) → i + n ≤ length l.lengths → j + n ≤ length r.lengths → last_of l ≤ length xs
    → last_of r ≤ length ys → SameLengths l.lengths i r.lengths j n
    → (bytes_between l xs i (i + n) ≡ bytes_between r ys j (j + n)) ↔ SameStrings (offsets_of l) xs i (offsets_of r) ys j n
same_bytes l r xs ys i j zero left right within other_within same = (
  λ is k h. absurd (omega (arith, h)),
  λ all. no_bytes l xs i ∙ sym (no_bytes r ys j),
)
same_bytes l r xs ys i j (suc n) left right within other_within same =
    let before = same_bytes l r xs ys i j n (omega (arith, left)) (omega (arith, right)) within other_within (λ k h. same k (omega (arith, h))) in
    let long = long_before l r xs ys i j n (omega (arith, left)) (omega (arith, right)) within other_within (λ k h. same k (omega (arith, h))) in
    let one = string_between l xs (i + n) (omega (arith, left)) in
    let other = string_between r ys (j + n) (omega (arith, right)) in
    let here : i + suc n ≡ i + n + 1 = omega arith in
    let there : j + suc n ≡ j + n + 1 = omega arith in
    let more = ap (bytes_between l xs i) here ∙ next l xs i n (omega (arith, left)) within in
    let other_more = ap (bytes_between r ys j) there ∙ next r ys j n (omega (arith, right)) other_within in (
      λ is k h.
          let both = sym more ∙ is ∙ other_more in
          below_more (λ k. string_at (offsets_of l) xs (i + k) ≡ string_at (offsets_of r) ys (j + k)) n
          (before.0 (front (bytes_between l xs i (i + n)) (bytes_between r ys j (j + n)) _ _ long both))
          (one ∙ behind (bytes_between l xs i (i + n)) (bytes_between r ys j (j + n)) _ _ long both ∙ sym other) k (omega (arith, h)),
      λ all.
          more ∙ (λ m. before.1 (λ k h. all k (omega (arith, h))) m ++ (sym one ∙ all n (omega arith) ∙ other) m) ∙ sym other_more,
    )

-- strings that are the same are as long
pub as_long : (l r : Spans) (xs ys : List ℕ) (i j n : ℕ) → i + n ≤ length l.lengths → j + n ≤ length r.lengths → last_of l ≤ length xs
    → last_of r ≤ length ys → SameStrings (offsets_of l) xs i (offsets_of r) ys j n → SameLengths l.lengths i r.lengths j n
as_long l r xs ys i j n left right within other_within all k h =
    let is = sym (string_between l xs (i + k) (omega (arith, h, left))) ∙ all k h ∙ string_between r ys (j + k) (omega (arith, h, right)) in
    omega (
      arith,
      ap length is,
      range_len xs (offset_at l (i + k)) (offset_at l (i + k + 1)) (omega (arith, within, offset_at-le-last_of l (i + k + 1))),
      range_len ys (offset_at r (j + k)) (offset_at r (j + k + 1)) (omega (arith, other_within, offset_at-le-last_of r (j + k + 1))),
      offset_at-more l (i + k) (omega (arith, h, left)),
      offset_at-more r (j + k) (omega (arith, h, right)),
    )
