-- A slice of a slice of offsets is one slice.
use Rattle.std.proofs.Common.{◌≡◌, ℕ, ◌+◌, ◌≤◌, List, ◌++◌, take, drop, sum, ap, ◌∙◌, sym, arith}
use Rattle.std.proofs.lemmas.List.{take-append-drop, take-take, drop-take}
use Rattle.std.proofs.lemmas.List.Sums.{sum_by-append}
use Rattle.columnar_memory_buffer.specs.Spans.{Spans, offset_at, spans_between}
use Rattle.columnar_memory_buffer.proofs.Windows.{windows_join}

take-split : (ls : List ℕ) (a b : ℕ) → take (a + b) ls ≡ take a ls ++ take b (drop a ls)
take-split ls a b =
    let le : a ≤ a + b = omega arith in
    sym (take-append-drop a (take (a + b) ls)) ∙ ap (λ front. front ++ drop a (take (a + b) ls)) (take-take a (a + b) ls le)
    ∙ ap (λ back. take a ls ++ back) (drop-take a b ls)

pub offset_at-spans_between : (s : Spans) (a n b : ℕ) → b ≤ n → offset_at (spans_between s a n) b ≡ offset_at s (a + b)
offset_at-spans_between s a n b le =
    let inner : sum (take b (take n (drop a s.lengths))) ≡ sum (take b (drop a s.lengths)) = ap sum (take-take b n (drop a s.lengths) le) in
    let whole : sum (take (a + b) s.lengths) ≡ sum (take a s.lengths ++ take b (drop a s.lengths)) = ap sum (take-split s.lengths a b) in
    omega (arith, inner, whole, sum_by-append (λ x. x) (take a s.lengths) (take b (drop a s.lengths)))

pub slices_join : (s : Spans) (a n b m : ℕ) → b + m ≤ n → spans_between (spans_between s a n) b m ≡ spans_between s (a + b) m
slices_join s a n b m h =
    let le : b ≤ n = omega arith in
    let start : offset_at (spans_between s a n) b ≡ offset_at s (a + b) = offset_at-spans_between s a n b le in
    λ i. record { start = start i; lengths = windows_join s.lengths a n b m h i }
