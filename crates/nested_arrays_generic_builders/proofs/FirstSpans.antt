-- Spans of which the last ones go, one by one.
use Rattle.std.proofs.Common.{◌≡◌, ℕ, ◌≤◌, length, ap, arith}
use Rattle.std.proofs.lemmas.List.{take-take, take_all}
use Rattle.nested_arrays_nulls.specs.columnar_memory.Spans.{Spans, first_spans}

pub first_again : (s : Spans) (m n : ℕ) → n ≤ m → first_spans (first_spans s m) n ≡ first_spans s n
first_again s m n le = ap (λ ls. record { start = s.start; lengths = ls }) (take-take n m s.lengths le)

pub first_all : (s : Spans) (n : ℕ) → n ≡ length s.lengths → first_spans s n ≡ s
first_all s n e = ap (λ ls. record { start = s.start; lengths = ls }) (take_all n s.lengths (omega (arith, e)))
