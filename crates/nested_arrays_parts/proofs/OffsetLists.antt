-- Offsets within a limit.
use Rattle.std.proofs.Common.{◌≡◌, ℕ, ◌+◌, ◌-◌, ◌≤◌, List, [], ◌∷◌, length, sum, arith, true}
use Rattle.std.specs.Prelude.{◌&&◌, nat_le}
use Rattle.std.specs.List.{list_all}
use Rattle.std.proofs.lemmas.Bool.{and_parts, leb-true}
use Rattle.std.proofs.lemmas.List.Sums.{sum_by-cons}
use Rattle.nested_arrays_flat.specs.columnar_memory.Spans.{Spans, ends_from, offsets_of, last_of}
use Rattle.nested_arrays_flat.specs.columns.SoundColumns.{holds_below, rises_at, are_offsets}
pub use Rattle.nested_arrays_flat.proofs.Offsets.{cut_offsets, spans_count}
pub use Rattle.nested_arrays_flat.proofs.SoundStrings.{spans_sound}

sum-cons : (l : ℕ) (ls : List ℕ) → sum (l ∷ ls) ≡ l + sum ls
sum-cons l ls = sum_by-cons (λ x. x) l ls

last_within : (before : ℕ) (lengths : List ℕ) (limit : ℕ) → before ≤ limit
    → list_all (λ offset. nat_le offset limit) (ends_from before lengths) ≡ true → before + sum lengths ≤ limit
last_within before [] limit le h = omega (arith, le)
last_within before (l ∷ ls) limit le h =
    let parts = and_parts (nat_le (before + l) limit) (list_all (λ offset. nat_le offset limit) (ends_from (before + l) ls)) h in
    omega (arith, last_within (before + l) ls limit (leb-true (before + l) limit parts.0) parts.1, sum-cons l ls)

-- offsets within a limit are of spans that end within it
pub offsets_end_within : (s : Spans) (limit : ℕ) → are_offsets (offsets_of s) limit ≡ true → last_of s ≤ limit
offsets_end_within s limit h =
    let all = and_parts (nat_le 1 (length (offsets_of s)) && holds_below (length (offsets_of s) - 1) (rises_at (offsets_of s)))
    (list_all (λ offset. nat_le offset limit) (offsets_of s)) h in
    let parts = and_parts (nat_le s.start limit) (list_all (λ offset. nat_le offset limit) (ends_from s.start s.lengths)) all.1 in
    last_within s.start s.lengths limit (leb-true s.start limit parts.0) parts.1
