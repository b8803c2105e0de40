-- A step for each buffer of some columns that are read one after another.
use Rattle.std.proofs.Common.{◌≡◌, ◌∙◌, ◌+◌, ◌-◌, ◌≤◌, ◌++◌, ℕ, List, [], ◌∷◌, length, map, drop, sym, ap, arith}
use Rattle.std.specs.Prelude.{Ok, sum_by}
use Rattle.std.proofs.lemmas.List.{length-drop, map-append}
use Rattle.std.proofs.lemmas.List.Sums.{sum_by-append, sum_by-cons}
use Rattle.ipc_format_reading.specs.Queues.{TakesOff}
use Rattle.ipc_format_reading.specs.grammar.Layouts.{total}
use Rattle.ipc_format_batch_reading.specs.BufferCounts.{CountsTaken}

-- Some columns were read, each of so many buffers: a step for each of these, and with the buffers that are left no more than there were.
abbrev pub CountedTo : {F : Type 0} → (F → ℕ) → List F → ℕ → ℕ → ℕ → ℕ → Type 0
CountedTo count fields left had old now = (now ≡ old + total (map count fields)) × (now + left ≤ old + had)

pub counted_none : {F : Type 0} (count : F → ℕ) (had old : ℕ) → CountedTo count [] had had old old
counted_none count had old = (omega arith, omega arith)

-- the buffers of one column more
total_more : {F : Type 0} (count : F → ℕ) (fields : List F) (u : F) → total (map count (fields ++ u ∷ [])) ≡ total (map count fields) + count u
total_more count fields u =
    let last : sum_by (λ (n : ℕ). n) (count u ∷ []) ≡ count u = sum_by-cons (λ (n : ℕ). n) (count u) [] ∙ omega arith in
    ap total (map-append count fields (u ∷ []))
    ∙ sum_by-append (λ (n : ℕ). n) (map count fields) (count u ∷ [])
    ∙ ap (λ n. total (map count fields) + n) last

pub counted_more : {A F X : Type 0} (count : F → ℕ) (fields more : List F) (u : F) (others over end : List X) (m had old now new : ℕ) (a : A)
    → more ≡ fields ++ u ∷ [] → over ≡ drop m others → TakesOff (count u) over end (Ok a) → new ≡ now + (length over - length end)
    → CountedTo count fields (length others) had old now → CountedTo count more (length end) had old new
counted_more count fields more u others over end m had old now new a are passed taken steps before =
    let sum : total (map count more) ≡ total (map count fields) + count u = ap (λ ys. total (map count ys)) are ∙ total_more count fields u in
    let left : length over ≡ length others - m = ap length passed ∙ length-drop m others in
    let rest : length end ≡ length over - count u = ap length taken.1 ∙ length-drop (count u) over in (
      omega (arith, sum, rest, steps, taken.0, before.0),
      omega (arith, left, rest, steps, taken.0, before.1),
    )

-- all columns were read
pub counted_all : {A F : Type 0} (count : F → ℕ) (fields all : List F) (left had old now : ℕ) (a : A) → fields ≡ all
    → CountedTo count fields left had old now → CountsTaken (total (map count all)) had old now (Ok a)
counted_all count fields all left had old now a are before =
    let sum : total (map count fields) ≡ total (map count all) = ap (λ ys. total (map count ys)) are in
    (omega (arith, sum, before.0, before.1), omega (arith, sum, before.0))

-- what comes next is refused, without a buffer that is taken off
pub counted_stop : {F : Type 0} (count : F → ℕ) (fields : List F) (left had old now : ℕ) → CountedTo count fields left had old now
    → (old ≤ now) × (now ≤ old + had)
counted_stop count fields left had old now before = (omega (arith, before.0), omega (arith, before.1))

-- the next column is refused
pub counted_refused : {F X : Type 0} (count : F → ℕ) (fields : List F) (others over end : List X) (m had old now new : ℕ)
    → over ≡ drop m others → new ≡ now + (length over - length end) → CountedTo count fields (length others) had old now
    → (old ≤ new) × (new ≤ old + had)
counted_refused count fields others over end m had old now new passed steps before =
    let left : length over ≡ length others - m = ap length passed ∙ length-drop m others in
    (omega (arith, steps, before.0), omega (arith, left, steps, before.1))
