-- Marks of which there may be more or fewer than slots, where their mask fits the slots: then each behind them has a value.
use Rattle.std.proofs.Common.{◌≡◌, ◌∙◌, ◌<◌, ◌≤◌, ◌+◌, ◌-◌, ℕ, zero, suc, List, [], ◌++◌, length, take, replicate, Bool, true, refl, sym, ap, arith}
use Rattle.std.specs.Prelude.{Option, None, ◌⊎◌, ◌∷◌, Result, Ok, Err}
use Rattle.std.proofs.lemmas.Bool.{eqb-true}
use Rattle.std.proofs.lemmas.List.{append-nil, append_assoc, length-append, length-replicate, length-take, replicate-append-replicate, take_all, take_at}
use mathlib.Core.Logic.{inl, inr}
use Rattle.nested_arrays_generic_builders.specs.nulls.columnar_memory.Bits.{unset_count}
use Rattle.nested_arrays_generic_builders.specs.nulls.columnar_memory.declared.Error.{Error}
use Rattle.nested_arrays_generic_builders.specs.nulls.columnar_memory.Error.{IsOutOfMemory, IsOverflow}
use Rattle.nested_arrays_generic_builders.specs.nulls.columns.Kinds.{most_slots}
use Rattle.nested_arrays_generic_builders.specs.nulls.columns.SoundColumns.{mask_fits}
use Rattle.nested_arrays_generic_builders.specs.cells.parts.Marks.{marks, mask_of_marks, TakesMark}
use Rattle.nested_arrays_generic_builders.proofs.ListSlots.{marks_many}
use Rattle.nested_arrays_generic_builders.proofs.cells_lemmas.parts_lemmas.MarkLists.{mask_none, mask_some, marks_back, none_unset, take_trues}
use Rattle.nested_arrays_sized_builders.specs.FixedListBuilders.{FillsMarks, filled, marks_for}

none_or_some : (n : ℕ) → (n ≡ 0) ⊎ (0 < n)
none_or_some zero = inl refl
none_or_some (suc n) = inr (omega arith)

-- ---- marks of values alone

trues : (ms : List Bool) → unset_count ms ≡ 0 → ms ≡ replicate (length ms) true
trues ms none = sym (marks_back ms (length ms) refl) ∙ ap (marks (length ms)) (mask_none ms none)

no_mask : (n : ℕ) → mask_of_marks (replicate n true) ≡ None
no_mask n = mask_none (replicate n true) (none_unset n)

-- the first of them
unset_first : (k n : ℕ) → unset_count (take k (replicate n true)) ≡ 0
unset_first zero n = refl
unset_first (suc k) zero = refl
unset_first (suc k) (suc n) = unset_first k n

first_unset : (ms : List Bool) (k : ℕ) → unset_count ms ≡ 0 → unset_count (take k ms) ≡ 0
first_unset ms k none = ap (λ (bits : List Bool). unset_count (take k bits)) (trues ms none) ∙ unset_first k (length ms)

pub first_few : (k : ℕ) (ms : List Bool) → length (take k ms) ≤ k
first_few k ms = omega (arith, length-take k ms)

fill_trues : (ms : List Bool) (n : ℕ) → unset_count ms ≡ 0 → length ms ≤ n → filled n ms ≡ replicate n true
fill_trues ms n none le =
    let all : length ms + (n - length ms) ≡ n = omega (arith, le) in
    ap (λ (bits : List Bool). bits ++ replicate (n - length ms) true) (trues ms none)
    ∙ replicate-append-replicate (length ms) (n - length ms) true ∙ ap (λ (k : ℕ). replicate k true) all

-- ---- marks under a mask that fits

module _ (ms : List Bool) (n : ℕ) (fit : mask_fits (mask_of_marks ms) n ≡ true) where
  -- a mark for each slot
  abbrev pub settled : List Bool
  settled = marks n (mask_of_marks ms)

  pub settled_many : length settled ≡ n
  settled_many = marks_many n (mask_of_marks ms) fit

  as_many : 0 < unset_count ms → length ms ≡ n
  as_many some = eqb-true (length ms) n (sym (ap (λ (mask : Option (List Bool)). mask_fits mask n) (mask_some ms some)) ∙ fit)

  all_valid : unset_count ms ≡ 0 → settled ≡ replicate n true
  all_valid none = ap (marks n) (mask_none ms none)

  own : 0 < unset_count ms → settled ≡ ms
  own some = ap (marks n) (mask_some ms some)

  -- they have the same mask
  pub settled_mask : mask_of_marks settled ≡ mask_of_marks ms
  settled_mask =
      elim (none_or_some (unset_count ms)) [
        | inl none ↦ ap mask_of_marks (all_valid none) ∙ no_mask n ∙ sym (mask_none ms none)
        | inr some ↦ ap mask_of_marks (own some)
      ]

  -- and so have the first of them
  pub settled_first : (k : ℕ) → k ≤ n → mask_of_marks (take k settled) ≡ mask_of_marks (take k ms)
  settled_first k le =
      elim (none_or_some (unset_count ms)) [
        | inl none ↦ ap (λ (bits : List Bool). mask_of_marks (take k bits)) (all_valid none) ∙ ap mask_of_marks (take_trues k n le) ∙ no_mask k
            ∙ sym (mask_none (take k ms) (first_unset ms k none))
        | inr some ↦ ap (λ (bits : List Bool). mask_of_marks (take k bits)) (own some)
      ]

  -- they are what marks are filled up to
  pub settled_for : marks_for n ms ≡ settled
  settled_for =
      elim (none_or_some (unset_count ms)) [
        | inl none ↦ fill_trues (take n ms) n (first_unset ms n none) (first_few n ms) ∙ sym (all_valid none)
        | inr some ↦ whole (take_all n ms (omega (arith, as_many some))) (as_many some) ∙ sym (own some)
      ]
    where
      whole : take n ms ≡ ms → length ms ≡ n → marks_for n ms ≡ ms
      whole all many =
          let none : n - length ms ≡ 0 = omega (arith, many) in
          ap (filled n) all ∙ ap (λ (k : ℕ). ms ++ replicate k true) none ∙ append-nil ms

-- ---- marks that are filled up

pub mark_more : (old : List Bool) (n : ℕ) → (old ++ replicate n true) ++ true ∷ [] ≡ old ++ replicate (n + 1) true
mark_more old n =
    append_assoc old (replicate n true) (true ∷ []) ∙ ap (λ (bits : List Bool). old ++ bits) (replicate-append-replicate n 1 true)

module _ (old now new : List Bool) (n lists : ℕ) (mark : Bool) (held : now ≡ old ++ replicate n true) where
  now_long : length now ≡ length old + n
  now_long = ap length held ∙ length-append old (replicate n true) ∙ ap (λ (k : ℕ). length old + k) (length-replicate n true)

  begins_so : take (length old) now ≡ old
  begins_so = ap (take (length old)) held ∙ take_at old (replicate n true) (length old) refl

  -- a mark of a value is refused
  pub filling_stopped : (e : Error) → n < lists - length old → new ≡ now → IsOutOfMemory e ⊎ (IsOverflow e × (length now ≡ most_slots))
      → (length old ≤ length new) × (take (length old) new ≡ old) × (IsOutOfMemory e ⊎ (IsOverflow e × (most_slots ≤ lists)))
  filling_stopped e less same why = (
    omega (arith, now_long, ap length same),
    ap (take (length old)) same ∙ begins_so,
    elim why [ inl memory ↦ inl memory | inr over ↦ inr (over.0, omega (arith, over.1, now_long, less)) ],
  )

  -- the last mark
  pub filling_ends : {U : Type 0} (r : Result U Error) → length old ≤ lists → n ≡ lists - length old → TakesMark now mark new r
      → FillsMarks old lists mark new r
  filling_ends (Ok u) le all h = (
    h.0 ∙ ap (λ (bits : List Bool). bits ++ mark ∷ []) (held ∙ ap (λ (k : ℕ). old ++ replicate k true) all),
    omega (arith, h.1, now_long, all, le),
  )
  filling_ends (Err e) le all h = (
    omega (arith, now_long, ap length h.0),
    ap (take (length old)) h.0 ∙ begins_so,
    elim h.1 [ inl memory ↦ inl memory | inr over ↦ inr (over.0, omega (arith, over.1, now_long, all, le)) ],
  )

-- the new marks are taken off again
pub marks_off : (old new left : List Bool) (held : ℕ) → take (length old) new ≡ old → held ≡ length old → left ≡ take held new → left ≡ old
marks_off old new left held again is taken = taken ∙ ap (λ (k : ℕ). take k new) is ∙ again
