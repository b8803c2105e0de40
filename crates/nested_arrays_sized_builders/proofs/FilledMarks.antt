-- Marks of lists of which some were not closed, one for each list, and those of others behind them.
use Rattle.std.proofs.Common.{◌≡◌, ◌∙◌, ◌<◌, ◌≤◌, ◌+◌, ◌-◌, ◌*◌, ℕ, List, ◌++◌, length, take, replicate, get_or, Bool, true, false, refl, sym, ap}
use Rattle.std.proofs.Common.{arith}
use Rattle.std.specs.Prelude.{Some, ◌/◌, ◌%◌, ◌↔◌, ◌⊎◌, slice_get, Result, Ok, Err, MatchResult}
use Rattle.std.proofs.Math.Nat.{div-add-mod}
use Rattle.std.proofs.lemmas.List.{append_assoc, get_or-append_right, get_or_append_left, get_or-replicate, get_or-take, length-append}
use Rattle.std.proofs.lemmas.List.{length-replicate, length-take, take_all}
use Rattle.std.proofs.lemmas.Option.{get_or_from_slice_get}
use mathlib.Core.Logic.{inl, inr}
use Rattle.nested_arrays_generic_builders.specs.nulls.columnar_memory.declared.Error.{Error}
use Rattle.nested_arrays_generic_builders.specs.nulls.columnar_memory.Error.{IsOutOfMemory}
use Rattle.nested_arrays_generic_builders.specs.nulls.columns.Kinds.{most_slots}
use Rattle.nested_arrays_generic_builders.specs.nulls.columns.SoundColumns.{mask_fits}
use Rattle.nested_arrays_generic_builders.specs.nulls.columns.StoredColumns.{Column}
use Rattle.nested_arrays_generic_builders.specs.cells.parts.Marks.{mask_of_marks}
use Rattle.nested_arrays_sized_builders.specs.FixedListBuilders.{FixedListParts, JoinsFilled, JoinsFixedLists, filled, fixed_list_parts}
use Rattle.nested_arrays_sized_builders.specs.FixedListBuilders.{lists_made, marks_for, missing_and}
use Rattle.nested_arrays_sized_builders.proofs.SettledMarks.{first_few, settled, settled_first, settled_for, settled_many, settled_mask}

-- there is one for each list
pub for_many : (n : ℕ) (ms : List Bool) → length (marks_for n ms) ≡ n
for_many n ms =
    let first = take n ms in
    let rest = n - length first in
    omega (arith, length-append first (replicate rest true), length-replicate rest true, first_few n ms)

module _ (ms : List Bool) (n : ℕ) (fit : mask_fits (mask_of_marks ms) n ≡ true) where
  -- they have the mask of those that were there
  pub for_mask : mask_of_marks (marks_for n ms) ≡ mask_of_marks ms
  for_mask = ap mask_of_marks (settled_for ms n fit) ∙ settled_mask ms n fit

  -- and of the first of these
  pub for_first : mask_of_marks (marks_for n ms) ≡ mask_of_marks (take n ms)
  for_first =
      let all : take n (settled ms n fit) ≡ settled ms n fit = take_all n (settled ms n fit) (omega (arith, settled_many ms n fit)) in
      ap mask_of_marks (settled_for ms n fit ∙ sym all) ∙ settled_first ms n fit n (omega arith)

-- ---- marks behind others

module _ (k : ℕ) (more : List Bool) (m : ℕ) where
  pub missing_many : length (missing_and k more m) ≡ k + m
  missing_many = omega (arith, length-append (replicate k true) (marks_for m more), length-replicate k true, for_many m more)

  -- one of the missing ones
  pub mark_missing : (i : ℕ) → i < k → get_or (missing_and k more m) i false ≡ true
  mark_missing i h =
      get_or_append_left (replicate k true) (marks_for m more) false i (omega (arith, h, length-replicate k true))
      ∙ get_or-replicate k i true false h

  behind_missing : (i : ℕ) → k ≤ i → get_or (missing_and k more m) i false ≡ get_or (marks_for m more) (i - k) false
  behind_missing i h = get_or-append_right (replicate k true) (marks_for m more) k i false (length-replicate k true) h

  -- one that is there
  pub mark_there : (i own : ℕ) (b : Bool) → k ≤ i → i < k + m → own ≡ i - k → own < length more → slice_get more own ≡ Some b
      → get_or (missing_and k more m) i false ≡ b
  mark_there i own b h lt is there same =
      let first = take m more in
      behind_missing i h ∙ ap (λ (j : ℕ). get_or (marks_for m more) j false) (sym is)
      ∙ get_or_append_left first (replicate (m - length first) true) false own (omega (arith, h, lt, is, there, length-take m more))
      ∙ get_or-take m more own false (omega (arith, h, lt, is))
      ∙ get_or_from_slice_get more own b false same

  -- one of a list that was not closed
  pub mark_open : (i own : ℕ) → k ≤ i → i < k + m → own ≡ i - k → length more ≤ own → get_or (missing_and k more m) i false ≡ true
  mark_open i own h lt is past =
      let first = take m more in
      let rest = m - length first in
      let few : length first ≤ own = omega (arith, past, length-take m more) in
      behind_missing i h ∙ ap (λ (j : ℕ). get_or (marks_for m more) j false) (sym is)
      ∙ get_or-append_right first (replicate rest true) (length first) own false refl few
      ∙ get_or-replicate rest (own - length first) true false (omega (arith, few, h, lt, is))

-- marks that were filled up, and those of others
pub filled_joined : {U : Type 0} (old more new : List Bool) (n m missing : ℕ) (r : Result U Error) → missing ≡ n - length old → n + m ≤ most_slots
    → MatchResult r (λ _. new ≡ old ++ missing_and missing more m) (λ e. (new ≡ old) × IsOutOfMemory e) → JoinsFilled old n more m new r
filled_joined old more new n m missing (Ok u) is room h = (
  h ∙ ap (λ (k : ℕ). old ++ missing_and k more m) is ∙ sym (append_assoc old (replicate (n - length old) true) (marks_for m more)),
  room,
)
filled_joined old more new n m missing (Err e) is room h = (h.0, inl h.1)

-- ---- lists

-- whether items are those of lists, by what is left over
pub whole_by_rest : (n size wide : ℕ) → wide ≡ size → (n % size ≡ 0) ↔ (n ≡ wide * (n / wide))
whole_by_rest n size wide is =
    let same : wide * (n / wide) ≡ size * (n / size) = λ j. is j * (n / is j) in
    (λ none. omega (arith, same, none, div-add-mod n size), λ whole. omega (arith, same, whole, div-add-mod n size))

module _ {M : Type 0} (column : M → Column) (old other : FixedListParts M) where
  pub lists_marked : {U : Type 0} (n m : ℕ) (first ms : List Bool) (r : Result U Error) → n ≡ lists_made column old → m ≡ lists_made column other
      → first ≡ take n old.marks → JoinsFilled first n other.marks m ms r
      → JoinsFixedLists column old other (fixed_list_parts old.data_type ms old.values) r
  lists_marked n m first ms (Ok u) is other_is kept h =
      let both : ms ≡ marks_for (lists_made column old) old.marks ++ marks_for (lists_made column other) other.marks =
      h.0 ∙ ap (λ (bits : List Bool). filled n bits ++ marks_for m other.marks) kept
      ∙ (λ j. marks_for (is j) old.marks ++ marks_for (other_is j) other.marks) in (
        (λ j. fixed_list_parts old.data_type (both j) old.values),
        omega (arith, h.1, is, other_is),
      )
  lists_marked n m first ms (Err e) is other_is kept h =
      let left : ms ≡ take (lists_made column old) old.marks = h.0 ∙ kept ∙ ap (λ (k : ℕ). take k old.marks) is in (
        (λ j. fixed_list_parts old.data_type (left j) old.values),
        elim h.1 [ inl memory ↦ inl memory | inr over ↦ inr (over.0, omega (arith, over.1, is, other_is)) ],
      )
