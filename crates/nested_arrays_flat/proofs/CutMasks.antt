-- Masks and what is cut out of them.
use Rattle.std.proofs.Common.{◌≡◌, ℕ, ◌+◌, ◌<◌, ◌≤◌, List, take, drop, length, ap, sym, arith}
use Rattle.std.specs.Prelude.{Bool, true, false, Option, Some, None, slice_get}
use Rattle.std.specs.Option.{ForSome}
use Rattle.std.proofs.lemmas.Bool.{eq-eqb, eqb-true}
use Rattle.std.proofs.lemmas.Option.{get_or_from_slice_get}
use Rattle.flat_arrays_core.specs.columnar_memory.Window.{window}
use Rattle.nested_arrays_columns.specs.SoundColumns.{mask_fits}
use Rattle.nested_arrays_columns.specs.StoredColumns.{cut_list, is_valid_at}

pub cut_window : {A : Type 0} (xs : List A) (o n : ℕ) → cut_list xs o n ≡ window xs o n
cut_window xs o n = ap (λ k. take k (drop o xs)) (omega arith)

abbrev option_len : Option (List Bool) → ℕ
option_len None = 0
option_len (Some marks) = length marks

-- a part of the slots is a part of the marks
pub marks_within : (mask : Option (List Bool)) (len o n : ℕ) → mask_fits mask len ≡ true → o + n ≤ len
    → ForSome mask (λ marks. o + n ≤ length marks)
marks_within None len o n h within = λ x e. absurd cc
marks_within (Some marks) len o n h within = λ x e.
    let same : length marks ≡ length x = ap option_len e in
    omega (arith, eqb-true (length marks) len h, same)

-- a slot has a mark
pub mark_within : (mask : Option (List Bool)) (len i : ℕ) → mask_fits mask len ≡ true → i < len → ForSome mask (λ marks. i < length marks)
mark_within None len i h within = λ x e. absurd cc
mark_within (Some marks) len i h within = λ x e.
    let same : length marks ≡ length x = ap option_len e in
    omega (arith, eqb-true (length marks) len h, same)

-- as many marks as slots
pub marks_fit : (marks : List Bool) (n : ℕ) → length marks ≡ n → mask_fits (Some marks) n ≡ true
marks_fit marks n h = eq-eqb (length marks) n h

pub marks_of_fit : (marks : List Bool) (n : ℕ) → mask_fits (Some marks) n ≡ true → length marks ≡ n
marks_of_fit marks n h = eqb-true (length marks) n h

pub ruleset fitting = (marks_fit, marks_of_fit)

-- the mark at a place
pub mark_there : (marks : List Bool) (i : ℕ) (mark : Bool) → slice_get marks i ≡ Some mark → mark ≡ is_valid_at (Some marks) i
mark_there marks i mark is = sym (get_or_from_slice_get marks i mark false is)

pub ruleset marked = (mark_there)
