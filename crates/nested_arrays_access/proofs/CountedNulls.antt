-- The laws of nulls, as the functions of the crate promise them.
use Rattle.std.proofs.Common.{◌≡◌, ◌∙◌, ◌<◌, ◌+◌, ℕ, zero, suc, List, [], ◌∷◌, length, get_or, cond, true, false, refl, sym, ap, arith}
use Rattle.std.specs.Prelude.{Bool, pos, not, ◌-◌, Option, Some, None, if◌then◌else◌, slice_index, slice_index_or}
use Rattle.std.specs.List.{count_by, list_all}
use Rattle.std.proofs.lemmas.List.Sums.{sum_by-cons}
use Rattle.std.proofs.lemmas.Bool.{eqb-true, false≢true, ltb-true}
use Rattle.nested_arrays_arrays.proofs.columns_lemmas.Conditions.{holds_at, parts_of_5}
use Rattle.nested_arrays_arrays.specs.columns.Kinds.{is_signed}
use Rattle.nested_arrays_arrays.specs.columns.Slots.{Slot, null, window}
use Rattle.nested_arrays_arrays.specs.columns.SoundColumns.{are_sound, column_lens, has_child_at, has_child_types, has_places, holds_below, mask_fits}
use Rattle.nested_arrays_arrays.specs.columns.StoredColumns.{Columns, nulls, flat, lists, fixed_lists, records, unions, dictionary, no_column}
use Rattle.nested_arrays_arrays.specs.columns.StoredColumns.{column_then, Stored, bits, numbers, pairs, triples, texts, byte_strings, fixed_bytes, stored_at}
use Rattle.nested_arrays_arrays.specs.columns.StoredColumns.{child_number, column_len, is_valid_at, picked_at, type_layer, union_place, unless_null}
use Rattle.nested_arrays_arrays.proofs.flat_lemmas.ColumnParts.{sound_mask}
use Rattle.nested_arrays_arrays.specs.flat.ColumnMasks.{unset_in}
use Rattle.nested_arrays_access.specs.NullLaws.{NullsAreNull, NullsCounted, NullsShow}
use Rattle.nested_arrays_access.specs.Nulls.{is_null_at}

-- ---- how many

count_one : (test : ℕ → Bool) (o : ℕ) (b : Bool) (xs : List ℕ) (k : ℕ) → test o ≡ b → count_by test xs ≡ k
    → count_by test (o ∷ xs) ≡ cond b 1 0 + k
count_one test o b xs k first rest = sum_by-cons (λ i. cond (test i) 1 0) o xs ∙ (λ j. cond (first j) 1 0 + rest j)

count_marks : (test : ℕ → Bool) (marks : List Bool) (o : ℕ) → ((i : ℕ) → i < length marks → test (o + i) ≡ not (get_or marks i false))
    → count_by test (window (λ i. i) o (length marks)) ≡ count_by not marks
count_marks test [] o each = refl
count_marks test (mark ∷ marks) o each =
    count_one test o (not mark) (window (λ i. i) (o + 1) (length marks)) (count_by not marks) (ap test (omega arith) ∙ each 0 (omega arith))
    (count_marks test marks (o + 1) (λ i small. ap test (omega arith) ∙ each (suc i) (omega arith)))
    ∙ sym (sum_by-cons (λ b. cond (not b) 1 0) mark marks)

count_none : (test : ℕ → Bool) (o n : ℕ) → ((i : ℕ) → test i ≡ false) → count_by test (window (λ i. i) o n) ≡ 0
count_none test o zero each = refl
count_none test o (suc n) each =
    count_one test o false (window (λ i. i) (o + 1) n) 0 (each o) (count_none test (o + 1) n each) ∙ omega arith

count_all : (test : ℕ → Bool) (o n : ℕ) → ((i : ℕ) → test i ≡ true) → count_by test (window (λ i. i) o n) ≡ n
count_all test o zero each = refl
count_all test o (suc n) each =
    count_one test o true (window (λ i. i) (o + 1) n) n (each o) (count_all test (o + 1) n each) ∙ omega arith

counted_mask : (mask : Option (List Bool)) (n : ℕ) → mask_fits mask n ≡ true
    → count_by (λ i. not (is_valid_at mask i)) (window (λ i. i) 0 n) ≡ unset_in mask
counted_mask None n fits = count_none (λ i. false) 0 n (λ i. refl)
counted_mask (Some marks) n fits =
    let test = λ (i : ℕ). not (get_or marks i false) in
    ap (λ k. count_by test (window (λ i. i) 0 k)) (sym (eqb-true (length marks) n fits))
    ∙ count_marks test marks 0 (λ i small. ap test (omega arith))

pub nulls_counted : NullsCounted
nulls_counted (nulls t n) sound = count_all (is_null_at (nulls t n)) 0 n (λ i. refl)
nulls_counted (flat t mask stored) sound = counted_mask mask (column_len (flat t mask stored)) (sound_mask (flat t mask stored) sound)
nulls_counted (lists t mask offsets child) sound =
    counted_mask mask (length offsets - 1) (sound_mask (lists t mask offsets child) sound)
nulls_counted (fixed_lists t mask size child) sound =
    counted_mask mask (column_len (fixed_lists t mask size child)) (sound_mask (fixed_lists t mask size child) sound)
nulls_counted (records t mask n children) sound = counted_mask mask n (sound_mask (records t mask n children) sound)
nulls_counted (unions t ids offsets children) sound = counted_mask None (length ids) refl
nulls_counted (dictionary t mask keys values) sound = counted_mask mask (length keys) (sound_mask (dictionary t mask keys values) sound)

-- ---- which

masked_out : (mask : Option (List Bool)) (i : ℕ) (slot : Slot) → not (is_valid_at mask i) ≡ true → unless_null mask i slot ≡ null
masked_out mask i slot h = elim (is_valid_at mask i) as (λ b. not b ≡ true → (if b then slot else null) ≡ null) [
  | true ↦ λ out. absurd (false≢true out)
  | false ↦ λ out. refl
] h

pub nulls_are_null : NullsAreNull
nulls_are_null (nulls t n) i h = refl
nulls_are_null (flat t mask stored) i h = masked_out mask i _ h
nulls_are_null (lists t mask offsets child) i h = masked_out mask i _ h
nulls_are_null (fixed_lists t mask size child) i h = masked_out mask i _ h
nulls_are_null (records t mask n children) i h = masked_out mask i _ h
nulls_are_null (unions t ids offsets children) i h = absurd (false≢true h)
nulls_are_null (dictionary t mask keys values) i h = masked_out mask i _ h

shown : (mask : Option (List Bool)) (i : ℕ) (slot : Slot) → (slot ≡ null → ⊥) → unless_null mask i slot ≡ null → not (is_valid_at mask i) ≡ true
shown mask i slot some h = elim (is_valid_at mask i) as (λ b. (if b then slot else null) ≡ null → not b ≡ true) [
  | true ↦ λ is. absurd (some is)
  | false ↦ λ is. refl
] h

stored_some : (stored : Stored) (i : ℕ) → stored_at stored i ≡ null → ⊥
stored_some (bits values) i is = cc
stored_some (numbers kind values) i is = cc
stored_some (pairs kind values) i is = cc
stored_some (triples kind values) i is = cc
stored_some (texts offsets content) i is = cc
stored_some (byte_strings offsets content) i is = cc
stored_some (fixed_bytes size content) i is = cc

picked_some : (children : Columns) (k i : ℕ) → i < slice_index (column_lens children) k → picked_at children k i ≡ null → ⊥
picked_some no_column k i small is = absurd (omega (arith, small))
picked_some (column_then child children) zero i small is = cc
picked_some (column_then child children) (suc k) i small is = picked_some children k i small is

pub nulls_show : NullsShow
nulls_show (nulls t n) i sound small own is = refl
nulls_show (flat t mask stored) i sound small own is = shown mask i (stored_at stored i) (stored_some stored i) is
nulls_show (lists t mask offsets child) i sound small own is = shown mask i _ (λ e. cc) is
nulls_show (fixed_lists t mask size child) i sound small own is = shown mask i _ (λ e. cc) is
nulls_show (records t mask n children) i sound small own is = shown mask i _ (λ e. cc) is
nulls_show (unions t ids offsets children) i sound small own is =
    let x = type_layer t in
    let test = has_child_at x ids offsets children in
    let parts = parts_of_5 (has_child_types x offsets children) (list_all (is_signed 8) ids) (has_places ids offsets children)
    (holds_below (length ids) test) (are_sound children) sound in
    let k = child_number x (slice_index_or ids i (pos 0)) in
    let there = ltb-true (union_place offsets i) (slice_index (column_lens children) k) (holds_at (length ids) test i parts.3 small) in
    absurd (picked_some children k (union_place offsets i) there is)
nulls_show (dictionary t mask keys values) i sound small own is = absurd (false≢true (sym own))
