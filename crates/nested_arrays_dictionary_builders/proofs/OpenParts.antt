-- Marks and fresh columns, as far as dictionaries need them.
use Rattle.std.proofs.Common.{◌≡◌, ◌∙◌, ◌<◌, ◌+◌, ℕ, List, ◌∷◌, [], ◌++◌, length, Bool, true, false, not, refl, sym, ap, arith}
use Rattle.std.specs.Prelude.{Option, Some, None, ◌==◌, if◌then◌else◌, slice_get}
use Rattle.std.proofs.lemmas.Bool.{eq-eqb, eqb-true}
use Rattle.std.proofs.lemmas.List.{get_or_append_left, get_or_at, length_push}
use Rattle.std.proofs.lemmas.Option.{get_or_from_slice_get}
use Rattle.nested_arrays_sized_builders.specs.nulls.columnar_memory.declared.DataType.{DataType}
use Rattle.nested_arrays_sized_builders.specs.nulls.columnar_memory.Bits.{unset_count}
use Rattle.nested_arrays_sized_builders.specs.nulls.columns.FreshColumns.{fresh, is_valid, mask_of}
use Rattle.nested_arrays_sized_builders.specs.nulls.columns.FreshLaws.{is_buildable}
use Rattle.nested_arrays_sized_builders.specs.nulls.columns.OpenBatch.{fits}
use Rattle.nested_arrays_sized_builders.specs.nulls.columns.Slots.{Slot}
use Rattle.nested_arrays_sized_builders.specs.nulls.columns.SoundColumns.{mask_fits}
use Rattle.nested_arrays_sized_builders.specs.nulls.columns.StoredColumns.{is_valid_at}
use Rattle.nested_arrays_sized_builders.specs.flat_arrays.Growth.{with_marks}
use Rattle.nested_arrays_sized_builders.specs.cells.parts.Marks.{mask_of_marks}
use Rattle.nested_arrays_sized_builders.specs.cells.taken.OpenColumns.{IsFresh}
use Rattle.nested_arrays_sized_builders.specs.cells.taken.builders.columns.OpenParts.{marks_of, mask_from}
use Rattle.nested_arrays_sized_builders.proofs.columns_lemmas.Masks.{marks_away, marks_there, mask_grows, mask_is}
use Rattle.nested_arrays_sized_builders.proofs.columns_lemmas.Masks.{mask_one_more, mask_stays_away}
use Rattle.nested_arrays_sized_builders.proofs.MarkedSlots.{valid_mark}
use Rattle.nested_arrays_sized_builders.proofs.nulls_lemmas.arrays_lemmas.columns_lemmas.FreshSlots.{fresh_slots}
use Rattle.nested_arrays_sized_builders.proofs.nulls_lemmas.arrays_lemmas.columns_lemmas.FreshTypes.{fresh_types}

-- ---- marks

pub marks_fit : (ms : List Bool) (n : ℕ) → length ms ≡ n → mask_fits (mask_of_marks ms) n ≡ true
marks_fit ms n long = chosen (unset_count ms == 0)
  where
    chosen : (b : Bool) → mask_fits (if b then None else Some ms) n ≡ true
    chosen true = refl
    chosen false = eq-eqb (length ms) n long

-- a mark says whether a slot is null
pub mark_says : (ms : List Bool) (i : ℕ) (b : Bool) → i < length ms → slice_get ms i ≡ Some b → b ≡ not (not (is_valid_at (mask_of_marks ms) i))
mark_says ms i b h found =
    sym (twice b) ∙ ap (λ (bit : Bool). not (not bit)) (sym (valid_mark ms i h ∙ get_or_from_slice_get ms i b false found))
  where
    twice : (b : Bool) → not (not b) ≡ b
    twice true = refl
    twice false = refl

-- the marks of a mask with the mark of a value behind
pub value_marked : (n : ℕ) (mask : Option (List Bool)) → mask_fits mask n ≡ true → is_valid_at (with_marks n mask (true ∷ [])) n ≡ true
value_marked n None h = refl
value_marked n (Some marks) h = get_or_at marks true [] false n (eqb-true (length marks) n h)

pub marks_before : (n : ℕ) (mask : Option (List Bool)) (i : ℕ) → mask_fits mask n ≡ true → i < n
    → is_valid_at (with_marks n mask (true ∷ [])) i ≡ is_valid_at mask i
marks_before n None i h lt = refl
marks_before n (Some marks) i h lt = get_or_append_left marks (true ∷ []) false i (omega (arith, lt, eqb-true (length marks) n h))

pub marks_more : (n : ℕ) (mask : Option (List Bool)) → mask_fits mask n ≡ true → mask_fits (with_marks n mask (true ∷ [])) (n + 1) ≡ true
marks_more n None h = refl
marks_more n (Some marks) h =
    eq-eqb (length (marks ++ true ∷ [])) (n + 1) (length_push marks true ∙ ap (λ (k : ℕ). k + 1) (eqb-true (length marks) n h))

-- the mask of slots and one that is not null behind them
pub mask_with_value : (n : ℕ) (mask : Option (List Bool)) (xs : List Slot) (s : Slot) → is_valid s ≡ true → mask ≡ mask_of xs
    → with_marks n mask (true ∷ []) ≡ mask_of (xs ++ s ∷ [])
mask_with_value n None xs s valid is =
    let none = marks_away (marks_of xs) (sym (is ∙ mask_is xs)) in
    sym (mask_one_more xs s ∙ ap (λ (b : Bool). mask_from (marks_of xs ++ b ∷ [])) valid ∙ mask_stays_away (marks_of xs) none)
mask_with_value n (Some marks) xs s valid is =
    let there = marks_there (marks_of xs) marks (sym (is ∙ mask_is xs)) in
    sym (
    mask_one_more xs s ∙ ap (λ (b : Bool). mask_from (marks_of xs ++ b ∷ [])) valid ∙ mask_grows (marks_of xs) true there.0
    ∙ ap (λ (ms : List Bool). Some (ms ++ true ∷ [])) (sym there.1)
    )

-- ---- columns

-- the column that stores some slots, which fit, is fresh
pub fresh_open : (t : DataType) (xs : List Slot) → fits t xs ≡ true → is_buildable t ≡ true → IsFresh (fresh t xs)
fresh_open t xs within can = record {
  stored = λ j. fresh (sym (fresh_types t xs) j) (sym (fresh_slots t xs can within) j);
  fit = (λ j. fits (fresh_types t xs j) (fresh_slots t xs can within j)) ∙ within;
  can = ap is_buildable (fresh_types t xs) ∙ can;
}
