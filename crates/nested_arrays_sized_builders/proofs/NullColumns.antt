-- Columns of nulls alone: one more, the first ones, and none.
use Rattle.std.proofs.Common.{◌≡◌, ◌∙◌, ◌<◌, ◌≤◌, ◌+◌, ℕ, zero, suc, List, [], ◌∷◌, ◌++◌, length, take, Bool, true, false, refl, sym, ap, subst}
use Rattle.std.proofs.Common.{arith}
use Rattle.std.specs.Prelude.{◌↔◌, Result, Ok, Err}
use Rattle.std.specs.List.{list_all}
use Rattle.std.proofs.lemmas.Bool.{and_from, and_parts, cases_Bool, false≢true, le-leb, leb-true}
use Rattle.std.proofs.lemmas.List.{length-append}
use mathlib.Core.Logic.{inl, inr}
use Rattle.nested_arrays_generic_builders.specs.nulls.columnar_memory.declared.DataType.{DataType}
use Rattle.nested_arrays_generic_builders.specs.nulls.columnar_memory.declared.DataType.TheOpen as layer
use Rattle.nested_arrays_generic_builders.specs.nulls.columnar_memory.declared.Error.{Error}
use Rattle.nested_arrays_generic_builders.specs.nulls.columnar_memory.declared.PhysicalType.TheVariants as physical
use Rattle.nested_arrays_generic_builders.specs.nulls.columnar_memory.Layouts.{physical_type}
use Rattle.nested_arrays_generic_builders.specs.nulls.columnar_memory.Results.{OrOutOfMemory}
use Rattle.nested_arrays_generic_builders.specs.nulls.columns.Cells.{is_null}
use Rattle.nested_arrays_generic_builders.specs.nulls.columns.FreshColumns.{fresh}
use Rattle.nested_arrays_generic_builders.specs.nulls.columns.Kinds.{most_slots}
use Rattle.nested_arrays_generic_builders.specs.nulls.columns.OpenBatch.{fits, is_length}
use Rattle.nested_arrays_generic_builders.specs.nulls.columns.Slots.{Slot, null, window}
use Rattle.nested_arrays_generic_builders.specs.nulls.columns.SoundColumns.{is_null_type, is_sound}
use Rattle.nested_arrays_generic_builders.specs.nulls.columns.StoredColumns.{Column, nulls, slot_at, slots, type_layer}
use Rattle.nested_arrays_generic_builders.specs.cells.taken.OpenColumns.{Becomes, IsEmptied, IsFresh, KeepsFirst, TakesColumn, slots_and}
use Rattle.nested_arrays_generic_builders.proofs.cells_lemmas.columns_lemmas.ColumnSizes.{slots_lengths}
use Rattle.nested_arrays_generic_builders.proofs.cells_lemmas.columns_lemmas.FreshLengths.{Layer}
use Rattle.nested_arrays_generic_builders.proofs.cells_lemmas.columns_lemmas.Windows.{window_same}
use Rattle.nested_arrays_generic_builders.proofs.cells_lemmas.columns_lemmas.Fits.{fits_nulls}
use Rattle.nested_arrays_generic_builders.proofs.cells_lemmas.columns_lemmas.LayerParts.{fresh_nulls}
use Rattle.nested_arrays_generic_builders.proofs.cells_lemmas.columns_lemmas.TypeSteps.{buildable_by_layer}
use Rattle.nested_arrays_generic_builders.proofs.nulls_lemmas.flat_lemmas.NullTypes.{null_types}
use Rattle.nested_arrays_generic_builders.proofs.ListSlots.{window_first, window_more}

pub laid_as_nulls : (t : DataType) → (physical_type t ≡ physical.Null) ↔ (is_null_type (type_layer t) ≡ true)
laid_as_nulls = null_types

pub laid_otherwise : (t : DataType) → ¬ (physical_type t ≡ physical.Null) → is_null_type (type_layer t) ≡ false
laid_otherwise t other =
    elim (cases_Bool (is_null_type (type_layer t))) [
      | inl is ↦ absurd (other ((null_types t).1 is))
      | inr unlike ↦ unlike
    ]

null_layer : (x : Layer) → is_null_type x ≡ true → x ≡ layer.Null
null_layer layer.Null h = refl
null_layer _ h = absurd (false≢true h)

all_null : (f : ℕ → Slot) (a n : ℕ) → ((i : ℕ) → f i ≡ null) → list_all is_null (window f a n) ≡ true
all_null f a zero same = refl
all_null f a (suc n) same = and_from (is_null (f a)) (list_all is_null (window f (a + 1) n)) (ap is_null (same a)) (all_null f (a + 1) n same)

module _ (t : DataType) (typed : is_null_type (type_layer t) ≡ true) where
  named : type_layer t ≡ layer.Null
  named = null_layer (type_layer t) typed

  pub nulls_fresh : (n : ℕ) → n ≤ most_slots → IsFresh (nulls t n)
  nulls_fresh n few =
      let count : length (slots (nulls t n)) ≡ n = slots_lengths (nulls t n) in record {
        stored = sym (fresh_nulls t named (slots (nulls t n)) ∙ ap (nulls t) count);
        fit = fits_nulls t named (slots (nulls t n)) ∙ and_from (list_all is_null (slots (nulls t n))) (is_length (slots (nulls t n)))
            (all_null (slot_at (nulls t n)) 0 n (λ i. refl)) (le-leb (length (slots (nulls t n))) most_slots (omega (arith, count, few)));
        can = buildable_by_layer t layer.Null named;
      }

  nulls_become : (n m : ℕ) (xs : List Slot) → m ≤ most_slots → slots (nulls t m) ≡ xs → Becomes (nulls t n) xs (nulls t m)
  nulls_become n m xs few is = record {
    typed = refl;
    long = sym (slots_lengths (nulls t m)) ∙ ap length is;
    sound = λ h. (h, is);
    fresh = λ _. nulls_fresh m few;
  }

  one_more : (n : ℕ) → slots (nulls t (n + 1)) ≡ slots_and (nulls t n) null
  one_more n =
      let one : n + 1 ≡ suc n = omega arith in
      ap (window (slot_at (nulls t (n + 1))) 0) one ∙ window_more (slot_at (nulls t (n + 1))) 0 n
      ∙ ap (λ (xs : List Slot). xs ++ null ∷ []) (window_same (slot_at (nulls t (n + 1))) (slot_at (nulls t n)) 0 0 n (λ i h. refl))

  pub null_more : (n : ℕ) → n < most_slots → Becomes (nulls t n) (slots_and (nulls t n) null) (nulls t (n + 1))
  null_more n few = nulls_become n (n + 1) (slots_and (nulls t n) null) (omega (arith, few)) (one_more n)

  pub null_full : (n : ℕ) → n ≡ most_slots → fits t (slots_and (nulls t n) null) ≡ false
  null_full n full =
      let xs = slots_and (nulls t n) null in
      let many : length xs ≡ n + 1 = length-append (slots (nulls t n)) (null ∷ []) ∙ ap (λ (k : ℕ). k + 1) (slots_lengths (nulls t n)) in
      elim (cases_Bool (fits t xs)) [
        | inl fit ↦ absurd (omega (
          arith,
          full,
          many,
          leb-true (length xs) most_slots
              (and_parts (list_all is_null xs) (is_length xs) (sym (fits_nulls t named xs) ∙ fit)).1,
        ))
        | inr unfit ↦ unfit
      ]

  pub nulls_first : (n k : ℕ) → k ≤ n → n ≤ most_slots → KeepsFirst (nulls t n) k (nulls t k)
  nulls_first n k le few =
      nulls_become n k (take k (slots (nulls t n))) (omega (arith, le, few))
      (window_same (slot_at (nulls t k)) (slot_at (nulls t n)) 0 0 k (λ i h. refl) ∙ sym (window_first (slot_at (nulls t n)) 0 n k le))

  pub no_nulls : (n : ℕ) → IsEmptied (nulls t n) (nulls t 0)
  no_nulls n = record { typed = refl; long = refl; begun = λ _. sym (fresh_nulls t named []) }

  pub nulls_taken : (n : ℕ) (r : Result Column Error) → OrOutOfMemory r (λ (array : Column). array ≡ nulls t n)
      → TakesColumn (nulls t n) (nulls t 0) (λ (array : Column). array) r
  nulls_taken n (Ok array) is = (no_nulls n, (is, typed))
  nulls_taken n (Err e) memory = (no_nulls n, inl memory)
