-- What arrays of nulls without children store.
use Rattle.std.proofs.Common.{◌≡◌, ◌∙◌, refl, ap, ℕ, zero, suc, List, [], ◌∷◌, map}
use Rattle.std.specs.Prelude.{replicate}
use Rattle.nested_arrays_iterators.specs.columnar_memory.Numbers.{Numbers}
use Rattle.nested_arrays_iterators.specs.columnar_memory.Spans.{Spans, ends_from, offsets_of}
use Rattle.nested_arrays_iterators.specs.columnar_memory.declared.DataType.{DataType}
use Rattle.nested_arrays_iterators.specs.columnar_memory.declared.PhysicalType.TheVariants as physical
use Rattle.nested_arrays_iterators.specs.columnar_memory.declared.PrimitiveType.{PrimitiveType}
use Rattle.nested_arrays_iterators.specs.flat_arrays.ByteStrings as strings
use Rattle.nested_arrays_iterators.specs.flat_arrays.ByteStrings.{ByteStrings}
use Rattle.nested_arrays_iterators.specs.flat_arrays.Flat as arrays
use Rattle.nested_arrays_iterators.specs.flat_arrays.Flat.{Flat}
use Rattle.nested_arrays_iterators.specs.flat_arrays.Results.{ForZero}
use Rattle.nested_arrays_iterators.specs.columns.StoredColumns.{flat, texts, byte_strings}
use Rattle.nested_arrays_iterators.specs.flat.FlatColumns.{binary_column, text_column, primitive_column, stored_numbers}
use Rattle.nested_arrays_nulls.specs.NullColumns.{flat_nulls, no_items, no_marks}

-- ---- numbers

pub map_replicate : {A B : Type 0} (f : A → B) (n : ℕ) (x : A) → map f (replicate n x) ≡ replicate n (f x)
map_replicate f zero x = refl
map_replicate f (suc n) x = λ j. f x ∷ map_replicate f n x j

pub zeros_stored : {V : Type 0} (kind : PrimitiveType) (numbers : V → Numbers) (t : DataType) (n : ℕ) (a : Flat V)
    → ForZero numbers kind (λ x. a ≡ arrays.nulls t x n) → primitive_column kind numbers a ≡ flat_nulls (physical.Primitive kind) t n
zeros_stored kind numbers t n a h =
    ap (primitive_column kind numbers) h.2
    ∙ ap (λ (values : List Numbers). flat t (no_marks n) (stored_numbers kind values))
    (map_replicate numbers n h.0 ∙ ap (λ (value : Numbers). replicate n value) h.1)

-- ---- strings

no_ends : (n : ℕ) → ends_from 0 (replicate n 0) ≡ replicate n 0
no_ends zero = refl
no_ends (suc n) = λ j. 0 ∷ no_ends n j

no_offsets : (n : ℕ) → offsets_of (record { start = 0; lengths = replicate n 0 }) ≡ no_items n
no_offsets n = ap (λ (ends : List ℕ). 0 ∷ ends) (no_ends n)

pub no_strings_stored : (t : DataType) (n : ℕ) (a : ByteStrings) → a ≡ strings.nulls t n
    → binary_column a ≡ flat t (no_marks n) (byte_strings (no_items n) [])
no_strings_stored t n a is = ap binary_column is ∙ ap (λ offsets. flat t (no_marks n) (byte_strings offsets [])) (no_offsets n)

pub no_texts_stored : (t : DataType) (n : ℕ) (a : ByteStrings) → a ≡ strings.nulls t n
    → text_column a ≡ flat t (no_marks n) (texts (no_items n) [])
no_texts_stored t n a is = ap text_column is ∙ ap (λ offsets. flat t (no_marks n) (texts offsets [])) (no_offsets n)

-- the offsets of so many spans without an element
pub no_spans_between : (n : ℕ) (s : Spans) → s ≡ record { start = 0; lengths = replicate n 0 } → offsets_of s ≡ no_items n
no_spans_between n s is = ap offsets_of is ∙ no_offsets n
