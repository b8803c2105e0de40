-- Nulls with children, by what makes arrays of their parts.
use Rattle.std.proofs.Common.{◌≡◌, ap, subst, ℕ, List, [], ◌∷◌, Bool, true}
use Rattle.std.specs.Prelude.{All, Option, Some, Result, Ok, Err, replicate, false}
use Rattle.nested_arrays_iterators.specs.columnar_memory.Spans.{Spans, offsets_of}
use Rattle.nested_arrays_iterators.specs.parts.FlatLayouts.{layout_in}
use Rattle.nested_arrays_nulls.proofs.FlatNulls.{no_spans_between}
use Rattle.std.proofs.lemmas.Bool.{false≢true}
use Rattle.std.proofs.lemmas.List.Elements.{All-head}
use Rattle.nested_arrays_iterators.specs.columnar_memory.declared.DataType.{DataType}
use Rattle.nested_arrays_iterators.specs.columnar_memory.declared.DataType.TheOpen as layer
use Rattle.nested_arrays_iterators.specs.columnar_memory.declared.Error.{Error}
use Rattle.nested_arrays_iterators.specs.columnar_memory.declared.Error.TheVariants as errors
use Rattle.nested_arrays_iterators.specs.columnar_memory.declared.Field.{Field}
use Rattle.nested_arrays_iterators.specs.columnar_memory.declared.PhysicalType.{PhysicalType}
use Rattle.nested_arrays_iterators.proofs.columns_lemmas.Conditions.{parts_of_4}
use Rattle.nested_arrays_iterators.specs.columns.SoundColumns.{are_sound, has_field_types, have_len, is_sound, mask_fits}
use Rattle.nested_arrays_iterators.specs.columns.StoredColumns.{Column, lists, records, no_column, column_len, in_columns, type_layer}
use Rattle.nested_arrays_iterators.specs.arrays.Answers.{IsChecked, IsCheckedAs}
use Rattle.nested_arrays_iterators.specs.arrays.Lengths.{struct_len}
use Rattle.nested_arrays_nulls.specs.NullAnswers.{IsMade}
use Rattle.nested_arrays_nulls.specs.NullColumns.{no_items, no_marks}

-- what a check of the parts answers
checked : (parts : Column) (r : Result Column Error) → IsChecked parts r → IsMade parts r
checked parts (Ok a) h = h
checked parts (Err (errors.OutOfSpec what)) h = h.1
checked parts (Err e) h = absurd h.0

pub checked_made : (parts column : Column) (r : Result Column Error) → parts ≡ column → IsChecked parts r → IsMade column r
checked_made parts column r is h = subst (λ (c : Column). IsMade c r) is (checked parts r h)

-- the same where the layout is that of the type
checked_as : (layout : PhysicalType) (parts : Column) (r : Result Column Error) → layout_in parts ≡ layout → IsCheckedAs layout parts r
    → IsMade parts r
checked_as layout parts (Ok a) laid h = (h.0, h.1.0)
checked_as layout parts (Err (errors.OutOfSpec what)) laid h = λ sound. h.1 (sound, laid)
checked_as layout parts (Err e) laid h = absurd h.0

pub checked_made_as : (layout : PhysicalType) (parts column : Column) (r : Result Column Error) → layout_in parts ≡ layout → parts ≡ column
    → IsCheckedAs layout parts r → IsMade column r
checked_made_as layout parts column r laid is h = subst (λ (c : Column). IsMade c r) is (checked_as layout parts r laid h)

-- lists by the spans of their offsets
pub lists_stored : (t : DataType) (marks : List Bool) (s : Spans) (child items : Column) (n : ℕ) → marks ≡ replicate n false
    → s ≡ record { start = 0; lengths = replicate n 0 } → child ≡ items
    → lists t (Some marks) (offsets_of s) child ≡ lists t (no_marks n) (no_items n) items
lists_stored t marks s child items n marked spans is = let offsets = no_spans_between n s spans in λ j. lists t (Some (marked j)) (offsets j) (is j)

-- ---- structs

no_fields : (x : layer.DataType-F DataType Field) → has_field_types x no_column ≡ true → ⊥
no_fields (layer.Struct []) h = false≢true h
no_fields (layer.Struct (field ∷ fields)) h = false≢true h
no_fields x h = false≢true h

-- a struct has a child
no_struct : (t : DataType) (mask : Option (List Bool)) (n : ℕ) → is_sound (records t mask n no_column) ≡ true → ⊥
no_struct t mask n sound = no_fields (type_layer t)
    (parts_of_4 (has_field_types (type_layer t) no_column) (have_len no_column n) (mask_fits mask n) (are_sound no_column) sound).0

pub struct_made : (t : DataType) (n : ℕ) (columns : List Column) (r : Result Column Error) → All (λ c. column_len c ≡ n) columns
    → IsChecked (records t (no_marks n) (struct_len columns) (in_columns columns)) r → IsMade (records t (no_marks n) n (in_columns columns)) r
struct_made t n [] (Ok a) long h = absurd (no_struct t (no_marks n) 0 h.1)
struct_made t n [] (Err (errors.OutOfSpec what)) long h = λ sound. no_struct t (no_marks n) n sound
struct_made t n [] (Err e) long h = absurd h.0
struct_made t n (column ∷ columns) r long h =
    checked_made (records t (no_marks n) (column_len column) (in_columns (column ∷ columns)))
    (records t (no_marks n) n (in_columns (column ∷ columns)))
    r (ap (λ k. records t (no_marks n) k (in_columns (column ∷ columns))) (All-head (λ (c : Column). column_len c ≡ n) column columns long)) h
