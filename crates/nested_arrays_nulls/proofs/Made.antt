-- What is known of arrays that are made, and of those that are refused.
use Rattle.std.proofs.Common.{◌≡◌, ◌∙◌, refl, sym, ap, subst, ℕ, zero, suc, ◌<◌, ◌≤◌, List, [], ◌∷◌, ◌++◌, length, get_or, Bool, true, arith}
use Rattle.std.specs.Prelude.{ℤ, Option, ◌/◌}
use Rattle.std.specs.List.{list_all}
use Rattle.std.proofs.lemmas.Bool.{and_from, and_parts}
use Rattle.nested_arrays_iterators.specs.columnar_memory.declared.DataType.{DataType}
use Rattle.nested_arrays_iterators.specs.columnar_memory.declared.Error.{Error}
use Rattle.nested_arrays_iterators.specs.columnar_memory.declared.Error.TheVariants as errors
use Rattle.nested_arrays_iterators.specs.columnar_memory.declared.Field.{Field}
use Rattle.nested_arrays_iterators.proofs.columns_lemmas.Conditions.{parts_of_4, parts_of_5}
use Rattle.nested_arrays_iterators.proofs.columns_lemmas.SoundParts.{sound_items}
use Rattle.nested_arrays_iterators.specs.columns.Kinds.{is_signed}
use Rattle.nested_arrays_iterators.specs.columns.SoundColumns.{are_pieces, are_sound, has_child_at, has_child_types, has_field_types, has_fixed_item_type}
use Rattle.nested_arrays_iterators.specs.columns.SoundColumns.{has_places, has_value_at, has_value_type, have_len, holds_below, is_sound, mask_fits}
use Rattle.nested_arrays_iterators.specs.columns.StoredColumns.{Column, Columns, lists, fixed_lists, records, unions, dictionary, column_then}
use Rattle.nested_arrays_iterators.specs.columns.StoredColumns.{column_len, column_type, in_columns, type_layer}
use Rattle.nested_arrays_iterators.specs.columnar_memory.declared.PhysicalType.{PhysicalType}
use Rattle.nested_arrays_iterators.specs.arrays.Answers.{LiesAs}
use Rattle.nested_arrays_iterators.specs.parts.FlatLayouts.{layout_in}
use Rattle.nested_arrays_nulls.specs.Lengths.{most_length, most_lengths}
use Rattle.nested_arrays_nulls.specs.NullAnswers.{IsRefused}
use Rattle.nested_arrays_nulls.specs.NullColumns.{null_column, null_columns}

-- an array is the one that is wanted
pub as_made : (c d : Column) → c ≡ d → is_sound c ≡ true → (c ≡ d) × (is_sound d ≡ true)
as_made c d is sound = (is, ap is_sound (sym is) ∙ sound)

-- why there is no part is why there is no whole
pub refused_whole : (Part Whole : Type 0) (m n : ℕ) (e : Error) → (Whole → Part) → m ≤ n → IsRefused Part m e → IsRefused Whole n e
refused_whole Part Whole m n (errors.OutOfSpec what) down most h = λ whole. h (down whole)
refused_whole Part Whole m n errors.Overflow down most h = omega (arith, most, h)
refused_whole Part Whole m n errors.OutOfMemory down most h = tt
refused_whole Part Whole m n _ down most h = absurd h

-- where the layout is that of the type, only the parts may be amiss
pub lies_refused : (layout : PhysicalType) (column : Column) (e : Error) → layout_in column ≡ layout
    → IsRefused (LiesAs layout column) (most_length column) e → IsRefused (is_sound column ≡ true) (most_length column) e
lies_refused layout column e laid = refused_whole (LiesAs layout column) (is_sound column ≡ true) (most_length column) (most_length column) e
    (λ sound. (sound, laid)) (omega arith)

-- what has no array has none of a layout
pub sound_refused : (layout : PhysicalType) (column : Column) (e : Error) → IsRefused (is_sound column ≡ true) (most_length column) e
    → IsRefused (LiesAs layout column) (most_length column) e
sound_refused layout column e = refused_whole (is_sound column ≡ true) (LiesAs layout column) (most_length column) (most_length column) e
    (λ lies. lies.0) (omega arith)

-- lists are refused where their items are
pub lists_refused : (t : DataType) (mask : Option (List Bool)) (offsets : List ℕ) (child : Column) (e : Error)
    → IsRefused (is_sound child ≡ true) (most_length child) e
    → IsRefused (is_sound (lists t mask offsets child) ≡ true) (most_length (lists t mask offsets child)) e
lists_refused t mask offsets child e = refused_whole (is_sound child ≡ true) (is_sound (lists t mask offsets child) ≡ true) (most_length child)
    (most_length (lists t mask offsets child)) e (sound_items t mask offsets child) (omega arith)

pub fixed_lists_refused : (t : DataType) (mask : Option (List Bool)) (size : ℕ) (child : Column) (e : Error)
    → IsRefused (is_sound child ≡ true) (most_length child) e
    → IsRefused (is_sound (fixed_lists t mask size child) ≡ true) (most_length (fixed_lists t mask size child)) e
fixed_lists_refused t mask size child e =
    let typed = has_fixed_item_type (type_layer t) size (column_type child) in
    refused_whole (is_sound child ≡ true) (is_sound (fixed_lists t mask size child) ≡ true) (most_length child)
    (most_length (fixed_lists t mask size child)) e
    (λ sound. (parts_of_4 typed (are_pieces size (column_len child)) (mask_fits mask (column_len child / size)) (is_sound child) sound).3)
    (omega arith)

pub records_refused : (t : DataType) (mask : Option (List Bool)) (n : ℕ) (children : Columns) (e : Error)
    → IsRefused (are_sound children ≡ true) (most_lengths children) e
    → IsRefused (is_sound (records t mask n children) ≡ true) (most_length (records t mask n children)) e
records_refused t mask n children e =
    refused_whole (are_sound children ≡ true) (is_sound (records t mask n children) ≡ true) (most_lengths children)
    (most_length (records t mask n children)) e
    (λ sound. (parts_of_4 (has_field_types (type_layer t) children) (have_len children n) (mask_fits mask n) (are_sound children) sound).3)
    (omega arith)

pub unions_refused : (t : DataType) (ids : List ℤ) (offsets : Option (List ℤ)) (children : Columns) (e : Error)
    → IsRefused (are_sound children ≡ true) (most_lengths children) e
    → IsRefused (is_sound (unions t ids offsets children) ≡ true) (most_length (unions t ids offsets children)) e
unions_refused t ids offsets children e =
    refused_whole (are_sound children ≡ true) (is_sound (unions t ids offsets children) ≡ true) (most_lengths children)
    (most_length (unions t ids offsets children)) e
    (λ sound. (parts_of_5 (has_child_types (type_layer t) offsets children) (list_all (is_signed 8) ids) (has_places ids offsets children)
    (holds_below (length ids) (has_child_at (type_layer t) ids offsets children)) (are_sound children) sound).4) (omega arith)

pub dictionary_refused : (t : DataType) (mask : Option (List Bool)) (keys : List ℤ) (values : Column) (e : Error)
    → IsRefused (is_sound values ≡ true) (most_length values) e
    → IsRefused (is_sound (dictionary t mask keys values) ≡ true) (most_length (dictionary t mask keys values)) e
dictionary_refused t mask keys values e =
    refused_whole (is_sound values ≡ true) (is_sound (dictionary t mask keys values) ≡ true) (most_length values)
    (most_length (dictionary t mask keys values)) e
    (λ sound. (parts_of_4 (has_value_type (type_layer t) keys (column_type values)) (mask_fits mask (length keys))
    (holds_below (length keys) (has_value_at mask keys (column_len values))) (is_sound values) sound).3) (omega arith)

-- several are refused where one of them is
pub first_refused : (column : Column) (columns : Columns) (e : Error) → IsRefused (is_sound column ≡ true) (most_length column) e
    → IsRefused (are_sound (column_then column columns) ≡ true) (most_lengths (column_then column columns)) e
first_refused column columns e = refused_whole (is_sound column ≡ true) (are_sound (column_then column columns) ≡ true) (most_length column)
    (most_lengths (column_then column columns)) e (λ sound. (and_parts (is_sound column) (are_sound columns) sound).0) (omega arith)

pub others_refused : (column : Column) (columns : Columns) (e : Error) → IsRefused (are_sound columns ≡ true) (most_lengths columns) e
    → IsRefused (are_sound (column_then column columns) ≡ true) (most_lengths (column_then column columns)) e
others_refused column columns e = refused_whole (are_sound columns ≡ true) (are_sound (column_then column columns) ≡ true) (most_lengths columns)
    (most_lengths (column_then column columns)) e (λ sound. (and_parts (is_sound column) (are_sound columns) sound).1) (omega arith)

-- ---- fields, one after another

-- so many nulls of each of some fields
abbrev nulls_in : List Field → ℕ → Columns
nulls_in fields n = in_columns (null_columns fields n)

-- where a field is refused, all are
pub field_refused : (fields : List Field) (i n : ℕ) (field : Field) (e : Error) → i < length fields → get_or fields i field ≡ field
    → IsRefused (is_sound (null_column field.data_type n) ≡ true) (most_length (null_column field.data_type n)) e
    → IsRefused (are_sound (nulls_in fields n) ≡ true) (most_lengths (nulls_in fields n)) e
field_refused [] i n field e lt is h = absurd (omega arith)
field_refused (first ∷ fields) zero n field e lt is h = first_refused (null_column first.data_type n) (nulls_in fields n) e
    (subst (λ (u : Field). IsRefused (is_sound (null_column u.data_type n) ≡ true) (most_length (null_column u.data_type n)) e) (sym is) h)
field_refused (first ∷ fields) (suc i) n field e lt is h = others_refused (null_column first.data_type n) (nulls_in fields n) e
    (field_refused fields i n field e (omega arith) is h)

-- one more field
pub one_more_null : (fields : List Field) (n : ℕ) (field : Field) → null_columns (fields ++ (field ∷ [])) n
    ≡ null_columns fields n ++ (null_column field.data_type n ∷ [])
one_more_null [] n field = refl
one_more_null (first ∷ fields) n field = λ j. null_column first.data_type n ∷ one_more_null fields n field j

pub one_more_sound : (columns : List Column) (column : Column) → are_sound (in_columns columns) ≡ true → is_sound column ≡ true
    → are_sound (in_columns (columns ++ (column ∷ []))) ≡ true
one_more_sound [] column sound more = and_from (is_sound column) true more refl
one_more_sound (first ∷ columns) column sound more =
    let parts = and_parts (is_sound first) (are_sound (in_columns columns)) sound in
    and_from (is_sound first) (are_sound (in_columns (columns ++ (column ∷ [])))) parts.0 (one_more_sound columns column parts.1 more)
