-- Masks of sound columns, and what cuts and masks keep sound.
use Rattle.std.proofs.Common.{◌≡◌, ◌∙◌, ℕ, ◌+◌, ◌≤◌, ◌<◌, List, length, true, ap, refl}
use Rattle.std.specs.Prelude.{Bool, false, ◌&&◌, ◌/◌, ◌-◌, min, Option}
use Rattle.std.specs.Option.{ForSome}
use Rattle.std.proofs.lemmas.Bool.{and_from, and_parts}
use Rattle.flat_arrays_core.specs.columnar_memory.Layouts.{physical_type}
use Rattle.nested_arrays_columns.proofs.Conditions.{parts_of_3, parts_of_4}
use Rattle.nested_arrays_columns.proofs.SoundCuts.{is_sound-cut}
use Rattle.nested_arrays_columns.specs.Kinds.{most_offset}
use Rattle.nested_arrays_columns.specs.SoundColumns.{are_offsets, are_pieces, are_sound, has_field_types, has_fixed_item_type, has_item_type, has_size}
use Rattle.nested_arrays_columns.specs.SoundColumns.{has_value_at, has_value_type, have_len, holds_below, is_sound, is_stored_as, mask_fits}
use Rattle.nested_arrays_columns.specs.StoredColumns.{Column, nulls, flat, lists, fixed_lists, records, unions, dictionary, column_len, column_type, cut}
use Rattle.nested_arrays_columns.specs.StoredColumns.{stored_len, type_layer}
use Rattle.nested_arrays_flat.proofs.CutMasks.{mark_within}
use Rattle.nested_arrays_flat.specs.ColumnMasks.{column_mask, with_mask, TakesMask}

-- the mask of a sound column fits it
pub sound_mask : (column : Column) → is_sound column ≡ true → mask_fits (column_mask column) (column_len column) ≡ true
sound_mask (nulls t n) h = refl
sound_mask (flat t mask stored) h =
    (parts_of_3 (is_stored_as (physical_type t) stored) (has_size (type_layer t) stored) (mask_fits mask (stored_len stored)) h).2
sound_mask (lists t mask offsets child) h =
    let limit = min (most_offset (physical_type t)) (column_len child) in
    (parts_of_4 (has_item_type (type_layer t) (column_type child)) (are_offsets offsets limit) (mask_fits mask (length offsets - 1))
    (is_sound child) h).2
sound_mask (fixed_lists t mask size child) h =
    (parts_of_4 (has_fixed_item_type (type_layer t) size (column_type child)) (are_pieces size (column_len child))
    (mask_fits mask (column_len child / size)) (is_sound child) h).2
sound_mask (records t mask n children) h =
    (parts_of_4 (has_field_types (type_layer t) children) (have_len children n) (mask_fits mask n) (are_sound children) h).2
sound_mask (unions t ids offsets children) h = refl
sound_mask (dictionary t mask keys values) h =
    (parts_of_4 (has_value_type (type_layer t) keys (column_type values)) (mask_fits mask (length keys))
    (holds_below (length keys) (has_value_at mask keys (column_len values))) (is_sound values) h).1

-- each slot of a sound column has a mark, if there is a mask
pub mark_of_slot : (column : Column) (mask : Option (List Bool)) (i : ℕ) → is_sound column ≡ true → mask ≡ column_mask column → i < column_len column
    → ForSome mask (λ marks. i < length marks)
mark_of_slot column mask i sound is h =
    mark_within mask (column_len column) i (ap (λ m. mask_fits m (column_len column)) is ∙ sound_mask column sound) h

-- a cut of a sound column is sound
pub sound_after : (before after : Column) (o n : ℕ) → is_sound before ≡ true → o + n ≤ column_len before → after ≡ cut before o n
    → is_sound after ≡ true
sound_after before after o n sound within is = ap is_sound is ∙ is_sound-cut before o n sound within

abbrev pub is_flat : Column → Bool
is_flat (flat t mask stored) = true
is_flat _ = false

-- a flat column is sound under any mask of its length
pub flat_masked : (before after : Column) (mask : Option (List Bool)) → is_flat before ≡ true → is_sound before ≡ true
    → mask_fits mask (column_len before) ≡ true → after ≡ with_mask before mask → is_sound after ≡ true
flat_masked (flat t old stored) after mask is_one sound fits is =
    let typed = is_stored_as (physical_type t) stored && has_size (type_layer t) stored in
    ap is_sound is ∙ and_from typed (mask_fits mask (stored_len stored)) (and_parts typed (mask_fits old (stored_len stored)) sound).0 fits
flat_masked _ after mask is_one sound fits is = absurd cc

-- a flat column has whatever mask it is given
pub flat_mask : (column : Column) (mask : Option (List Bool)) → is_flat column ≡ true → column_mask (with_mask column mask) ≡ mask
flat_mask (flat t old stored) mask is = refl
flat_mask _ mask is = absurd cc

pub flat_takes : (column : Column) (mask : Option (List Bool)) → is_flat column ≡ true → is_sound column ≡ true
    → mask_fits mask (column_len column) ≡ true → TakesMask column mask
flat_takes column mask is sound fits =
    (fits, flat_mask column mask is, flat_masked column (with_mask column mask) mask is sound fits refl)
