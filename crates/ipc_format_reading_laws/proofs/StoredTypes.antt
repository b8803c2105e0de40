-- Every sound stored column reads back from what is written of it: an induction over the column.
use Rattle.std.proofs.Common.{◌≡◌, ◌/◌, true, length}
use Rattle.std.specs.List.{list_all}
use Rattle.std.proofs.lemmas.Bool.{and_parts}
use Rattle.ipc_format_laws.specs.columns.Kinds.{is_signed}
use Rattle.ipc_format_laws.specs.columns.StoredColumns.{Column, Columns, nulls, flat, lists, fixed_lists, records, unions, dictionary}
use Rattle.ipc_format_laws.specs.columns.StoredColumns.{no_column, column_then, column_type, column_len, type_layer}
use Rattle.ipc_format_laws.specs.columns.SoundColumns.{mask_fits, has_fixed_item_type, has_field_types, has_child_types, are_pieces, have_len}
use Rattle.ipc_format_laws.specs.columns.SoundColumns.{has_places, has_child_at, holds_below, is_sound, are_sound}
use Rattle.ipc_format_laws.proofs.columns_lemmas.Conditions.{parts_of_4, parts_of_5}
use Rattle.ipc_format_laws.proofs.columns_lemmas.SoundParts.{sound_items}
use Rattle.ipc_format_reading_laws.specs.StoredColumns.{RangeReadsBack, StoredColumnsReadBack}
use Rattle.ipc_format_reading_laws.proofs.StoredRanges.{RangesReadBack}
use Rattle.ipc_format_reading_laws.proofs.StoredNulls.{nulls_reads_back}
use Rattle.ipc_format_reading_laws.proofs.StoredFlatTypes.{flat_reads_back}
use Rattle.ipc_format_reading_laws.proofs.StoredKeys.{dictionary_reads_back}
use Rattle.ipc_format_reading_laws.proofs.StoredLists.{lists_reads_back, fixed_lists_reads_back}
use Rattle.ipc_format_reading_laws.proofs.StoredRecords.{records_reads_back}
use Rattle.ipc_format_reading_laws.proofs.StoredUnions.{unions_reads_back}

mutual
  reads_back : (column : Column) → is_sound column ≡ true → RangeReadsBack column
  reads_back (nulls t count) sound = nulls_reads_back t count sound
  reads_back (flat t mask stored) sound = flat_reads_back t mask stored sound
  reads_back (lists t mask offsets child) sound =
      lists_reads_back t mask offsets child sound (reads_back child (sound_items t mask offsets child sound))
  reads_back (fixed_lists t mask size child) sound =
      let parts = parts_of_4 (has_fixed_item_type (type_layer t) size (column_type child)) (are_pieces size (column_len child))
      (mask_fits mask (column_len child / size)) (is_sound child) sound in
      fixed_lists_reads_back t mask size child sound (reads_back child parts.3)
  reads_back (records t mask count children) sound =
      let parts = parts_of_4 (has_field_types (type_layer t) children) (have_len children count) (mask_fits mask count)
      (are_sound children) sound in
      records_reads_back t mask count children sound (all_read_back children parts.3)
  reads_back (unions t ids offsets children) sound =
      let parts = parts_of_5 (has_child_types (type_layer t) offsets children) (list_all (is_signed 8) ids) (has_places ids offsets children)
      (holds_below (length ids) (has_child_at (type_layer t) ids offsets children)) (are_sound children) sound in
      unions_reads_back t ids offsets children sound (all_read_back children parts.4)
  reads_back (dictionary t mask keys values) sound = dictionary_reads_back t mask keys values sound

  all_read_back : (columns : Columns) → are_sound columns ≡ true → RangesReadBack columns
  all_read_back no_column sound = tt
  all_read_back (column_then column columns) sound =
      let parts = and_parts (is_sound column) (are_sound columns) sound in
      (reads_back column parts.0, all_read_back columns parts.1)

pub stored_columns_read_back : StoredColumnsReadBack
stored_columns_read_back = reads_back
