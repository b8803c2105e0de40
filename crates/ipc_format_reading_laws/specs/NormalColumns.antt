-- Stored columns under normalised types: a schema is read in its one form, while arrays may have types that are not in it (docs/FORMAT.md,
-- "Schemas").
use Rattle.std.specs.Prelude.{◌≡◌, Bool, true, map}
use Rattle.ipc_format_laws.specs.columns.SoundColumns.{is_sound}
use Rattle.ipc_format_laws.specs.columns.StoredColumns.{Column, Columns, nulls, flat, lists, fixed_lists, records, unions, dictionary, no_column}
use Rattle.ipc_format_laws.specs.columns.StoredColumns.{column_then, column_type, slots}
use Rattle.ipc_format_laws.specs.grammar.Writable.{normalised_type}
use Rattle.ipc_format_laws.specs.grammar.StoredEncoding.{encode_stored}
pub use Rattle.ipc_format_reading_laws.specs.NormalSlots.{normal_slot, normal_slots}

-- a column with each of its types in its normalised form
abbrev mutual
  pub normal_column : Column → Column
  normal_column (nulls data_type n) = nulls (normalised_type data_type) n
  normal_column (flat data_type mask stored) = flat (normalised_type data_type) mask stored
  normal_column (lists data_type mask offsets child) = lists (normalised_type data_type) mask offsets (normal_column child)
  normal_column (fixed_lists data_type mask size child) = fixed_lists (normalised_type data_type) mask size (normal_column child)
  normal_column (records data_type mask n children) = records (normalised_type data_type) mask n (normal_columns children)
  normal_column (unions data_type ids offsets children) = unions (normalised_type data_type) ids offsets (normal_columns children)
  normal_column (dictionary data_type mask keys values) = dictionary (normalised_type data_type) mask keys (normal_column values)

  pub normal_columns : Columns → Columns
  normal_columns no_column = no_column
  normal_columns (column_then column columns) = column_then (normal_column column) (normal_columns columns)

-- a sound column is sound under normalised types, is written the same in either byte order, and has the same slots but for the types of picks
pub record StaysWhole (column : Column) : Type 0 where
  pub typed : column_type (normal_column column) ≡ normalised_type (column_type column)
  pub sound : is_sound (normal_column column) ≡ true
  pub encoded : (is_little_endian : Bool) → encode_stored is_little_endian (normal_column column) ≡ encode_stored is_little_endian column
  pub slots_normal : slots (normal_column column) ≡ map normal_slot (slots column)

abbrev pub NormalColumnsStayWhole : Type 0
NormalColumnsStayWhole = (column : Column) → is_sound column ≡ true → StaysWhole column
