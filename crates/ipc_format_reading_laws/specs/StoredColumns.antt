-- When a column that is written from what an array stores reads back (Arrow columnar format, "Physical Memory Layout"; Arrow IPC,
-- "RecordBatch message", "Dictionary Messages").
use Rattle.std.specs.Prelude.{◌≡◌, ℕ, ◌+◌, ◌≤◌, ℤ, true, List, Some}
use Rattle.ipc_format_laws.specs.columnar_memory.declared.DataType.{DataType}
use Rattle.ipc_format_laws.specs.columns.Slots.{Slot, window}
use Rattle.ipc_format_laws.specs.columns.SoundColumns.{is_sound}
use Rattle.ipc_format_laws.specs.columns.StoredColumns.{Column, Columns, nulls, flat, lists, fixed_lists, records, unions, dictionary, no_column}
use Rattle.ipc_format_laws.specs.columns.StoredColumns.{column_then, column_len, column_type, slot_at, slots}
use Rattle.ipc_format_laws.specs.grammar.Messages.{V5}
use Rattle.ipc_format_laws.specs.grammar.Schemas.{Ids, IdsList}
use Rattle.ipc_format_laws.specs.grammar.Columns.{Dictionary, Place, slots_in, taken_of, standing_for, first_ids, other_ids, ids_below, own_id}
use Rattle.ipc_format_laws.specs.grammar.Encoding.{Encoded}
use Rattle.ipc_format_laws.specs.grammar.StoredEncoding.{encode_range}
use Rattle.ipc_format_laws.specs.Columns.{HoldsColumns, StandsAmong}

-- some values stand, under their type, as the dictionary of the id at a field
pub record HasValues (standing : List Dictionary) (here : Ids) (data_type : DataType) (values : List Slot) : Type 0 where
  pub id : ℤ
  pub own : own_id here ≡ Some id
  pub found : standing_for id standing ≡ Some (record { id = id; data_type = data_type; slots = values })

-- The values of each dictionary of a column stand under the id at its field. Those of a dictionary within a dictionary's values are not
-- looked at: they were, when the outer one was read.
abbrev mutual
  pub HasDictionaries : List Dictionary → Ids → Column → Type 0
  HasDictionaries standing here (nulls data_type n) = Unit {0}
  HasDictionaries standing here (flat data_type mask stored) = Unit {0}
  HasDictionaries standing here (lists data_type mask offsets child) = HasDictionaries standing (first_ids (ids_below here)) child
  HasDictionaries standing here (fixed_lists data_type mask size child) = HasDictionaries standing (first_ids (ids_below here)) child
  HasDictionaries standing here (records data_type mask n children) = HaveDictionaries standing (ids_below here) children
  HasDictionaries standing here (unions data_type type_ids offsets children) = HaveDictionaries standing (ids_below here) children
  HasDictionaries standing here (dictionary data_type mask keys values) = HasValues standing here (column_type values) (slots values)

  pub HaveDictionaries : List Dictionary → IdsList → Columns → Type 0
  HaveDictionaries standing below no_column = Unit {0}
  HaveDictionaries standing below (column_then column columns) =
      HasDictionaries standing (first_ids below) column × HaveDictionaries standing (other_ids below) columns

-- What is written of n slots of a sound column from slot o on, little-endian, reads back as these slots by the column's type: in a batch of
-- version V5, wherever the column stands among written columns, where no limit cuts it and its dictionaries stand.
abbrev pub RangeReadsBack : Column → Type 0
RangeReadsBack column = (o n : ℕ) (at : Place) (all : Encoded) → o + n ≤ column_len column → at.source.version ≡ V5
    → HoldsColumns at.source all → StandsAmong all (encode_range true column o n) at.node at.buffer → taken_of at.limit n ≡ n
    → HasDictionaries at.standing at.ids column → slots_in (column_type column) at ≡ Some (window (slot_at column) o n)

-- every sound column reads back, of every type, whatever stands under its nulls and outside of what is cut
abbrev pub StoredColumnsReadBack : Type 0
StoredColumnsReadBack = (column : Column) → is_sound column ≡ true → RangeReadsBack column
