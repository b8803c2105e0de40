-- Which dictionaries a batch brings, in the order in which they are written: those within a dictionary's values before it (Arrow IPC,
-- "Dictionary Messages").
use Rattle.std.specs.Prelude.{ℕ, suc, ℤ, pos, Bool, true, false, not, ◌&&◌, ◌||◌, List, [], ◌∷◌, ◌++◌, Option, Some, None}
use Rattle.std.specs.Prelude.{if◌then◌else◌}
use Rattle.std.specs.List.{list_all}
use Rattle.std.specs.Ordering.{int_eq}
use Rattle.std.specs.Cmp.Lexicographic.{pointwise}
use Rattle.columnar_memory_types.specs.Equality.{same_type}
use Rattle.nested_arrays_columns.specs.columnar_memory.declared.DataType.{DataType}
use Rattle.nested_arrays_columns.specs.columnar_memory.declared.DataType.TheOpen as layer
use Rattle.nested_arrays_columns.specs.columnar_memory.declared.DataType.TheFolds.{para-DataType}
use Rattle.nested_arrays_columns.specs.columnar_memory.declared.Field.{Field}
use Rattle.nested_arrays_columns.specs.Slots.{Slot}
use Rattle.nested_arrays_columns.specs.SameSlots.{same_slot}
use Rattle.nested_arrays_columns.specs.Children.{joined_items, joined_fixed_items, field_slots, dictionary_values}
use Rattle.nested_arrays_columns.specs.StoredColumns.{Column, Columns, nulls, flat, lists, fixed_lists, records, unions, dictionary, no_column}
use Rattle.nested_arrays_columns.specs.StoredColumns.{column_then, column_type, slots}
use Rattle.ipc_format_grammar.specs.Schemas.{Ids, IdsList, ids}
use Rattle.ipc_format_grammar.specs.Writable.{normalised_type}
use Rattle.ipc_format_grammar.specs.Columns.{first_ids, other_ids, ids_below, own_id}
use Rattle.ipc_format_grammar.specs.Encoding.{Encoded, encode}
use Rattle.ipc_format_grammar.specs.StoredEncoding.{encode_stored}

-- a dictionary as it is written: its id, its values with their type, and their column
pub record Given : Type 0 where
  pub id : ℤ
  pub data_type : DataType
  pub slots : List Slot
  pub column : Encoded

-- a dictionary without an id beside it has the id 0
abbrev pub id_or_0 : Option ℤ → ℤ
id_or_0 None = pos 0
id_or_0 (Some id) = id

-- ---- from slots

-- what gives the dictionaries of a column by the ids at its field
abbrev pub Giver : Type 0
Giver = Ids → List Slot → List Given

-- of the fields of records, from field k on
abbrev pub given_fields : List Giver → IdsList → List Slot → ℕ → List Given
given_fields [] below slots k = []
given_fields (field ∷ fields) below slots k = field (first_ids below) (field_slots slots k) ++ given_fields fields (other_ids below) slots (suc k)

abbrev pub given_values : DataType → Giver → Ids → List Slot → List Given
given_values value inner here values =
    inner (ids None (ids_below here)) values
    ++ record { id = id_or_0 (own_id here); data_type = value; slots = values; column = encode value values } ∷ []

abbrev pub givers : List (Field × Giver) → List Giver
givers [] = []
givers (child ∷ children) = child.1 ∷ givers children

abbrev pub give_step : layer.DataType-F (DataType × Giver) (Field × Giver) → Giver
give_step (layer.List item) here slots = item.1 (first_ids (ids_below here)) (joined_items slots)
give_step (layer.LargeList item) here slots = item.1 (first_ids (ids_below here)) (joined_items slots)
give_step (layer.Map entry is_sorted) here slots = entry.1 (first_ids (ids_below here)) (joined_items slots)
give_step (layer.FixedSizeList item size) here slots = item.1 (first_ids (ids_below here)) (joined_fixed_items size slots)
give_step (layer.Struct children) here slots = given_fields (givers children) (ids_below here) slots 0
give_step (layer.Dictionary key value is_ordered) here slots = given_values value.0 value.1 here (dictionary_values slots)
give_step (layer.Extension name inner metadata) here slots = inner.1 here slots
give_step _ here slots = []

abbrev pub give_field_step : layer.Field-F (DataType × Giver) (Field × Giver) → Giver
give_field_step field = field.data_type.1

abbrev pub given_by : DataType → Giver
given_by = para-DataType Giver Giver give_step give_field_step

-- ---- from stored columns

abbrev mutual
  pub given_stored : Ids → Column → List Given
  given_stored here (nulls data_type n) = []
  given_stored here (flat data_type mask stored) = []
  given_stored here (lists data_type mask offsets child) = given_stored (first_ids (ids_below here)) child
  given_stored here (fixed_lists data_type mask size child) = given_stored (first_ids (ids_below here)) child
  given_stored here (records data_type mask n children) = given_each (ids_below here) children
  given_stored here (unions data_type type_ids offsets children) = given_each (ids_below here) children
  given_stored here (dictionary data_type mask keys values) =
      given_stored (ids None (ids_below here)) values
      ++ record { id = id_or_0 (own_id here); data_type = column_type values; slots = slots values; column = encode_stored true values } ∷ []

  pub given_each : IdsList → Columns → List Given
  given_each below no_column = []
  given_each below (column_then column columns) = given_stored (first_ids below) column ++ given_each (other_ids below) columns

-- ---- which of them are written

-- two dictionaries say the same: their types have one form, and their slots are the same
abbrev pub says_same : Given → Given → Bool
says_same a b = same_type (normalised_type a.data_type) (normalised_type b.data_type) && pointwise same_slot a.slots b.slots

-- the dictionary that was written last under an id, among those written, the latest first
abbrev pub last_under : ℤ → List Given → Option Given
last_under id [] = None
last_under id (given ∷ others) = if int_eq id given.id then Some given else last_under id others

abbrev pub stands_for : Given → Option Given → Bool
stands_for given None = false
stands_for given (Some last) = says_same given last

-- each dictionary is written that differs from the last one under its id, or is the first
abbrev pub to_write : List Given → List Given → List Given
to_write written [] = []
to_write written (given ∷ others) =
    if stands_for given (last_under given.id written) then to_write written others else given ∷ to_write (given ∷ written) others

-- what was written after that, the latest first
abbrev pub written_after : List Given → List Given → List Given
written_after written [] = written
written_after written (given ∷ others) =
    if stands_for given (last_under given.id written) then written_after written others else written_after (given ∷ written) others

-- of the same id, the same values
abbrev pub agrees : Given → Given → Bool
agrees a b = not (int_eq a.id b.id) || says_same a b

-- no two dictionaries of a batch have one id and different values
abbrev pub agree : List Given → Bool
agree [] = true
agree (given ∷ others) = list_all (agrees given) others && agree others
