-- The dictionaries that a batch brings have ids of its schema, which are signed numbers of eight bytes.
use Rattle.std.proofs.Common.{◌≡◌, ℕ, suc, ℤ, pos, true, List, [], ◌∷◌, ◌++◌, map, refl, subst}
use Rattle.std.specs.Prelude.{Option, Some, None, FitsSigned}
use Rattle.std.specs.Int.{w64}
use Rattle.std.specs.List.{All}
use Rattle.std.proofs.lemmas.List.Elements.{All-nil, All-cons, All-append}
use Rattle.ipc_format_grammar.specs.columnar_memory.declared.DataType.{DataType, map-DataType}
use Rattle.ipc_format_grammar.specs.columnar_memory.declared.DataType.TheOpen as layer
use Rattle.ipc_format_grammar.specs.columnar_memory.declared.DataType.TheViews.{roll-DataType, roll-Field}
use Rattle.ipc_format_grammar.specs.columnar_memory.declared.DataType.TheFolds.{para-Field, ind-DataType, para-roll-DataType, para-roll-Field}
use Rattle.ipc_format_grammar.specs.columnar_memory.declared.Field.{Field}
use Rattle.ipc_format_grammar.specs.columns.Slots.{Slot}
use Rattle.ipc_format_grammar.specs.columns.Children.{joined_items, joined_fixed_items, field_slots, dictionary_values}
use Rattle.ipc_format_grammar.specs.columns.StoredColumns.{Column, Columns, nulls, flat, lists, fixed_lists, records, unions, dictionary, no_column}
use Rattle.ipc_format_grammar.specs.columns.StoredColumns.{column_then, column_type, slots}
use Rattle.ipc_format_grammar.specs.Schemas.{Ids, IdsList, ids, no_ids, ids_then}
use Rattle.ipc_format_grammar.specs.Columns.{first_ids, other_ids, ids_below, own_id}
use Rattle.ipc_format_grammar.specs.Encoding.{encode}
use Rattle.ipc_format_grammar.specs.StoredEncoding.{encode_stored}
use Rattle.ipc_format_grammar.specs.Ids.{is_id, are_ids, all_are_ids}
use Rattle.ipc_format_grammar.specs.GivenDictionaries.{Given, Giver, id_or_0, given_by, given_fields, givers, give_step}
use Rattle.ipc_format_grammar.specs.GivenDictionaries.{give_field_step, given_stored, given_each}
use Rattle.ipc_format_grammar.specs.WrittenStreams.{Chunk, slot_columns, stored_columns, batch_of, given_of_slots, given_of_stored}
use Rattle.ipc_format_grammar.specs.WrittenStreams.{batch_of_slots, batch_of_stored}
use Rattle.ipc_format_laws.proofs.SchemaParts.{both}
use Rattle.ipc_format_laws.proofs.Room.{HasId, fits_signed}

-- ---- ids of parts

below_are : (here : Ids) → are_ids here ≡ true → all_are_ids (ids_below here) ≡ true
below_are (ids own below) e = (both (is_id own) (all_are_ids below) e).1

first_are : (below : IdsList) → all_are_ids below ≡ true → are_ids (first_ids below) ≡ true
first_are no_ids e = refl
first_are (ids_then first others) e = (both (are_ids first) (all_are_ids others) e).0

others_are : (below : IdsList) → all_are_ids below ≡ true → all_are_ids (other_ids below) ≡ true
others_are no_ids e = refl
others_are (ids_then first others) e = (both (are_ids first) (all_are_ids others) e).1

id_fits : (own : Option ℤ) → is_id own ≡ true → FitsSigned w64 (id_or_0 own)
id_fits None e = fits_signed (pos 0) refl
id_fits (Some id) e = fits_signed id e

own_fits : (here : Ids) → are_ids here ≡ true → FitsSigned w64 (id_or_0 (own_id here))
own_fits (ids own below) e = id_fits own (both (is_id own) (all_are_ids below) e).0

-- the first child's ids
child_are : (here : Ids) → are_ids here ≡ true → are_ids (first_ids (ids_below here)) ≡ true
child_are here e = first_are (ids_below here) (below_are here e)

-- a dictionary's values have the ids below its own
value_are : (here : Ids) → are_ids here ≡ true → are_ids (ids None (ids_below here)) ≡ true
value_are here e = below_are here e

one_after : (given : List Given) (last : Given) → All HasId given → HasId last → All HasId (given ++ last ∷ [])
one_after given last all fits = All-append HasId given (last ∷ []) all (All-cons HasId last [] fits (All-nil HasId))

-- ---- of stored columns

mutual
  stored_ids : (here : Ids) (column : Column) → are_ids here ≡ true → All HasId (given_stored here column)
  stored_ids here (nulls data_type n) e = All-nil HasId
  stored_ids here (flat data_type mask stored) e = All-nil HasId
  stored_ids here (lists data_type mask offsets child) e = stored_ids (first_ids (ids_below here)) child (child_are here e)
  stored_ids here (fixed_lists data_type mask size child) e = stored_ids (first_ids (ids_below here)) child (child_are here e)
  stored_ids here (records data_type mask n children) e = each_ids (ids_below here) children (below_are here e)
  stored_ids here (unions data_type type_ids offsets children) e = each_ids (ids_below here) children (below_are here e)
  stored_ids here (dictionary data_type mask keys values) e =
      one_after (given_stored (ids None (ids_below here)) values) (record {
        id = id_or_0 (own_id here);
        data_type = column_type values;
        slots = slots values;
        column = encode_stored true values;
      }) (stored_ids (ids None (ids_below here)) values (value_are here e)) (own_fits here e)

  each_ids : (below : IdsList) (columns : Columns) → all_are_ids below ≡ true → All HasId (given_each below columns)
  each_ids below no_column e = All-nil HasId
  each_ids below (column_then column columns) e =
      All-append HasId (given_stored (first_ids below) column) (given_each (other_ids below) columns)
      (stored_ids (first_ids below) column (first_are below e)) (each_ids (other_ids below) columns (others_are below e))

all_stored_ids : (below : IdsList) (columns : List Column) → all_are_ids below ≡ true → All HasId (given_of_stored below columns)
all_stored_ids below [] e = All-nil HasId
all_stored_ids below (column ∷ columns) e =
    All-append HasId (given_stored (first_ids below) column) (given_of_stored (other_ids below) columns)
    (stored_ids (first_ids below) column (first_are below e)) (all_stored_ids (other_ids below) columns (others_are below e))

-- ---- of slots

abbrev GivesIds : Giver → Type 0
GivesIds giver = (here : Ids) (slots : List Slot) → are_ids here ≡ true → All HasId (giver here slots)

abbrev give_field : Field → Giver
give_field = para-Field Giver Giver give_step give_field_step

abbrev TypeGivesIds : DataType → Type 0
TypeGivesIds t = GivesIds (given_by t)

abbrev FieldGivesIds : Field → Type 0
FieldGivesIds u = GivesIds (give_field u)

abbrev D : Type 0
D = (t : DataType) × TypeGivesIds t

abbrev F : Type 0
F = (u : Field) × FieldGivesIds u

abbrev field_in : F → Field
field_in e = e.0

abbrev with_giver : Field → Field × Giver
with_giver u = (u, give_field u)

abbrev Layer : Type 0
Layer = layer.DataType-F DataType Field

-- a layer's claim is its type's
at_roll : (x : Layer)
    → GivesIds (give_step (map-DataType DataType Field (DataType × Giver) (Field × Giver) (λ t. (t, given_by t)) with_giver x))
    → TypeGivesIds (roll-DataType x)
at_roll x h = rw (para-roll-DataType Giver Giver give_step give_field_step x) h

fields_ids : (ys : List F) (below : IdsList) (slots : List Slot) (k : ℕ) → all_are_ids below ≡ true
    → All HasId (given_fields (givers (map with_giver (map field_in ys))) below slots k)
fields_ids [] below slots k e = All-nil HasId
fields_ids (y ∷ ys) below slots k e =
    All-append HasId (give_field y.0 (first_ids below) (field_slots slots k))
    (given_fields (givers (map with_giver (map field_in ys))) (other_ids below) slots (suc k))
    (y.1 (first_ids below) (field_slots slots k) (first_are below e)) (fields_ids ys (other_ids below) slots (suc k) (others_are below e))

abbrev layer_of : layer.DataType-F D F → Layer
layer_of y = map-DataType D F DataType Field (λ e. e.0) field_in y

layer_gives_ids : (y : layer.DataType-F D F) → TypeGivesIds (roll-DataType (layer_of y))
layer_gives_ids (layer.List item) = at_roll (layer.List item.0)
    (λ here slots e. item.1 (first_ids (ids_below here)) (joined_items slots) (child_are here e))
layer_gives_ids (layer.LargeList item) = at_roll (layer.LargeList item.0)
    (λ here slots e. item.1 (first_ids (ids_below here)) (joined_items slots) (child_are here e))
layer_gives_ids (layer.FixedSizeList item size) = at_roll (layer.FixedSizeList item.0 size)
    (λ here slots e. item.1 (first_ids (ids_below here)) (joined_fixed_items size slots) (child_are here e))
layer_gives_ids (layer.Map entry is_sorted) = at_roll (layer.Map entry.0 is_sorted)
    (λ here slots e. entry.1 (first_ids (ids_below here)) (joined_items slots) (child_are here e))
layer_gives_ids (layer.Struct children) = at_roll (layer.Struct (map field_in children))
    (λ here slots e. fields_ids children (ids_below here) slots 0 (below_are here e))
layer_gives_ids (layer.Dictionary key value is_ordered) = at_roll (layer.Dictionary key value.0 is_ordered)
    (λ here slots e. let values = dictionary_values slots in
    one_after (given_by value.0 (ids None (ids_below here)) values)
    (record { id = id_or_0 (own_id here); data_type = value.0; slots = values; column = encode value.0 values })
    (value.1 (ids None (ids_below here)) values (value_are here e)) (own_fits here e))
layer_gives_ids (layer.Extension name inner metadata) = at_roll (layer.Extension name inner.0 metadata)
    (λ here slots e. inner.1 here slots e)
layer_gives_ids y = at_roll (layer_of y) (λ here slots e. All-nil HasId)

-- a field without its claim
abbrev bare : layer.Field-F D F → layer.Field-F DataType Field
bare y = record { name = y.name; data_type = y.data_type.0; is_nullable = y.is_nullable; metadata = y.metadata }

field_gives_ids : (y : layer.Field-F D F) → FieldGivesIds (roll-Field (bare y))
field_gives_ids y = rw (para-roll-Field Giver Giver give_step give_field_step (bare y)) y.data_type.1

type_gives_ids : (t : DataType) → TypeGivesIds t
type_gives_ids = ind-DataType TypeGivesIds FieldGivesIds (λ x y is. subst (λ (x : Layer). TypeGivesIds (roll-DataType x)) is (layer_gives_ids y))
    (λ x y is. subst (λ x. FieldGivesIds (roll-Field x)) is (field_gives_ids y))

slots_ids : (fields : List Field) (below : IdsList) (columns : List (List Slot)) → all_are_ids below ≡ true
    → All HasId (given_of_slots fields below columns)
slots_ids [] below columns e = All-nil HasId
slots_ids (field ∷ fields) below [] e = All-nil HasId
slots_ids (field ∷ fields) below (column ∷ columns) e =
    All-append HasId (given_by field.data_type (first_ids below) column) (given_of_slots fields (other_ids below) columns)
    (type_gives_ids field.data_type (first_ids below) column (first_are below e)) (slots_ids fields (other_ids below) columns (others_are below e))

-- ---- of batches

pub batch_ids : (fields : List Field) (below : IdsList) (chunk : Chunk) → all_are_ids below ≡ true → All HasId (batch_of fields below chunk).given
unfolding batch_of_slots batch_of_stored
batch_ids fields below (slot_columns columns) e = slots_ids fields below columns e
batch_ids fields below (stored_columns columns) e = all_stored_ids below columns e
