-- What is written of slots within their limits has room in messages: its nodes, and those of the dictionaries that it brings.
use Rattle.std.proofs.Common.{◌≡◌, ◌∙◌, ℕ, suc, ◌-◌, ◌^◌, Bool, true, ◌&&◌, List, [], ◌∷◌, ◌++◌, length, map, refl, ap, subst, arith}
use Rattle.std.specs.Prelude.{nat_le, nat_lt, None}
use Rattle.std.specs.List.{list_all}
use Rattle.std.proofs.lemmas.Bool.{and_parts, and_from, lt-ltb, leb-true}
use Rattle.std.proofs.lemmas.List.Folds.{list_all-append}
use Rattle.std.proofs.lemmas.List.Sums.{count_by-le-length}
use Rattle.ipc_format_laws.specs.columnar_memory.declared.DataType.{DataType, map-DataType}
use Rattle.ipc_format_laws.specs.columnar_memory.declared.DataType.TheOpen as layer
use Rattle.ipc_format_laws.specs.columnar_memory.declared.DataType.TheViews.{roll-DataType, roll-Field}
use Rattle.ipc_format_laws.specs.columnar_memory.declared.DataType.TheFolds.{fold-Field, para-Field, fold-roll-DataType, fold-roll-Field, para-roll-DataType}
use Rattle.ipc_format_laws.specs.columnar_memory.declared.DataType.TheFolds.{para-roll-Field, ind-DataType}
use Rattle.ipc_format_laws.specs.columnar_memory.declared.Field.{Field, map-Field}
use Rattle.ipc_format_laws.specs.columnar_memory.declared.IntervalUnit.TheVariants as intervals
use Rattle.ipc_format_laws.specs.columns.Cells.{is_null}
use Rattle.ipc_format_laws.specs.columns.Children.{joined_items, joined_fixed_items, field_slots, dictionary_values}
use Rattle.ipc_format_laws.specs.columns.Kinds.{most_slots, most_values}
use Rattle.ipc_format_laws.specs.columns.OpenBatch.{most_short, most_long, is_length, fields_within, within_step, is_within, fits}
use Rattle.ipc_format_laws.specs.columns.Rows.{columns_fit}
use Rattle.ipc_format_laws.specs.columns.Slots.{Slot}
use Rattle.ipc_format_laws.proofs.columns_lemmas.Claims.{TypeWith, FieldWith, LayerWith, bare_layer}
use Rattle.ipc_format_laws.proofs.columns_lemmas.Conditions.{parts_of_3}
use Rattle.ipc_format_laws.specs.grammar.Columns.{first_ids, other_ids, ids_below, own_id}
use Rattle.ipc_format_laws.specs.grammar.Encoding.{Encoded, Encoder, node_of, joined_columns, field_columns, encode_step, encode}
use Rattle.ipc_format_laws.specs.grammar.GivenDictionaries.{Given, Giver, id_or_0, given_by, given_fields, givers, give_step, give_field_step}
use Rattle.ipc_format_laws.specs.grammar.Limits.{length_limit}
use Rattle.ipc_format_laws.specs.grammar.Schemas.{Ids, IdsList, ids}
use Rattle.ipc_format_laws.specs.grammar.WrittenStreams.{is_node, has_nodes_in_room, columns_of_slots, given_of_slots}

-- ---- lengths and nodes

below_limit : (n : ℕ) → nat_le n most_slots ≡ true → nat_lt n length_limit ≡ true
below_limit n h = lt-ltb n (2 ^ 63) (omega (arith, leb-true n (2 ^ 63 - 1) h))

pub length_in_room : (xs : List Slot) → is_length xs ≡ true → nat_lt (length xs) length_limit ≡ true
length_in_room xs h = below_limit (length xs) h

node_in_room : (xs : List Slot) → is_length xs ≡ true → is_node (node_of xs) ≡ true
node_in_room xs h =
    let nulls = count_by-le-length is_null xs in
    and_from (nat_lt (node_of xs).0 length_limit) (nat_lt (node_of xs).1 length_limit) (length_in_room xs h)
    (lt-ltb (node_of xs).1 (2 ^ 63) (omega (arith, nulls, leb-true (length xs) (2 ^ 63 - 1) h)))

abbrev in_room : List (ℕ × ℕ) → Bool
in_room nodes = list_all is_node nodes

-- the nodes of columns, one after another
one_more : (e : Encoded) (more : List Encoded) → in_room e.nodes ≡ true → in_room (joined_columns more).nodes ≡ true
    → in_room (joined_columns (e ∷ more)).nodes ≡ true
one_more e more h k = list_all-append is_node e.nodes (joined_columns more).nodes
    ∙ and_from (in_room e.nodes) (in_room (joined_columns more).nodes) h k

-- a node before others
node_first : (xs : List Slot) (nodes : List (ℕ × ℕ)) → is_length xs ≡ true → in_room nodes ≡ true → in_room (node_of xs ∷ nodes) ≡ true
node_first xs nodes h k = and_from (is_node (node_of xs)) (in_room nodes) (node_in_room xs h) k

-- ---- what is written of some slots

abbrev has_room : Given → Bool
has_room given = has_nodes_in_room given.column && nat_lt (length given.slots) length_limit

abbrev all_have_room : List Given → Bool
all_have_room given = list_all has_room given

record Roomy (xs : List Slot) (encoded : Encoded) (given : Ids → List Given) : Type 0 where
  counted : is_length xs ≡ true
  nodes : in_room encoded.nodes ≡ true
  brings : (here : Ids) → all_have_room (given here) ≡ true

abbrev Rooms : (List Slot → Bool) → Encoder → Giver → Type 0
Rooms within encoder giver = (xs : List Slot) → within xs ≡ true → Roomy xs (encoder xs) (λ here. giver here xs)

abbrev within_field : Field → List Slot → Bool
within_field = fold-Field (List Slot → Bool) (List Slot → Bool) within_step (λ field. field.data_type)

abbrev encode_field : Field → Encoder
encode_field = fold-Field Encoder Encoder encode_step (λ field. field.data_type)

abbrev give_field : Field → Giver
give_field = para-Field Giver Giver give_step give_field_step

abbrev TypeRooms : DataType → Type 0
TypeRooms t = Rooms (is_within t) (encode t) (given_by t)

abbrev FieldRooms : Field → Type 0
FieldRooms u = Rooms (within_field u) (encode_field u) (give_field u)

abbrev Layer : Type 0
Layer = layer.DataType-F DataType Field

at_roll : (x : Layer) → Rooms (within_step (map-DataType DataType Field (List Slot → Bool) (List Slot → Bool) is_within within_field x))
    (encode_step (map-DataType DataType Field Encoder Encoder encode encode_field x))
    (give_step (map-DataType DataType Field (DataType × Giver) (Field × Giver) (λ t. (t, given_by t)) (λ u. (u, give_field u)) x))
    → TypeRooms (roll-DataType x)
at_roll x h = rw (
  fold-roll-DataType (List Slot → Bool) (List Slot → Bool) within_step (λ field. field.data_type) x,
  fold-roll-DataType Encoder Encoder encode_step (λ field. field.data_type) x,
  para-roll-DataType Giver Giver give_step give_field_step x,
) h

-- ---- one layer

-- a column of one node
alone : (xs : List Slot) (e : Encoded) → is_length xs ≡ true → e.nodes ≡ node_of xs ∷ [] → Roomy xs e (λ here. [])
alone xs e h is = record {
  counted = h;
  nodes = ap in_room is ∙ node_first xs [] h refl;
  brings = λ here. refl;
}

-- a node over one child, which is given some slots
over : (y : FieldWith FieldRooms) (xs below : List Slot) (e : Encoded) → is_length xs ≡ true → within_field y.0 below ≡ true
    → e.nodes ≡ node_of xs ∷ (joined_columns (encode_field y.0 below ∷ [])).nodes
    → Roomy xs e (λ here. give_field y.0 (first_ids (ids_below here)) below)
over y xs below e h within is =
    let child = y.1 below within in
    let more = one_more (encode_field y.0 below) [] child.nodes refl in record {
      counted = h;
      nodes = ap in_room is ∙ node_first xs (joined_columns (encode_field y.0 below ∷ [])).nodes h more;
      brings = λ here. child.brings (first_ids (ids_below here));
    }

lists_have : (limit : ℕ) (y : FieldWith FieldRooms) (xs : List Slot) (e : Encoded)
    → (is_length xs && nat_le (length (joined_items xs)) limit && within_field y.0 (joined_items xs)) ≡ true
    → e.nodes ≡ node_of xs ∷ (joined_columns (encode_field y.0 (joined_items xs) ∷ [])).nodes
    → Roomy xs e (λ here. give_field y.0 (first_ids (ids_below here)) (joined_items xs))
lists_have limit y xs e h is =
    let parts = parts_of_3 (is_length xs) (nat_le (length (joined_items xs)) limit) (within_field y.0 (joined_items xs)) h in
    over y xs (joined_items xs) e parts.0 parts.2 is

abbrev Children : Type 0
Children = List (FieldWith FieldRooms)

abbrev fields_of : Children → List Field
fields_of ys = map (λ e. e.0) ys

children_nodes : (ys : Children) (xs : List Slot) (k : ℕ) → fields_within (map within_field (fields_of ys)) xs k ≡ true
    → in_room (joined_columns (field_columns (map encode_field (fields_of ys)) xs k)).nodes ≡ true
children_nodes [] xs k h = refl
children_nodes (y ∷ ys) xs k h =
    let parts = and_parts (within_field y.0 (field_slots xs k)) (fields_within (map within_field (fields_of ys)) xs (suc k)) h in
    one_more (encode_field y.0 (field_slots xs k)) (field_columns (map encode_field (fields_of ys)) xs (suc k))
    (y.1 (field_slots xs k) parts.0).nodes (children_nodes ys xs (suc k) parts.1)

children_bring : (ys : Children) (below : IdsList) (xs : List Slot) (k : ℕ) → fields_within (map within_field (fields_of ys)) xs k ≡ true
    → all_have_room (given_fields (givers (map (λ u. (u, give_field u)) (fields_of ys))) below xs k) ≡ true
children_bring [] below xs k h = refl
children_bring (y ∷ ys) below xs k h =
    let parts = and_parts (within_field y.0 (field_slots xs k)) (fields_within (map within_field (fields_of ys)) xs (suc k)) h in
    let here = give_field y.0 (first_ids below) (field_slots xs k) in
    let more = given_fields (givers (map (λ u. (u, give_field u)) (fields_of ys))) (other_ids below) xs (suc k) in
    list_all-append has_room here more
    ∙ and_from (all_have_room here) (all_have_room more) ((y.1 (field_slots xs k) parts.0).brings (first_ids below))
    (children_bring ys (other_ids below) xs (suc k) parts.1)

values_bring : (value : DataType) → TypeRooms value → (values : List Slot) → is_within value values ≡ true → (here : Ids)
    → all_have_room (given_by value (ids None (ids_below here)) values
    ++ record { id = id_or_0 (own_id here); data_type = value; slots = values; column = encode value values } ∷ []) ≡ true
values_bring value rooms values h here =
    let below = rooms values h in
    let inner = given_by value (ids None (ids_below here)) values in
    let last : Given = record { id = id_or_0 (own_id here); data_type = value; slots = values; column = encode value values } in
    list_all-append has_room inner (last ∷ [])
    ∙ and_from (all_have_room inner) (all_have_room (last ∷ [])) (below.brings (ids None (ids_below here)))
    (and_from (has_room last) true (and_from (has_nodes_in_room (encode value values)) (nat_lt (length values) length_limit) below.nodes
    (length_in_room values below.counted)) refl)

roll_rooms : (y : LayerWith TypeRooms FieldRooms) → TypeRooms (roll-DataType (bare_layer TypeRooms FieldRooms y))
roll_rooms layer.Binary = at_roll layer.Binary (λ xs h. alone xs _ (and_parts (is_length xs) _ h).0 refl)
roll_rooms layer.Utf8 = at_roll layer.Utf8 (λ xs h. alone xs _ (and_parts (is_length xs) _ h).0 refl)
roll_rooms layer.LargeBinary = at_roll layer.LargeBinary (λ xs h. alone xs _ (and_parts (is_length xs) _ h).0 refl)
roll_rooms layer.LargeUtf8 = at_roll layer.LargeUtf8 (λ xs h. alone xs _ (and_parts (is_length xs) _ h).0 refl)
roll_rooms (layer.List item) = at_roll (layer.List item.0) (λ xs h. lists_have most_short item xs _ h refl)
roll_rooms (layer.Map entry is_sorted) = at_roll (layer.Map entry.0 is_sorted) (λ xs h. lists_have most_short entry xs _ h refl)
roll_rooms (layer.LargeList item) = at_roll (layer.LargeList item.0) (λ xs h. lists_have most_long item xs _ h refl)
roll_rooms (layer.FixedSizeList item size) = at_roll (layer.FixedSizeList item.0 size) (λ xs h.
    let below = joined_fixed_items size xs in
    let parts = and_parts (is_length xs) (within_field item.0 below) h in over item xs below _ parts.0 parts.1 refl)
roll_rooms (layer.Struct children) = at_roll (layer.Struct (fields_of children)) (λ xs h.
    let below = joined_columns (field_columns (map encode_field (fields_of children)) xs 0) in
    let parts = and_parts (is_length xs) (fields_within (map within_field (fields_of children)) xs 0) h in record {
      counted = parts.0;
      nodes = node_first xs below.nodes parts.0 (children_nodes children xs 0 parts.1);
      brings = λ here. children_bring children (ids_below here) xs 0 parts.1;
    })
roll_rooms (layer.Union children type_ids mode) = at_roll (layer.Union (fields_of children) type_ids mode)
    (λ xs h. record { counted = h; nodes = refl; brings = λ here. refl })
roll_rooms (layer.Dictionary key value is_ordered) = at_roll (layer.Dictionary key value.0 is_ordered) (λ xs h.
    let values = dictionary_values xs in
    let parts = parts_of_3 (is_length xs) (nat_le (length values) (most_values key)) (is_within value.0 values) h in record {
      counted = parts.0;
      nodes = node_first xs [] parts.0 refl;
      brings = λ here. values_bring value.0 value.1 values parts.2 here;
    })
roll_rooms (layer.Extension name inner metadata) = at_roll (layer.Extension name inner.0 metadata) inner.1
roll_rooms (layer.Interval intervals.YearMonth) = at_roll (layer.Interval intervals.YearMonth) (λ xs h. alone xs _ h refl)
roll_rooms (layer.Interval intervals.DayTime) = at_roll (layer.Interval intervals.DayTime) (λ xs h. alone xs _ h refl)
roll_rooms (layer.Interval intervals.MonthDayNano) = at_roll (layer.Interval intervals.MonthDayNano) (λ xs h. alone xs _ h refl)
roll_rooms y = at_roll (bare_layer TypeRooms FieldRooms y) (λ xs h. alone xs _ h refl)

field_rooms : (x : layer.Field-F DataType Field) → TypeRooms x.data_type → FieldRooms (roll-Field x)
field_rooms x h = rw (
  fold-roll-Field (List Slot → Bool) (List Slot → Bool) within_step (λ field. field.data_type) x,
  fold-roll-Field Encoder Encoder encode_step (λ field. field.data_type) x,
  para-roll-Field Giver Giver give_step give_field_step x,
) h

type_rooms : (t : DataType) → TypeRooms t
type_rooms = ind-DataType TypeRooms FieldRooms (λ x y is. subst (λ (x : Layer). TypeRooms (roll-DataType x)) is (roll_rooms y))
    (λ x y is. subst (λ (x : layer.Field-F DataType Field). FieldRooms (roll-Field x)) is
    (field_rooms (map-Field (TypeWith TypeRooms) (FieldWith FieldRooms) DataType Field (λ e. e.0) (λ e. e.0) y) y.data_type.1))

-- ---- batches

-- what is written of some columns that fit has room
pub record ColumnsRoom (us : List Field) (below : IdsList) (columns : List (List Slot)) : Type 0 where
  pub nodes : has_nodes_in_room (joined_columns (columns_of_slots us columns)) ≡ true
  pub brings : list_all (λ (given : Given). has_nodes_in_room given.column && nat_lt (length given.slots) length_limit)
      (given_of_slots us below columns) ≡ true

pub columns_room : (us : List Field) (below : IdsList) (columns : List (List Slot)) → columns_fit us columns ≡ true → ColumnsRoom us below columns
columns_room [] below columns h = record { nodes = refl; brings = refl }
columns_room (u ∷ us) below [] h = record { nodes = refl; brings = refl }
columns_room (u ∷ us) below (column ∷ columns) h =
    let parts = and_parts (fits u.data_type column) (columns_fit us columns) h in
    let within = (and_parts _ (is_within u.data_type column) parts.0).1 in
    let here = type_rooms u.data_type column within in
    let rest = columns_room us (other_ids below) columns parts.1 in
    let given = given_by u.data_type (first_ids below) column in
    let more = given_of_slots us (other_ids below) columns in record {
      nodes = one_more (encode u.data_type column) (columns_of_slots us columns) here.nodes rest.nodes;
      brings = list_all-append has_room given more
          ∙ and_from (all_have_room given) (all_have_room more) (here.brings (first_ids below)) rest.brings;
    }

-- a column that fits is within the length of an array
pub fitting_length : (t : DataType) (xs : List Slot) → fits t xs ≡ true → nat_lt (length xs) length_limit ≡ true
fitting_length t xs h = length_in_room xs (type_rooms t xs (and_parts _ (is_within t xs) h).1).counted
