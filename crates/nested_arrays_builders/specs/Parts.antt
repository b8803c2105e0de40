-- What a builder holds beside its marks: the column that it stores, and which parts hold which slots.
use Rattle.std.specs.Prelude.{◌≡◌, ◌⊎◌, ◌<◌, ℕ, ◌+◌, ◌*◌, ◌≤◌, ◌&&◌, ◌||◌, nat_le, Bool, true, false, List, [], ◌∷◌, ◌++◌, length, map, take, All}
use Rattle.std.specs.Prelude.{Result, MatchResult}
use Rattle.std.specs.List.{list_all}
use Rattle.nested_arrays_builder_values.specs.parts.arrays.columnar_memory.declared.DataType.{DataType}
use Rattle.nested_arrays_builder_values.specs.parts.arrays.columnar_memory.declared.DataType.TheOpen as layer
use Rattle.nested_arrays_builder_values.specs.parts.arrays.columnar_memory.declared.Error.{Error}
use Rattle.nested_arrays_builder_values.specs.parts.arrays.columnar_memory.declared.Field.{Field}
use Rattle.nested_arrays_builder_values.specs.parts.arrays.columnar_memory.declared.IntegerType.{IntegerType}
use Rattle.nested_arrays_builder_values.specs.parts.arrays.columnar_memory.Error.{IsOutOfMemory, IsOverflow}
use Rattle.nested_arrays_builder_values.specs.parts.arrays.columnar_memory.Spans.{Spans, offsets_of, extended, first_spans, last_of}
use Rattle.nested_arrays_builder_values.specs.parts.arrays.columns.Cells.{fits_cell, is_null, is_list_of, is_list_of_size, is_record_of}
use Rattle.nested_arrays_builder_values.specs.parts.arrays.columns.Children.{items_of, fixed_items_of, joined_items, joined_fixed_items, dictionary_values}
use Rattle.nested_arrays_builder_values.specs.parts.arrays.columns.FreshColumns.{fresh, is_valid}
use Rattle.nested_arrays_builder_values.specs.parts.arrays.columns.FreshLaws.{is_buildable}
use Rattle.nested_arrays_builder_values.specs.parts.arrays.columns.Kinds.{most_slots, most_values}
use Rattle.nested_arrays_builder_values.specs.parts.arrays.columns.OpenBatch.{most_short, most_long, fits}
use Rattle.nested_arrays_builder_values.specs.parts.arrays.columns.SameSlots.{is_among, are_distinct}
use Rattle.nested_arrays_builder_values.specs.parts.arrays.columns.Slots.{Slot}
use Rattle.nested_arrays_builder_values.specs.parts.arrays.columns.StoredColumns.{Column, column_size, lists, fixed_lists, records, dictionary, in_columns, slots, type_layer}
use Rattle.nested_arrays_builder_values.specs.parts.columns.OpenParts.{marks_of, mask_from, item_spans, slots_of_fields, fields_of_slot, is_list, is_list_sized}
use Rattle.nested_arrays_builder_values.specs.parts.columns.OpenParts.{is_record_sized, grown_values}
use Rattle.nested_arrays_builder_values.specs.Uses.{greatest, keys_from, use_among, uses_among}
use Rattle.nested_arrays_builder_values.specs.parts.Open.{Open, opened, column_of, first_slots, with_slot, IsWithin}

pub data Parts : Type 0 where
  -- lists: whether their offsets are large, the spans of their items, and these
  listed : Bool → Spans → Open → Parts
  -- lists of one size, and their items
  sized : ℕ → Open → Parts
  -- an open column for each field
  of_fields : List Open → Parts
  -- dictionaries: the type of their keys, how many of the values each slot needs, and the values, as they are found and as they are held
  keyed : IntegerType → List ℕ → List Slot → Open → Parts

-- what a builder is: one without children, or a data type, marks, and what is held beside them
pub data Held : Type 0 where
  leaf : Open → Held
  nested : DataType → List Bool → Parts → Held

-- the column of a data type, marks and what is held beside them
abbrev pub parts_column : DataType → List Bool → Parts → Column
parts_column t marks (listed large spans child) = lists t (mask_from marks) (offsets_of spans) (column_of child)
parts_column t marks (sized size child) = fixed_lists t (mask_from marks) size (column_of child)
parts_column t marks (of_fields children) = records t (mask_from marks) (length marks) (in_columns (map column_of children))
parts_column t marks (keyed key uses known child) = dictionary t (mask_from marks) (keys_from uses) (column_of child)

-- the open column that a builder is
abbrev pub seen : Held → Open
seen (leaf o) = o
seen (nested t marks parts) = opened t (slots (parts_column t marks parts))

-- the parts of the first n slots
abbrev pub first_parts : Parts → ℕ → Parts
first_parts (listed large spans child) n = listed large (first_spans spans n) (first_slots child (last_of (first_spans spans n)))
first_parts (sized size child) n = sized size (first_slots child (size * n))
first_parts (of_fields children) n = of_fields (map (λ o. first_slots o n) children)
first_parts (keyed key uses known child) n =
    keyed key (take n uses) (take (greatest (take n uses)) known) (first_slots child (greatest (take n uses)))

-- more slots behind
abbrev pub with_slots : Open → List Slot → Open
with_slots old slots = opened old.data_type (old.slots ++ slots)

-- one more slot behind each
abbrev pub with_each : List Open → List Slot → List Open
with_each [] slots = []
with_each (child ∷ children) [] = child ∷ children
with_each (child ∷ children) (slot ∷ slots) = with_slot child slot ∷ with_each children slots

-- the parts of one more slot
abbrev pub more_parts : Parts → Slot → Parts
more_parts (listed large spans child) slot =
    listed large (extended spans (length (items_of slot) ∷ [])) (with_slots child (items_of slot))
more_parts (sized size child) slot = sized size (with_slots child (fixed_items_of size slot))
more_parts (of_fields children) slot = of_fields (with_each children (fields_of_slot (length children) slot))
more_parts (keyed key uses known child) slot = keyed key (uses ++ use_among (grown_values known slot) slot ∷ []) (grown_values known slot)
    (opened child.data_type (grown_values child.slots slot))

-- whether a slot is one of the form that the parts hold
abbrev pub is_formed : Parts → Slot → Bool
is_formed (listed large spans child) slot = is_list slot
is_formed (sized size child) slot = is_list_sized size slot
is_formed (of_fields children) slot = is_record_sized (length children) slot
is_formed (keyed key uses known child) slot = true

-- the test of each of some open columns
abbrev pub tests_of : List Open → List (Slot → Bool)
tests_of children = map (λ (o : Open). fits_cell o.data_type) children

-- whether a slot is one that the parts take, and so is what stands inside it
abbrev pub takes_slot : Parts → Slot → Bool
takes_slot (listed large spans child) slot = is_list_of (fits_cell child.data_type) slot
takes_slot (sized size child) slot = is_list_of_size size (fits_cell child.data_type) slot
takes_slot (of_fields children) slot = is_record_of (tests_of children) slot
takes_slot (keyed key uses known child) slot = fits_cell child.data_type slot

-- the greatest offset of 64 bits, or else of 32
abbrev pub most_end : Bool → ℕ
most_end true = most_long
most_end false = most_short

-- whether the slots of an open column fit its type
abbrev pub is_fitting : Open → Bool
is_fitting o = fits o.data_type o.slots

-- whether what one more slot brings fits behind what the parts hold
abbrev pub has_room : Parts → Slot → Bool
has_room (listed large spans child) slot =
    nat_le (length child.slots + length (items_of slot)) (most_end large) && is_fitting (with_slots child (items_of slot))
has_room (sized size child) slot = is_fitting (with_slots child (fixed_items_of size slot))
has_room (of_fields children) slot = list_all is_fitting (with_each children (fields_of_slot (length children) slot))
has_room (keyed key uses known child) slot = is_null slot || is_among slot known
    || (nat_le (length known + 1) (most_values key) && is_fitting (with_slot child slot))

-- how many columns a type has, itself among them: a measure for what is cut and pushed
abbrev pub type_size : DataType → ℕ
type_size t = column_size (fresh t [])

abbrev pub types_size : List Open → ℕ
types_size [] = 0
types_size (child ∷ children) = type_size child.data_type + types_size children

-- how many columns stand below
abbrev pub parts_size : Parts → ℕ
parts_size (listed large spans child) = type_size child.data_type
parts_size (sized size child) = type_size child.data_type
parts_size (of_fields children) = types_size children
parts_size (keyed key uses known child) = type_size child.data_type

-- an open column for each field
abbrev pub opened_each : List Field → List (List Slot) → List Open
opened_each [] columns = []
opened_each (field ∷ more) [] = []
opened_each (field ∷ more) (column ∷ columns) = opened field.data_type column ∷ opened_each more columns

-- whether parts hold these slots of a type of such a layer
abbrev pub HoldsParts : layer.DataType-F DataType Field → Parts → List Slot → Type 0
HoldsParts (layer.List item) (listed large spans child) some =
    (large ≡ false) × (spans ≡ item_spans some) × (child ≡ opened item.data_type (joined_items some))
HoldsParts (layer.LargeList item) (listed large spans child) some =
    (large ≡ true) × (spans ≡ item_spans some) × (child ≡ opened item.data_type (joined_items some))
HoldsParts (layer.FixedSizeList item size) (sized held child) some =
    (held ≡ size) × (child ≡ opened item.data_type (joined_fixed_items size some))
HoldsParts (layer.Struct fields) (of_fields children) some = children ≡ opened_each fields (slots_of_fields (length fields) some)
HoldsParts (layer.Dictionary own value is_ordered) (keyed key uses known child) some =
    (key ≡ own) × (uses ≡ uses_among (dictionary_values some) some) × (known ≡ dictionary_values some)
    × (child ≡ opened value (dictionary_values some))
HoldsParts _ _ some = ⊥

-- These slots are kept as a mark each and what is held beside them, and they fit.
pub record IsKept (t : DataType) (marks : List Bool) (parts : Parts) (some : List Slot) : Type 0 where
  pub can : is_buildable t ≡ true
  pub fit : fits t some ≡ true
  pub marked : marks ≡ marks_of some
  pub held : HoldsParts (type_layer t) parts some

-- the slots that a builder is seen to have are kept
abbrev pub IsHeld : Held → Type 0
IsHeld (leaf o) = Unit {0}
IsHeld (nested t marks parts) = IsKept t marks parts (slots (parts_column t marks parts))

-- parts hold what n slots bring
abbrev pub HoldsCount : Parts → ℕ → Type 0
HoldsCount (listed large spans child) n = (length spans.lengths ≡ n) × (last_of spans ≡ length child.slots)
HoldsCount (sized size child) n = length child.slots ≡ size * n
HoldsCount (of_fields children) n = All (λ (o : Open). length o.slots ≡ n) children
HoldsCount (keyed key uses known child) n =
    (length uses ≡ n) × (greatest uses ≡ length child.slots) × (known ≡ child.slots) × (are_distinct known ≡ true)

-- ---- pushes

-- why some slots are not taken behind those of an open column: not all fit there, or memory ran out
abbrev pub IsShort : Open → List Slot → Error → Type 0
IsShort old some e = IsOutOfMemory e ⊎ (IsOverflow e × (is_fitting (with_slots old some) ≡ false))

-- some slots stand behind the others, or only the first of them do
abbrev pub PushesSome : {U : Type 0} → Open → List Slot → Open → Result U Error → Type 0
PushesSome old some new r =
    MatchResult r (λ _. new ≡ with_slots old some)
    (λ e. (first_slots new (length old.slots) ≡ old) × (length old.slots ≤ length new.slots) × IsShort old some e)

-- some slots stand behind the others, and all fit, or these are as they were
abbrev pub PushesAll : {U : Type 0} → Open → List Slot → Open → Result U Error → Type 0
PushesAll old some new r =
    MatchResult r (λ _. (new ≡ with_slots old some) × IsWithin (with_slots old some)) (λ e. (new ≡ old) × IsShort old some e)

-- why a slot is not taken behind those of each of several open columns
abbrev pub IsShortOfEach : List Open → List Slot → Error → Type 0
IsShortOfEach old some e = IsOutOfMemory e ⊎ (IsOverflow e × (list_all is_fitting (with_each old some) ≡ false))

-- a slot stands behind those of each of several open columns, or only behind those of the first
abbrev pub PushesFirst : {U : Type 0} → List Open → List Slot → List Open → Result U Error → Type 0
PushesFirst old some new r =
    MatchResult r (λ _. (new ≡ with_each old some) × (list_all is_fitting (with_each old some) ≡ true))
    (λ e. ((n : ℕ) × (new ≡ with_each old (take n some))) × IsShortOfEach old some e)

-- a slot stands behind those of each of several open columns, and all fit, or they are as they were
abbrev pub PushesEach : {U : Type 0} → List Open → List Slot → List Open → Result U Error → Type 0
PushesEach old some new r =
    MatchResult r (λ _. (new ≡ with_each old some) × (list_all is_fitting (with_each old some) ≡ true))
    (λ e. (new ≡ old) × IsShortOfEach old some e)

-- A slot's mark stands behind the others, and below what the slot brings; or they are as they were: there is no room for it, or memory ran out.
abbrev pub AddsSlot : {U : Type 0} → List Bool → Parts → Slot → List Bool → Parts → Result U Error → Type 0
AddsSlot marks parts slot new_marks new_parts r =
    MatchResult r
    (λ _. (new_marks ≡ marks ++ is_valid slot ∷ []) × (new_parts ≡ more_parts parts slot) × (length marks < most_slots)
    × (has_room parts slot ≡ true))
    (λ e. (new_marks ≡ marks) × (new_parts ≡ parts)
    × (IsOutOfMemory e ⊎ (IsOverflow e × ((length marks ≡ most_slots) ⊎ (has_room parts slot ≡ false)))))
