-- The slots that what stands of a column before its children makes with the slots of these (Arrow columnar format, "Physical Memory Layout").
use Rattle.std.proofs.Common.{◌≡◌, ℕ, zero, suc, ◌+◌, ◌*◌, ◌≤◌, ◌<◌, ℤ, pos, Bool, true, false, List, [], ◌∷◌, length, map, take, refl, sym, ap, ◌==◌}
use Rattle.std.proofs.Common.{nat_lt, slice_index, slice_range}
use Rattle.std.specs.Prelude.{Option, Some, None, slice_get, slice_index_or}
use Rattle.std.specs.List.{list_all}
use Rattle.std.proofs.lemmas.Bool.{and_from}
use Rattle.std.proofs.lemmas.List.{length-map}
use Rattle.ipc_format_array_reading.specs.columnar_memory.Equality.{same_type, same_type-Decides}
use Rattle.ipc_format_array_reading.specs.columnar_memory.declared.DataType.{DataType, map-DataType}
use Rattle.ipc_format_array_reading.specs.columnar_memory.declared.DataType.TheOpen as layer
use Rattle.ipc_format_array_reading.specs.columnar_memory.declared.DataType.TheViews.{out-DataType}
use Rattle.ipc_format_array_reading.specs.columnar_memory.declared.Field.{Field}
use Rattle.ipc_format_array_reading.specs.columnar_memory.declared.UnionMode.{UnionMode}
use Rattle.ipc_format_array_reading.specs.columnar_memory.declared.UnionMode.TheVariants as modes
use Rattle.ipc_format_array_reading.specs.columns.Kinds.{is_signed, most_offset}
use Rattle.ipc_format_array_reading.specs.columns.Slots.{Slot, fields, in_slots, items, pick, window}
use Rattle.ipc_format_array_reading.specs.columns.SoundColumns.{are_sound, has_an_id_each, have_types, is_entry, mask_fits}
use Rattle.ipc_format_array_reading.specs.columns.StoredColumns.{Column, column_type, in_columns, unless_null}
use Rattle.ipc_format_array_reading.specs.columns.Tables.{row_at}
use Rattle.ipc_format_array_reading.proofs.TypeLayers.{Layer, layer_layout}
use Rattle.ipc_format_array_reading.specs.flatbuffers.Reading.{◌>>=◌, guard}
use Rattle.ipc_format_array_reading.specs.grammar.Columns.{all_of, are_as_long, child_of, have_length, last_of, picked, piece_at, taken_of, Reader}
use Rattle.ipc_format_array_reading.specs.grammar.Messages.{natural}
use Rattle.ipc_format_array_reading.specs.ArrayReads.{fields_below, has_arrays}
use Rattle.ipc_format_array_reading.specs.Parts.{Parts, choices, marks, spans}

-- ---- layers

-- whether there are arrays of types of this layer
abbrev pub layer_arrays : Layer → Bool
layer_arrays layer.Float16 = false
layer_arrays layer.Float32 = false
layer_arrays layer.Float64 = false
layer_arrays (layer.FixedSizeBinary size) = nat_lt 0 size
layer_arrays (layer.FixedSizeList item size) = nat_lt 0 size
layer_arrays (layer.Map entry is_sorted) = is_entry (out-DataType entry.data_type)
layer_arrays (layer.Struct []) = false
layer_arrays (layer.Union us numbers mode) = has_an_id_each numbers (length us)
layer_arrays _ = true

-- the layer with something beside each type and each field
abbrev pub beside : {X : Type 0} → (DataType → X) → (Field → X) → Layer → layer.DataType-F (DataType × X) (Field × X)
beside {X} f g x = map-DataType DataType Field (DataType × X) (Field × X) (λ t. (t, f t)) (λ u. (u, g u)) x

-- what stands beside does not matter
pub arrays_any : {X : Type 0} (f : DataType → X) (g : Field → X) (x : Layer) → has_arrays (beside f g x) ≡ layer_arrays x
arrays_any f g (layer.Struct []) = refl
arrays_any f g (layer.Struct (u ∷ us)) = refl
arrays_any f g (layer.Union us numbers mode) = ap (has_an_id_each numbers) (length-map us (λ u. (u, g u)))
arrays_any f g _ = refl

-- ---- the slots

-- lists by offsets of their one child
abbrev pub joined_lists : Parts → List (List Slot) → Option (List Slot)
joined_lists (spans taken mask offsets) (values ∷ []) = do
  _ ← guard (length values == last_of offsets)
  Some (window (λ i. unless_null mask i (items (in_slots (piece_at offsets values i)))) 0 taken)
joined_lists _ columns = None

-- lists of one size
abbrev pub joined_fixed : ℕ → Parts → List (List Slot) → Option (List Slot)
joined_fixed size (marks taken mask) (values ∷ []) = do
  _ ← guard (length values == taken * size)
  Some (window (λ i. unless_null mask i (items (in_slots (slice_range values (size * i) (size * (i + 1)))))) 0 taken)
joined_fixed size _ columns = None

abbrev pub joined_structs : Parts → List (List Slot) → Option (List Slot)
joined_structs (marks taken mask) columns = do
  _ ← guard (have_length taken columns)
  Some (window (λ i. unless_null mask i (fields (in_slots (row_at columns i)))) 0 taken)
joined_structs _ columns = None

-- the slot of a number's child at a place, with the child's type
abbrev pub picked_of : List Field → List (List Slot) → Option ℕ → Option ℕ → Option Slot
picked_of us columns k place = do
  number ← k
  u ← slice_get us number
  column ← slice_get columns number
  at ← place
  slot ← slice_get column at
  Some (pick u.data_type slot)

-- where a slot's value stands in its child: at the slot's own place, or at that of a dense union
abbrev pub place_at : Option (List ℤ) → ℕ → ℤ
place_at None i = pos i
place_at (Some places) i = slice_index_or places i (pos 0)

-- the slot that a union picks
abbrev pub choice_at : List Field → Option (List ℤ) → List ℤ → Option (List ℤ) → List (List Slot) → ℕ → Option Slot
choice_at us numbers ids places columns i =
    picked_of us columns (child_of numbers (slice_index_or ids i (pos 0))) (natural (place_at places i))

abbrev pub joined_choices : List Field → Option (List ℤ) → UnionMode → Option ℕ → List ℤ → Option (List ℤ) → List (List Slot)
    → Option (List Slot)
joined_choices us numbers mode limit ids places columns = do
  _ ← guard (are_as_long mode (length ids) columns)
  slots ← all_of (window (choice_at us numbers ids places columns) 0 (length ids))
  Some (take (taken_of limit (length ids)) slots)

-- a dense union has places, a sparse one none
abbrev pub joined_unions : List Field → Option (List ℤ) → UnionMode → Option ℕ → Parts → List (List Slot) → Option (List Slot)
joined_unions us numbers modes.Sparse limit (choices ids None) columns = joined_choices us numbers modes.Sparse limit ids None columns
joined_unions us numbers modes.Dense limit (choices ids (Some places)) columns =
    joined_choices us numbers modes.Dense limit ids (Some places) columns
joined_unions us numbers mode limit parts columns = None

-- The slots that parts and children's slots make, by a type's layer: those that the format gives.
abbrev pub joined_slots : Layer → Option ℕ → Parts → List (List Slot) → Option (List Slot)
joined_slots (layer.List item) limit parts columns = joined_lists parts columns
joined_slots (layer.LargeList item) limit parts columns = joined_lists parts columns
joined_slots (layer.Map entry is_sorted) limit parts columns = joined_lists parts columns
joined_slots (layer.FixedSizeList item size) limit parts columns = joined_fixed size parts columns
joined_slots (layer.Struct us) limit parts columns = joined_structs parts columns
joined_slots (layer.Union us numbers mode) limit parts columns = joined_unions us numbers mode limit parts columns
joined_slots _ limit parts columns = None

-- ---- what is said of the parts

-- offsets of lists: one more than lists, not falling, none past a limit
pub record AreSpans (most taken : ℕ) (mask : Option (List Bool)) (offsets : List ℕ) : Type 0 where
  pub marked : mask_fits mask taken ≡ true
  pub counted : length offsets ≡ taken + 1
  pub rise : (i : ℕ) → i < taken → slice_index offsets i ≤ slice_index offsets (i + 1)
  pub small : last_of offsets ≤ most

-- a place of 32 bits for each id
abbrev pub ArePlaces : ℕ → Option (List ℤ) → Type 0
ArePlaces count None = Unit {0}
ArePlaces count (Some places) = (length places ≡ count) × (list_all (is_signed 32) places ≡ true)

-- ids of 8 bits
pub record AreChoices (ids : List ℤ) (places : Option (List ℤ)) : Type 0 where
  pub fit : list_all (is_signed 8) ids ≡ true
  pub placed : ArePlaces (length ids) places

-- the parts of a column whose type has a layer
abbrev pub AreWhole : Layer → Parts → Type 0
AreWhole x (marks taken mask) = mask_fits mask taken ≡ true
AreWhole x (spans taken mask offsets) = AreSpans (most_offset (layer_layout x)) taken mask offsets
AreWhole x (choices ids places) = AreChoices ids places

-- ---- what is said of the children

-- columns of the types of fields
abbrev pub AreTyped : List Field → List Column → Type 0
AreTyped us cs = map column_type cs ≡ map (λ (u : Field). u.data_type) us

pub record AreChildren (x : Layer) (cs : List Column) : Type 0 where
  pub sound : are_sound (in_columns cs) ≡ true
  pub typed : AreTyped (fields_below x) cs

-- a type is the same as itself
pub same_itself : (a b : DataType) → a ≡ b → same_type b a ≡ true
same_itself a b e = (same_type-Decides b a).1 (sym e)

pub typed_each : (us : List Field) (cs : List Column) → AreTyped us cs → have_types us (in_columns cs) ≡ true
typed_each [] [] typed = refl
typed_each [] (c ∷ cs) typed = absurd cc
typed_each (u ∷ us) [] typed = absurd cc
typed_each (u ∷ us) (c ∷ cs) typed =
    let first : column_type c ≡ u.data_type = cc in
    let others : AreTyped us cs = cc in
    and_from (same_type u.data_type (column_type c)) (have_types us (in_columns cs)) (same_itself (column_type c) u.data_type first)
    (typed_each us cs others)

pub one_child : (u : Field) (c : Column) → AreTyped (u ∷ []) (c ∷ []) → column_type c ≡ u.data_type
one_child u c typed = cc

-- readers beside fields do not matter to what is picked
pub picked_any : (children : List (Field × Reader)) (columns : List (List Slot)) (k place : Option ℕ)
    → picked children columns k place ≡ picked_of (map (λ (child : Field × Reader). child.0) children) columns k place
picked_any children columns None place = refl
picked_any children columns (Some k) place = of_child children k (λ u. slice_get columns k >>= (λ column. place >>= (λ at.
    slice_get column at >>= (λ slot. Some (pick u.data_type slot)))))
  where
    of_child : {B : Type 0} (children : List (Field × Reader)) (k : ℕ) (f : Field → Option B)
        → (slice_get children k >>= (λ child. f child.0)) ≡ (slice_get (map (λ (child : Field × Reader). child.0) children) k >>= f)
    of_child [] k f = refl
    of_child (child ∷ children) zero f = refl
    of_child (child ∷ children) (suc k) f = of_child children k f
