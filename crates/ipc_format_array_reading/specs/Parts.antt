-- What stands of a column with children before these, and the column that is made of both (Arrow columnar format, "Physical Memory Layout").
use Rattle.std.specs.Prelude.{◌≡◌, ◌⊎◌, ℕ, ◌*◌, ◌-◌, ◌^◌, ◌≤◌, ℤ, Bool, true, false, ◌==◌, List, [], ◌∷◌, length, drop, map}
use Rattle.std.specs.Prelude.{Option, Some, None, Result, Ok, Err, slice_get, if◌then◌else◌}
use Rattle.std.specs.List.{list_all}
use Rattle.ipc_format_column_writing.specs.column_reading.Flat.{IsMaskOf}
use Rattle.ipc_format_column_writing.specs.column_reading.columnar_memory.Error.{IsOutOfMemory, IsOutOfSpec}
use Rattle.ipc_format_column_writing.specs.column_reading.columnar_memory.Numbers.{first_number}
use Rattle.ipc_format_column_writing.specs.column_reading.columnar_memory.Spans as memory
use Rattle.ipc_format_column_writing.specs.column_reading.columnar_memory.Spans.{offsets_of}
use Rattle.ipc_format_column_writing.specs.column_reading.columnar_memory.declared.DataType.{DataType}
use Rattle.ipc_format_column_writing.specs.column_reading.columnar_memory.declared.DataType.TheOpen as layer
use Rattle.ipc_format_column_writing.specs.column_reading.columnar_memory.declared.Error.{Error}
use Rattle.ipc_format_column_writing.specs.column_reading.columnar_memory.declared.Field.{Field}
use Rattle.ipc_format_column_writing.specs.column_reading.columnar_memory.declared.PrimitiveType.TheVariants as kinds
use Rattle.ipc_format_column_writing.specs.column_reading.columnar_memory.declared.UnionMode.{UnionMode}
use Rattle.ipc_format_column_writing.specs.column_reading.columnar_memory.declared.UnionMode.TheVariants as modes
use Rattle.ipc_format_column_writing.specs.column_reading.columns.Kinds.{is_signed}
use Rattle.ipc_format_column_writing.specs.column_reading.columns.SoundColumns.{is_sound}
use Rattle.ipc_format_column_writing.specs.column_reading.columns.StoredColumns.{Column, lists, fixed_lists, records, unions, column_len, cut}
use Rattle.ipc_format_column_writing.specs.column_reading.columns.StoredColumns.{in_columns, type_layer}
use Rattle.ipc_format_column_writing.specs.column_reading.flatbuffers.Reading.{◌>>=◌}
use Rattle.ipc_format_column_writing.specs.column_reading.grammar.Columns.{last_of, limit_times, taken_of}
use Rattle.ipc_format_column_writing.specs.column_reading.grammar.Layouts as layouts
use Rattle.ipc_format_column_writing.specs.column_reading.grammar.Layouts.{before_V5}
use Rattle.ipc_format_column_writing.specs.column_reading.grammar.Messages.{Version, natural}
use Rattle.ipc_format_column_writing.specs.column_reading.messages.declared.values.Buffer.{Buffer}
use Rattle.ipc_format_column_writing.specs.column_reading.messages.declared.values.FieldNode.{FieldNode}
use Rattle.ipc_format_column_writing.specs.column_reading.Buffers.{next_values}
use Rattle.ipc_format_column_writing.specs.column_reading.Reads.{next_marked, next_offsets}
use Rattle.ipc_format_array_reading.specs.declared.begun.Beginning.{Beginning}
use Rattle.ipc_format_array_reading.specs.declared.begun.Beginning.TheVariants as beginnings
use Rattle.ipc_format_array_reading.specs.declared.begun.Begun.{Begun}
use Rattle.ipc_format_array_reading.specs.declared.begun.Begun.TheVariants as begun

-- ---- layers with children

abbrev pub has_children : layer.DataType-F DataType Field → Bool
has_children (layer.List item) = true
has_children (layer.LargeList item) = true
has_children (layer.FixedSizeList item size) = true
has_children (layer.Map entry is_sorted) = true
has_children (layer.Struct fields) = true
has_children (layer.Union fields numbers mode) = true
has_children _ = false

-- how many buffers of its own a column has
abbrev pub own_buffers : Version → layer.DataType-F DataType Field → ℕ
own_buffers version type_layer = length (layouts.parts version type_layer)

-- how many buffers a union has for its values' places
abbrev pub place_buffers : UnionMode → ℕ
place_buffers modes.Sparse = 0
place_buffers modes.Dense = 1

-- What stands before the children: how many slots are taken, their validity, and offsets; of a union the ids, and where a dense one's values
-- stand.
pub data Parts : Type 0 where
  marks : ℕ → Option (List Bool) → Parts
  spans : ℕ → Option (List Bool) → List ℕ → Parts
  choices : List ℤ → Option (List ℤ) → Parts

-- ---- parts as they are read

abbrev pub next_marks : List FieldNode → Option ℕ → List Buffer → ℕ → List ℕ → Option Parts
next_marks nodes limit buffers origin room = do
  found ← next_marked nodes limit buffers origin room
  Some (marks found.0 found.1)

abbrev pub next_spans : Bool → Bool → List FieldNode → Option ℕ → List Buffer → ℕ → List ℕ → Option Parts
next_spans is_large is_little_endian nodes limit buffers origin room = do
  found ← next_marked nodes limit buffers origin room
  offsets ← next_offsets is_large is_little_endian (drop 1 buffers) found.0 origin room
  Some (spans found.0 found.1 offsets)

-- where each value of a dense union stands in its child; a sparse one has no such numbers
abbrev pub next_places : UnionMode → Bool → List Buffer → ℕ → ℕ → List ℕ → Option (Option (List ℤ))
next_places modes.Sparse is_little_endian buffers origin count room = Some None
next_places modes.Dense is_little_endian buffers origin count room = do
  places ← next_values kinds.Int32 is_little_endian buffers origin count room
  Some (Some (map first_number places))

-- the ids of a union's slots, and their places: of all slots that the node has
abbrev pub next_choices : UnionMode → Bool → List FieldNode → List Buffer → ℕ → List ℕ → Option Parts
next_choices mode is_little_endian nodes buffers origin room = do
  node ← slice_get nodes 0
  count ← natural node.length
  numbers ← next_values kinds.Int8 true buffers origin count room
  places ← next_places mode is_little_endian (drop 1 buffers) origin count room
  Some (choices (map first_number numbers) places)

-- what stands before the children of a column whose type has this layer
abbrev pub next_parts : layer.DataType-F DataType Field → Version → Bool → List FieldNode → Option ℕ → List Buffer → ℕ → List ℕ → Option Parts
next_parts (layer.List item) version = next_spans false
next_parts (layer.Map entry is_sorted) version = next_spans false
next_parts (layer.LargeList item) version = next_spans true
next_parts (layer.Union fields numbers mode) version = λ is_little_endian nodes limit buffers origin.
    next_choices mode is_little_endian nodes (drop (length (before_V5 version)) buffers) origin
next_parts _ version = λ is_little_endian nodes limit buffers origin. next_marks nodes limit buffers origin

-- how many items lists of one size have
abbrev pub fixed_size : layer.DataType-F DataType Field → Option ℕ
fixed_size (layer.FixedSizeList item size) = Some size
fixed_size _ = None

abbrev pub times_if : Option ℕ → Option ℕ → Option ℕ
times_if None limit = limit
times_if (Some size) limit = limit_times limit size

-- under which limit children are read
abbrev pub limit_below : layer.DataType-F DataType Field → Option ℕ → Parts → Option ℕ
limit_below type_layer limit (spans taken mask offsets) = Some (last_of offsets)
limit_below type_layer limit (choices numbers places) = None
limit_below type_layer limit (marks taken mask) = times_if (fixed_size type_layer) limit

-- ---- what is read of parts

-- how a column with children begins
abbrev pub beginning_of : layer.DataType-F DataType Field → Beginning
beginning_of (layer.List item) = beginnings.Small
beginning_of (layer.Map entry is_sorted) = beginnings.Small
beginning_of (layer.LargeList item) = beginnings.Large
beginning_of (layer.Union fields numbers mode) = beginnings.Choices mode
beginning_of _ = beginnings.Marks

-- a dense union has a place for each slot, a sparse one none
abbrev pub HasPlaces : UnionMode → ℕ → Option (List ℤ) → Type 0
HasPlaces modes.Sparse count places = places ≡ None
HasPlaces modes.Dense count None = ⊥
HasPlaces modes.Dense count (Some places) = length places ≡ count

-- the parts that are read
abbrev pub parts_in : Begun → Parts
parts_in (begun.Marks marked) = marks marked.taken marked.validity
parts_in (begun.Small marked offsets) = spans marked.taken marked.validity (offsets_of offsets)
parts_in (begun.Large marked offsets) = spans marked.taken marked.validity (offsets_of offsets)
parts_in (begun.Choices numbers places) = choices numbers places

-- Parts of a column whose type has a layer: a mask and offsets for the slots that are taken, none of them past what their width has; of a dense
-- union as many places as ids, of a sparse one none.
abbrev pub AreParts : layer.DataType-F DataType Field → Begun → Type 0
AreParts type_layer (begun.Marks marked) = (beginning_of type_layer ≡ beginnings.Marks) × IsMaskOf marked.taken marked.validity
AreParts type_layer (begun.Small marked offsets) = (beginning_of type_layer ≡ beginnings.Small) × IsMaskOf marked.taken marked.validity
    × (length offsets.lengths ≡ marked.taken) × (memory.last_of offsets ≤ 2 ^ 31 - 1)
AreParts type_layer (begun.Large marked offsets) = (beginning_of type_layer ≡ beginnings.Large) × IsMaskOf marked.taken marked.validity
    × (length offsets.lengths ≡ marked.taken) × (memory.last_of offsets ≤ 2 ^ 63 - 1)
AreParts type_layer (begun.Choices numbers None) = beginning_of type_layer ≡ beginnings.Choices modes.Sparse
AreParts type_layer (begun.Choices numbers (Some places)) =
    (beginning_of type_layer ≡ beginnings.Choices modes.Dense) × (length places ≡ length numbers)

-- ids have 8 bits, and places 32
abbrev pub AreInRange : Begun → Type 0
AreInRange (begun.Choices numbers None) = list_all (is_signed 8) numbers ≡ true
AreInRange (begun.Choices numbers (Some places)) = (list_all (is_signed 8) numbers ≡ true) × (list_all (is_signed 32) places ≡ true)
AreInRange _ = Unit {0}

-- ---- the column that is made of its parts and its children

-- the only one of some columns
abbrev pub single : List Column → Option Column
single (column ∷ []) = Some column
single _ = None

-- the column, where its parts are as long as one another
abbrev pub if_long : Bool → Column → Option Column
if_long is_long column = if is_long then Some column else None

abbrev pub marked_column : layer.DataType-F DataType Field → DataType → ℕ → Option (List Bool) → List Column → Option Column
marked_column (layer.FixedSizeList item size) data_type taken mask columns = do
  items ← single columns
  if_long (column_len items == taken * size) (fixed_lists data_type mask size items)
marked_column (layer.Struct fields) data_type taken mask columns =
    if_long (list_all (λ column. column_len column == taken) columns) (records data_type mask taken (in_columns columns))
marked_column _ data_type taken mask columns = None

-- the whole column, where parts and children are as long as one another; of a union what its node has, under no limit
abbrev pub joined_column : layer.DataType-F DataType Field → DataType → Parts → List Column → Option Column
joined_column type_layer data_type (marks taken mask) columns = marked_column type_layer data_type taken mask columns
joined_column type_layer data_type (spans taken mask offsets) columns = do
  items ← single columns
  if_long (column_len items == last_of offsets) (lists data_type mask offsets items)
joined_column type_layer data_type (choices numbers places) columns = Some (unions data_type numbers places (in_columns columns))

-- a column is cut where its parts were read whole
abbrev pub cut_under : Option ℕ → Parts → Column → Column
cut_under limit (choices numbers places) column = cut column 0 (taken_of limit (length numbers))
cut_under limit _ column = column

abbrev pub sound_column : Option ℕ → Parts → Column → Option Column
sound_column limit parts column = if is_sound column then Some (cut_under limit parts column) else None

-- the column, where its parts are as long as one another and it is sound
abbrev pub checked : Bool → Column → Option Column
checked is_long column = if_long is_long column >>= (λ column. if is_sound column then Some column else None)

-- the column that is made, where it is sound
abbrev pub made_column : DataType → Option ℕ → Parts → List Column → Option Column
made_column data_type limit parts columns = joined_column (type_layer data_type) data_type parts columns >>= sound_column limit parts

-- what a call answers that makes it
abbrev pub Makes : Option Column → Result Column Error → Type 0
Makes made (Ok array) = made ≡ Some array
Makes made (Err error) = IsOutOfMemory error ⊎ (IsOutOfSpec error × (made ≡ None))
