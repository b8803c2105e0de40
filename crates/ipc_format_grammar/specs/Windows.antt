-- Which bytes a column takes: the windows of its batch's room that are looked at where it is read, by the same recursion as reading (Arrow
-- columnar format, "Physical Memory Layout"). Whatever stands outside of the windows of some columns says nothing of these columns.
use Rattle.std.specs.Prelude.{◌≡◌, ℕ, ◌+◌, ◌*◌, ◌/◌, pos, ◌&&◌, List, [], ◌∷◌, ◌++◌, length, map, Option, Some, None, nat_lt, int_lt, ◌==◌}
use Rattle.std.specs.Prelude.{slice_get, if◌then◌else◌}
use Rattle.std.specs.List.{All, flat_map}
use Rattle.std.specs.Int.{Width, w32, w64, byte_len}
use Rattle.ipc_format_flatbuffers.specs.Reading.{◌>>=◌, window_at}
use Rattle.ipc_format_flatbuffers.specs.FlatBuffers as flat
use Rattle.nested_arrays_columns.specs.columnar_memory.declared.DataType.{DataType}
use Rattle.nested_arrays_columns.specs.columnar_memory.declared.DataType.TheOpen as layer
use Rattle.nested_arrays_columns.specs.columnar_memory.declared.DataType.TheFolds.{para-DataType}
use Rattle.nested_arrays_columns.specs.columnar_memory.declared.Field.{Field}
use Rattle.nested_arrays_columns.specs.columnar_memory.declared.PrimitiveType.{PrimitiveType}
use Rattle.nested_arrays_columns.specs.columnar_memory.declared.UnionMode.{UnionMode}
use Rattle.nested_arrays_columns.specs.columnar_memory.declared.UnionMode.TheVariants as modes
use Rattle.ipc_format_grammar.specs.Messages as message
use Rattle.ipc_format_grammar.specs.Messages.{FieldNode, natural, dictionary_batch_in}
use Rattle.ipc_format_grammar.specs.Schemas.{IdsList, ids}
use Rattle.ipc_format_grammar.specs.Layouts.{union_parts, before_V5, kind_of}
use Rattle.ipc_format_grammar.specs.Values.{kind_size, key_size}
use Rattle.ipc_format_grammar.specs.Columns.{Source, Place, taken_in, offsets_in, last_of, first_below, behind_column, limit_times}
use Rattle.ipc_format_grammar.specs.Columns.{first_ids, other_ids, ids_below}
use Rattle.ipc_format_grammar.specs.Dictionaries.{Entry, Layout, source_in, values_of}
use Rattle.ipc_format_grammar.specs.Files.{footer_bytes_in}
use Rattle.ipc_format_grammar.specs.Tables.{Form, stream, file, Contents, column_place, contents_of, layout_of}

-- some bytes of a room: where they begin, and how many they are
pub record Window : Type 0 where
  pub start : ℕ
  pub size : ℕ

-- what says which bytes a column takes
abbrev pub Taker : Type 0
Taker = Place → List Window

-- none, where something is missing
abbrev pub or_none : Option (List Window) → List Window
or_none None = []
or_none (Some windows) = windows

-- the first bytes of buffer k
unfoldable pub buffer_windows : Source → ℕ → ℕ → List Window
buffer_windows source k needed = or_none (do
  buffer ← slice_get source.buffers k
  offset ← natural buffer.offset
  Some (record { start = source.origin + offset; size = needed } ∷ []))

-- the validity bitmap, where it is looked at
abbrev pub validity_windows : Place → FieldNode → ℕ → List Window
validity_windows at node taken =
    if int_lt (pos 0) node.null_count then buffer_windows at.source at.buffer ((taken + 7) / 8) else []

-- a column with a validity bitmap, and what so many taken slots take besides
unfoldable pub marked_windows : (ℕ → List Window) → Taker
marked_windows besides at = or_none (do
  node ← slice_get at.source.nodes at.node
  taken ← taken_in at node
  Some (validity_windows at node taken ++ besides taken))

-- ---- columns without children

-- slots of one size each
abbrev pub fixed_windows : (ℕ → ℕ) → Taker
fixed_windows needed at = marked_windows (λ taken. buffer_windows at.source (at.buffer + 1) (needed taken)) at

-- one more offset than there are slots, where the buffer is looked at
unfoldable pub offsets_windows : Width → Source → ℕ → ℕ → List Window
offsets_windows w source k taken = or_none (do
  buffer ← slice_get source.buffers k
  stated ← natural buffer.length
  Some (if (taken == 0) && nat_lt stated (byte_len w) then [] else buffer_windows source k ((taken + 1) * byte_len w)))

-- what the last offset says, where there are offsets
abbrev pub last_found : Option (List ℕ) → ℕ
last_found None = 0
last_found (Some offsets) = last_of offsets

abbrev pub byte_windows : Width → Taker
byte_windows w at = marked_windows (λ taken. offsets_windows w at.source (at.buffer + 1) taken
    ++ buffer_windows at.source (at.buffer + 2) (last_found (offsets_in w at.source (at.buffer + 1) taken))) at

-- ---- columns with children

abbrev pub list_windows : Width → Field × Taker → Taker
list_windows w child at = marked_windows (λ taken. offsets_windows w at.source (at.buffer + 1) taken
    ++ child.1 (first_below at 2 (Some (last_found (offsets_in w at.source (at.buffer + 1) taken))))) at

abbrev pub fixed_list_windows : ℕ → Field × Taker → Taker
fixed_list_windows size child at = marked_windows (λ taken. child.1 (first_below at 1 (limit_times at.limit size))) at

abbrev pub windows_below : List (Field × Taker) → Place → IdsList → List Window
windows_below [] at below = []
windows_below (child ∷ children) at below =
    child.1 (record at { ids = first_ids below }) ++ windows_below children (behind_column at child.0.data_type) (other_ids below)

abbrev pub struct_windows : List (Field × Taker) → Taker
struct_windows children at = marked_windows (λ taken. windows_below children (first_below at 1 at.limit) (ids_below at.ids)) at

-- the offsets of a dense union
abbrev pub places_windows : UnionMode → Source → ℕ → ℕ → List Window
places_windows modes.Sparse source k count = []
places_windows modes.Dense source k count = buffer_windows source k (count * 4)

-- a union is read whole
unfoldable pub union_windows : List (Field × Taker) → UnionMode → ℕ → ℕ → Taker
union_windows children mode spare own at = or_none (do
  node ← slice_get at.source.nodes at.node
  count ← natural node.length
  Some (buffer_windows at.source (at.buffer + spare) count ++ places_windows mode at.source (at.buffer + spare + 1) count
      ++ windows_below children (first_below at own None) (ids_below at.ids)))

-- ---- every type

abbrev pub number_windows : Option PrimitiveType → Taker
number_windows None at = []
number_windows (Some kind) at = fixed_windows (λ taken. taken * kind_size kind) at

-- one layer of a type, where each type below stands beside what says which bytes its column takes; a dictionary's values stand in a message
-- of their own
abbrev pub take_step : layer.DataType-F (DataType × Taker) (Field × Taker) → Taker
take_step layer.Null at = []
take_step layer.Boolean at = fixed_windows (λ taken. (taken + 7) / 8) at
take_step layer.Binary at = byte_windows w32 at
take_step layer.LargeBinary at = byte_windows w64 at
take_step layer.Utf8 at = byte_windows w32 at
take_step layer.LargeUtf8 at = byte_windows w64 at
take_step (layer.FixedSizeBinary size) at = fixed_windows (λ taken. taken * size) at
take_step (layer.List item) at = list_windows w32 item at
take_step (layer.Map entry is_sorted) at = list_windows w32 entry at
take_step (layer.LargeList item) at = list_windows w64 item at
take_step (layer.FixedSizeList item size) at = fixed_list_windows size item at
take_step (layer.Struct children) at = struct_windows children at
take_step (layer.Union children numbers mode) at =
    union_windows children mode (length (before_V5 at.source.version)) (length (union_parts at.source.version mode)) at
take_step (layer.Dictionary key value is_ordered) at = fixed_windows (λ taken. taken * key_size key) at
take_step (layer.Extension name inner metadata) at = inner.1 at
take_step type_layer at = number_windows (kind_of type_layer) at

abbrev pub take_field_step : layer.Field-F (DataType × Taker) (Field × Taker) → Taker
take_field_step field = field.data_type.1

-- which bytes a column of a type takes
abbrev pub windows_in : DataType → Taker
windows_in = para-DataType Taker Taker take_step take_field_step

-- ---- messages

-- column k of a batch
abbrev pub column_windows : Layout → Source → ℕ → List Window
column_windows layout source k = or_none (do
  field ← slice_get layout.fields k
  Some (windows_in field.data_type (column_place layout [] source None k)))

-- the chosen columns of a record batch
abbrev pub batch_windows : Layout → List ℕ → Entry → flat.TablePlace → List Window
batch_windows layout columns entry table = or_none (do
  source ← source_in layout.is_little_endian entry table
  Some (flat_map (column_windows layout source) columns))

-- all values of a dictionary
abbrev pub dictionary_windows : Layout → Entry → flat.TablePlace → List Window
dictionary_windows layout entry table = or_none (do
  batch ← dictionary_batch_in entry.metadata table
  source ← source_in layout.is_little_endian entry batch.values
  values ← values_of layout.fields batch.id layout.below
  Some (windows_in values.data_type
      (record { source = source; standing = []; limit = None; node = 0; buffer = 0; ids = ids None values.below })))

abbrev pub header_windows : Layout → List ℕ → Entry → message.Header → List Window
header_windows layout columns entry (message.schema table) = []
header_windows layout columns entry (message.dictionary_batch table) = dictionary_windows layout entry table
header_windows layout columns entry (message.record_batch table) = batch_windows layout columns entry table

-- which bytes of a message's room are taken where some columns are read: all of a dictionary, and the chosen columns of a batch
abbrev pub entry_windows : Layout → List ℕ → Entry → List Window
entry_windows layout columns entry = header_windows layout columns entry entry.header

-- the windows of each message of some bytes, in its room
unfoldable pub choice_windows : Form → List ℕ → List ℕ → Option (List (List Window))
choice_windows form bytes columns = do
  contents ← contents_of form bytes
  Some (map (entry_windows (layout_of contents.schema) columns) contents.entries)

-- ---- inputs that agree on some columns

-- two messages whose metadata and rooms' sizes are the same, and what stands in the windows of the first one
pub record SameEntry (windows : List Window) (a b : Entry) : Type 0 where
  pub metadata : b.metadata ≡ a.metadata
  pub header : b.header ≡ a.header
  pub version : b.version ≡ a.version
  pub origin : b.origin ≡ a.origin
  pub size : length b.room ≡ length a.room
  pub bytes : All (λ (w : Window). window_at b.room w.start w.size ≡ window_at a.room w.start w.size) windows

-- the same of messages, one after another
abbrev pub SameEntries : Layout → List ℕ → List Entry → List Entry → Type 0
SameEntries layout columns [] [] = Unit {0}
SameEntries layout columns (a ∷ more_a) (b ∷ more_b) =
    SameEntry (entry_windows layout columns a) a b × SameEntries layout columns more_a more_b
SameEntries layout columns _ _ = ⊥

-- a file's footer; a stream has none
abbrev pub footer_of : Form → List ℕ → Option (List ℕ)
footer_of stream bytes = None
footer_of file bytes = footer_bytes_in bytes

-- Two inputs of one form and one length agree on some columns: they have one schema and the same messages, up to the bytes outside of the
-- windows of the columns and of dictionaries; files have the same footer.
pub record Agree (form : Form) (columns : List ℕ) (a b : List ℕ) : Type 0 where
  pub size : length b ≡ length a
  pub footer : footer_of form b ≡ footer_of form a
  pub of_a : Contents
  pub of_b : Contents
  pub reads_a : contents_of form a ≡ Some of_a
  pub reads_b : contents_of form b ≡ Some of_b
  pub schema : of_b.schema ≡ of_a.schema
  pub entries : SameEntries (layout_of of_a.schema) columns of_a.entries of_b.entries
