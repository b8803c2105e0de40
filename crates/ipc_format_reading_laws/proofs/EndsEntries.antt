-- The windows that reading takes of messages stand before an end where the buffers that the messages state do.
use Rattle.std.proofs.Common.{◌≡◌, ℕ, ◌+◌, Bool, List, [], ◌∷◌, length, sym, ap, subst, ◌∙◌, nat_le, not}
use Rattle.std.specs.Prelude.{Some, None, slice_get}
use Rattle.std.specs.List.{flat_map}
use Rattle.ipc_format_laws.specs.flatbuffers.Reading.{guard}
use Rattle.ipc_format_laws.specs.flatbuffers.FlatBuffers as flat
use Rattle.ipc_format_laws.specs.columnar_memory.declared.Field.{Field}
use Rattle.ipc_format_laws.specs.columns.Slots.{Slot, window}
use Rattle.ipc_format_laws.specs.grammar.Messages as message
use Rattle.ipc_format_laws.specs.grammar.Messages.{FieldNode, Buffer, RecordBatch, DictionaryBatch, record_batch_in, dictionary_batch_in, lengths_sum}
use Rattle.ipc_format_laws.specs.grammar.Messages.{structs_in, as_node, as_buffer}
use Rattle.ipc_format_laws.specs.grammar.Schemas.{ids}
use Rattle.ipc_format_laws.specs.grammar.Columns.{Source, Dictionary, Place, slots_in}
use Rattle.ipc_format_laws.specs.grammar.Dictionaries.{Entry, Layout, Values, values_of, source_in, dictionary_in}
use Rattle.ipc_format_laws.specs.grammar.Tables.{column_place, column_in, columns_from, batch_in, batches_with, batches_of}
use Rattle.ipc_format_laws.specs.grammar.Windows.{or_none, windows_in, column_windows, batch_windows, dictionary_windows, header_windows, entry_windows}
use Rattle.ipc_format_laws.specs.Columns.{StandsAt}
use Rattle.ipc_format_laws.proofs.Elements.{part_first, part_next}
use Rattle.ipc_format_laws.proofs.Firsts.{came_of, bind_is, same_value}
use Rattle.ipc_format_reading_laws.specs.StatedBodies.{BatchEnds, HeaderEnds}
use Rattle.ipc_format_reading_laws.proofs.AppendedEntries.{IsBefore}
use Rattle.ipc_format_reading_laws.proofs.EndsBuffers.{Before, SourceEnds}
use Rattle.ipc_format_reading_laws.proofs.EndsTypes.{types_end}
use Rattle.ipc_format_reading_laws.proofs.StoredGivenLists.{Each, each_more}
use Rattle.ipc_format_reading_laws.proofs.StoredTablesEntries.{whole_list}

-- ---- batches

source_ends : (end : ℕ) (order : Bool) (entry : Entry) (table : flat.TablePlace) (source : Source) → BatchEnds end entry.origin entry.metadata table
    → source_in order entry table ≡ Some source → SourceEnds end source
unfolding source_in
source_ends end order entry table source ends e =
    let vectors = came_of {A = RecordBatch} (record_batch_in entry.metadata table) _ source e in
    let test = came_of {A = Bool} (guard (not vectors.0.is_compressed)) _ source vectors.2 in
    let sum = came_of {A = ℕ} (lengths_sum entry.metadata vectors.0.buffers) _ source test.2 in
    let fits = came_of {A = Bool} (guard (nat_le sum.0 (length entry.room))) _ source sum.2 in
    let nodes = came_of {A = List FieldNode} (structs_in as_node entry.metadata vectors.0.nodes) _ source fits.2 in
    let buffers = came_of {A = List Buffer} (structs_in as_buffer entry.metadata vectors.0.buffers) _ source nodes.2 in
    let found : Source = record {
      nodes = nodes.0;
      buffers = buffers.0;
      version = entry.version;
      is_little_endian = order;
      room = entry.room;
      origin = entry.origin;
    } in
    subst (SourceEnds end) (same_value found source buffers.2) (ends vectors.0 buffers.0 vectors.1 buffers.1)

-- ---- dictionaries

dictionary_ends : (end : ℕ) (layout : Layout) (standing : List Dictionary) (entry : Entry) (table : flat.TablePlace) (dictionary : Dictionary)
    → HeaderEnds end entry.origin entry.metadata (message.dictionary_batch table) → dictionary_in layout standing entry table ≡ Some dictionary
    → Before end (dictionary_windows layout entry table)
unfolding dictionary_in
dictionary_ends end layout standing entry table dictionary ends e =
    let batch = came_of {A = DictionaryBatch} (dictionary_batch_in entry.metadata table) _ dictionary e in
    let test = came_of {A = Bool} (guard (not batch.0.is_delta)) _ dictionary batch.2 in
    let source = came_of {A = Source} (source_in layout.is_little_endian entry batch.0.values) _ dictionary test.2 in
    let values = came_of {A = Values} (values_of layout.fields batch.0.id layout.below) _ dictionary source.2 in
    let at : Place = record { source = source.0; standing = []; limit = None; node = 0; buffer = 0; ids = ids None values.0.below } in
    let slots = came_of {A = List Slot} (slots_in values.0.data_type (record at { standing = standing })) _ dictionary values.2 in
    let windows : dictionary_windows layout entry table ≡ windows_in values.0.data_type at =
    ap or_none (bind_is (dictionary_batch_in entry.metadata table) _ batch.0 batch.1
    ∙ bind_is (source_in layout.is_little_endian entry batch.0.values) _ source.0 source.1
    ∙ bind_is (values_of layout.fields batch.0.id layout.below) _ values.0 values.1) in
    subst (Before end) (sym windows) (types_end end values.0.data_type at standing
    (source_ends end layout.is_little_endian entry batch.0.values source.0 (ends batch.0 batch.1) source.1) slots.0 slots.1)

-- ---- record batches

columns_end : (end : ℕ) (layout : Layout) (standing : List Dictionary) (source : Source) (k : ℕ) (fields : List Field)
    (columns : List (List Slot)) → SourceEnds end source → StandsAt layout.fields k fields
    → columns_from layout standing source k fields ≡ Some columns
    → Before end (flat_map (column_windows layout source) (window (λ j. j) k (length fields)))
columns_end end layout standing source k [] columns ends at e = tt
columns_end end layout standing source k (field ∷ fields) columns ends at e =
    let column = came_of {A = List Slot} (column_in layout standing source None k field) _ columns e in
    let others = came_of {A = List (List Slot)} (columns_from layout standing source (k + 1) fields) _ columns column.2 in
    let windows : column_windows layout source k ≡ windows_in field.data_type (column_place layout [] source None k) =
    ap or_none (bind_is (slice_get layout.fields k) _ field (part_first field fields at)) in
    each_more (IsBefore end) (column_windows layout source k) (flat_map (column_windows layout source) (window (λ j. j) (k + 1) (length fields)))
    (subst (Before end) (sym windows)
    (types_end end field.data_type (column_place layout [] source None k) standing ends column.0 column.1))
    (columns_end end layout standing source (k + 1) fields others.0 ends (part_next field fields at) others.1)

batch_ends : (end : ℕ) (layout : Layout) (standing : List Dictionary) (entry : Entry) (table : flat.TablePlace) (columns : List (List Slot))
    → BatchEnds end entry.origin entry.metadata table → batch_in layout standing entry table ≡ Some columns
    → Before end (batch_windows layout (window (λ j. j) 0 (length layout.fields)) entry table)
unfolding batch_in
batch_ends end layout standing entry table columns ends e =
    let source = came_of {A = Source} (source_in layout.is_little_endian entry table) _ columns e in
    let found = came_of {A = List (List Slot)} (columns_from layout standing source.0 0 layout.fields) _ columns source.2 in
    let windows : batch_windows layout (window (λ j. j) 0 (length layout.fields)) entry table
    ≡ flat_map (column_windows layout source.0) (window (λ j. j) 0 (length layout.fields)) =
    ap or_none (bind_is (source_in layout.is_little_endian entry table) _ source.0 source.1) in
    subst (Before end) (sym windows) (columns_end end layout standing source.0 0 layout.fields found.0
    (source_ends end layout.is_little_endian entry table source.0 ends source.1) (whole_list layout.fields) found.1)

-- ---- messages one after another

-- the windows of all columns of a message stand before an end
abbrev pub ColumnsEnd : ℕ → Layout → Entry → Type 0
ColumnsEnd end layout entry = Before end (entry_windows layout (window (λ j. j) 0 (length layout.fields)) entry)

-- the buffers that a message states stand before an end
abbrev pub StatesEnd : ℕ → Entry → Type 0
StatesEnd end entry = HeaderEnds end entry.origin entry.metadata entry.header

by_header : (end : ℕ) (layout : Layout) (standing : List Dictionary) (entry : Entry) (entries : List Entry) (header : message.Header)
    (batches : List (List (List Slot))) → HeaderEnds end entry.origin entry.metadata header
    → ((now : List Dictionary) (later : List (List (List Slot))) → batches_of layout now entries ≡ Some later → Each (ColumnsEnd end layout) entries)
    → batches_with layout standing entry (λ now. batches_of layout now entries) header ≡ Some batches
    → Before end (header_windows layout (window (λ j. j) 0 (length layout.fields)) entry header) × Each (ColumnsEnd end layout) entries
by_header end layout standing entry entries (message.schema table) batches ends rest e = absurd cc
by_header end layout standing entry entries (message.dictionary_batch table) batches ends rest e =
    let dictionary = came_of {A = Dictionary} (dictionary_in layout standing entry table) _ batches e in (
      dictionary_ends end layout standing entry table dictionary.0 ends dictionary.1,
      rest (dictionary.0 ∷ standing) batches dictionary.2,
    )
by_header end layout standing entry entries (message.record_batch table) batches ends rest e =
    let columns = came_of {A = List (List Slot)} (batch_in layout standing entry table) _ batches e in
    let later = came_of {A = List (List (List Slot))} (batches_of layout standing entries) _ batches columns.2 in
    (batch_ends end layout standing entry table columns.0 ends columns.1, rest standing later.0 later.1)

-- the windows of messages that read stand before an end where the buffers that they state do
pub entries_before : (end : ℕ) (layout : Layout) (standing : List Dictionary) (entries : List Entry) (batches : List (List (List Slot)))
    → Each (StatesEnd end) entries → batches_of layout standing entries ≡ Some batches → Each (ColumnsEnd end layout) entries
entries_before end layout standing [] batches ends e = tt
entries_before end layout standing (entry ∷ entries) batches ends e =
    by_header end layout standing entry entries entry.header batches ends.0
    (λ (now : List Dictionary) (later : List (List (List Slot))) its. entries_before end layout now entries later ends.1 its) e
