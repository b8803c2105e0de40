-- Dictionaries and the chosen columns of a batch read the same in a message with another room that has the same bytes in their windows.
use Rattle.std.proofs.Common.{◌≡◌, ◌∙◌, ℕ, zero, suc, ◌+◌, ◌≤◌, Bool, true, List, [], ◌∷◌, length, refl, sym, ap, subst, arith, zero-add, nat_le, not}
use Rattle.std.specs.Prelude.{Option, Some, None, slice_get}
use Rattle.std.specs.List.{flat_map}
use Rattle.std.proofs.lemmas.Bool.{le-leb, leb-true}
use Rattle.ipc_format_laws.specs.flatbuffers.Reading.{◌>>=◌, guard}
use Rattle.ipc_format_laws.specs.flatbuffers.FlatBuffers as flat
use Rattle.ipc_format_laws.specs.columnar_memory.declared.Field.{Field}
use Rattle.ipc_format_laws.specs.columns.Slots.{Slot}
use Rattle.ipc_format_laws.specs.grammar.Messages.{FieldNode, Buffer, RecordBatch, DictionaryBatch, record_batch_in, dictionary_batch_in, lengths_sum}
use Rattle.ipc_format_laws.specs.grammar.Messages.{structs_in, as_node, as_buffer}
use Rattle.ipc_format_laws.specs.grammar.Schemas.{ids}
use Rattle.ipc_format_laws.specs.grammar.Columns.{Source, Dictionary, Place, slots_in}
use Rattle.ipc_format_laws.specs.grammar.Dictionaries.{Entry, Layout, Values, values_of, source_in, dictionary_in}
use Rattle.ipc_format_laws.specs.grammar.Tables.{column_place, column_in, columns_from, agree_in_length, batch_in, chosen_columns, chosen_batch_in}
use Rattle.ipc_format_laws.specs.grammar.Windows.{Window, or_none, windows_in, column_windows, batch_windows, dictionary_windows}
use Rattle.ipc_format_laws.proofs.Firsts.{came_of, bind_is, same_value, guarded}
use Rattle.ipc_format_laws.proofs.FirstColumns.{cut_to}
use Rattle.ipc_format_laws.proofs.FirstTypes.{types_cut}
use Rattle.ipc_format_reading_laws.proofs.IsolatedBuffers.{SameBytes, same_first, same_later, in_room, unchanged}
use Rattle.ipc_format_reading_laws.proofs.IsolatedTypes.{types_isolated}

-- the same message with another room
abbrev pub with_room : Entry → List ℕ → Entry
with_room entry room = record entry { room = room }

-- the batch of a message by its nodes and buffers
abbrev batch_of : Bool → Entry → List FieldNode → List Buffer → Source
batch_of is_little_endian entry nodes buffers = record {
  nodes = nodes;
  buffers = buffers;
  version = entry.version;
  is_little_endian = is_little_endian;
  room = entry.room;
  origin = entry.origin;
}

moved_batch : (is_little_endian : Bool) (entry : Entry) (room : List ℕ) (nodes : List FieldNode) (buffers : List Buffer) (source : Source)
    → batch_of is_little_endian entry nodes buffers ≡ source
    → (batch_of is_little_endian (with_room entry room) nodes buffers ≡ in_room source room) × (entry.room ≡ source.room)
moved_batch is_little_endian entry room nodes buffers source whole =
    (ap (λ (source : Source). in_room source room) whole, ap (λ (source : Source). source.room) whole)

-- the batch of a message reads in another room that is at least as long
pub source_same : (is_little_endian : Bool) (entry : Entry) (room : List ℕ) (table : flat.TablePlace) (source : Source)
    → length entry.room ≤ length room → source_in is_little_endian entry table ≡ Some source
    → (source_in is_little_endian (with_room entry room) table ≡ Some (in_room source room)) × (entry.room ≡ source.room)
unfolding source_in
source_same is_little_endian entry room table source size e =
    let vectors = came_of {A = RecordBatch} (record_batch_in entry.metadata table) _ source e in
    let test = came_of {A = Bool} (guard (not vectors.0.is_compressed)) _ source vectors.2 in
    let sum = came_of {A = ℕ} (lengths_sum entry.metadata vectors.0.buffers) _ source test.2 in
    let fits = came_of {A = Bool} (guard (nat_le sum.0 (length entry.room))) _ source sum.2 in
    let within : nat_le sum.0 (length entry.room) ≡ true = guarded (nat_le sum.0 (length entry.room)) fits.0 fits.1 in
    let more : nat_le sum.0 (length room) ≡ true =
    le-leb sum.0 (length room) (omega (arith, leb-true sum.0 (length entry.room) within, size)) in
    let nodes = came_of {A = List FieldNode} (structs_in as_node entry.metadata vectors.0.nodes) _ source fits.2 in
    let buffers = came_of {A = List Buffer} (structs_in as_buffer entry.metadata vectors.0.buffers) _ source nodes.2 in
    let whole : batch_of is_little_endian entry nodes.0 buffers.0 ≡ source = same_value _ source buffers.2 in
    let moved = moved_batch is_little_endian entry room nodes.0 buffers.0 source whole in (
      bind_is (record_batch_in entry.metadata table) _ vectors.0 vectors.1 ∙ bind_is (guard (not vectors.0.is_compressed)) _ test.0 test.1
          ∙ bind_is (lengths_sum entry.metadata vectors.0.buffers) _ sum.0 sum.1
          ∙ bind_is (guard (nat_le sum.0 (length room))) _ fits.0 (ap guard (more ∙ sym within) ∙ fits.1)
          ∙ bind_is (structs_in as_node entry.metadata vectors.0.nodes) _ nodes.0 nodes.1
          ∙ bind_is (structs_in as_buffer entry.metadata vectors.0.buffers) _ buffers.0 buffers.1 ∙ ap Some moved.0,
      moved.1,
    )

-- ---- dictionaries

pub dictionary_same : (layout : Layout) (standing : List Dictionary) (entry : Entry) (room : List ℕ) (table : flat.TablePlace)
    (dictionary : Dictionary)
    → length entry.room ≤ length room → SameBytes entry.room room (dictionary_windows layout entry table)
    → dictionary_in layout standing entry table ≡ Some dictionary
    → dictionary_in layout standing (with_room entry room) table ≡ Some dictionary
unfolding dictionary_in
dictionary_same layout standing entry room table dictionary size same e =
    let batch = came_of {A = DictionaryBatch} (dictionary_batch_in entry.metadata table) _ dictionary e in
    let test = came_of {A = Bool} (guard (not batch.0.is_delta)) _ dictionary batch.2 in
    let source = came_of {A = Source} (source_in layout.is_little_endian entry batch.0.values) _ dictionary test.2 in
    let values = came_of {A = Values} (values_of layout.fields batch.0.id layout.below) _ dictionary source.2 in
    let at : Place = record { source = source.0; standing = []; limit = None; node = 0; buffer = 0; ids = ids None values.0.below } in
    let slots = came_of {A = List Slot} (slots_in values.0.data_type (record at { standing = standing })) _ dictionary values.2 in
    let there = source_same layout.is_little_endian entry room batch.0.values source.0 size source.1 in
    let windows : dictionary_windows layout entry table ≡ windows_in values.0.data_type at =
    ap or_none (bind_is (dictionary_batch_in entry.metadata table) _ batch.0 batch.1
    ∙ bind_is (source_in layout.is_little_endian entry batch.0.values) _ source.0 source.1
    ∙ bind_is (values_of layout.fields batch.0.id layout.below) _ values.0 values.1) in
    let here : SameBytes source.0.room room (windows_in values.0.data_type at) =
    subst (λ (first : List ℕ). SameBytes first room (windows_in values.0.data_type at)) there.1
    (subst (SameBytes entry.room room) windows same) in
    let part = types_isolated values.0.data_type at standing standing (unchanged standing) room slots.0 here slots.1 in
    bind_is (dictionary_batch_in entry.metadata table) _ batch.0 batch.1 ∙ bind_is (guard (not batch.0.is_delta)) _ test.0 test.1
    ∙ bind_is (source_in layout.is_little_endian (with_room entry room) batch.0.values) _ (in_room source.0 room) there.0
    ∙ bind_is (values_of layout.fields batch.0.id layout.below) _ values.0 values.1
    ∙ bind_is (slots_in values.0.data_type (record at { source = in_room source.0 room; standing = standing })) _ slots.0 part ∙ slots.2

-- ---- columns

-- each of some columns, from column k on, is read for its field
column_there : (layout : Layout) (standing : List Dictionary) (source : Source) (k : ℕ) (fields : List Field) (columns : List (List Slot))
    → columns_from layout standing source k fields ≡ Some columns → (j : ℕ) (field : Field) → slice_get fields j ≡ Some field
    → (column : List Slot) × (column_in layout standing source None (k + j) field ≡ Some column)
column_there layout standing source k [] columns e j field there = absurd cc
column_there layout standing source k (first ∷ fields) columns e zero field there =
    let column = came_of {A = List Slot} (column_in layout standing source None k first) _ columns e in
    let place : k + 0 ≡ k = omega arith in (
      column.0,
      ap (λ i. column_in layout standing source None i field) place
          ∙ ap (column_in layout standing source None k) (sym (same_value first field there)) ∙ column.1,
    )
column_there layout standing source k (first ∷ fields) columns e (suc j) field there =
    let column = came_of {A = List Slot} (column_in layout standing source None k first) _ columns e in
    let others = came_of {A = List (List Slot)} (columns_from layout standing source (k + 1) fields) _ columns column.2 in
    let found = column_there layout standing source (k + 1) fields others.0 others.1 j field there in
    let place : k + suc j ≡ k + 1 + j = omega arith in
    (found.0, ap (λ i. column_in layout standing source None i field) place ∙ found.1)

field_same : (layout : Layout) (standing : List Dictionary) (source : Source) (room : List ℕ) (limit : Option ℕ) (columns : List (List Slot))
    (k : ℕ) (ks : List ℕ) (given : Option Field) → columns_from layout standing source 0 layout.fields ≡ Some columns
    → slice_get layout.fields k ≡ given → SameBytes source.room room (column_windows layout source k)
    → chosen_columns layout standing (in_room source room) limit ks ≡ chosen_columns layout standing source limit ks
    → chosen_columns layout standing (in_room source room) limit (k ∷ ks) ≡ chosen_columns layout standing source limit (k ∷ ks)
field_same layout standing source room limit columns k ks None e is same others = rw is refl
field_same layout standing source room limit columns k ks (Some field) e is same others =
    let found = column_there layout standing source 0 layout.fields columns e k field is in
    let cut : List Slot = cut_to limit found.0 in
    let whole : column_in layout standing source None k field ≡ Some found.0 =
    ap (λ i. column_in layout standing source None i field) (sym (zero-add k)) ∙ found.1 in
    let windows : column_windows layout source k ≡ windows_in field.data_type (column_place layout [] source None k) =
    ap or_none (bind_is (slice_get layout.fields k) _ field is) in
    let moved_whole : column_in layout standing (in_room source room) None k field ≡ Some found.0 =
    types_isolated field.data_type (column_place layout [] source None k) standing standing (unchanged standing) room found.0
    (subst (SameBytes source.room room) windows same) whole in
    let here : column_in layout standing source limit k field ≡ Some cut =
    types_cut field.data_type (column_place layout standing source None k) limit found.0 tt whole in
    let moved_here : column_in layout standing (in_room source room) limit k field ≡ Some cut =
    types_cut field.data_type (column_place layout standing (in_room source room) None k) limit found.0 tt moved_whole in
    bind_is (slice_get layout.fields k) _ field is ∙ bind_is (column_in layout standing (in_room source room) limit k field) _ cut moved_here
    ∙ ap (λ (o : Option (List (List Slot))). o >>= (λ others. Some (cut ∷ others))) others
    ∙ sym (bind_is (slice_get layout.fields k) _ field is ∙ bind_is (column_in layout standing source limit k field) _ cut here)

columns_same : (layout : Layout) (standing : List Dictionary) (source : Source) (room : List ℕ) (limit : Option ℕ) (columns : List (List Slot))
    (ks : List ℕ) → columns_from layout standing source 0 layout.fields ≡ Some columns
    → SameBytes source.room room (flat_map (column_windows layout source) ks)
    → chosen_columns layout standing (in_room source room) limit ks ≡ chosen_columns layout standing source limit ks
columns_same layout standing source room limit columns [] e same = refl
columns_same layout standing source room limit columns (k ∷ ks) e same =
    field_same layout standing source room limit columns k ks (slice_get layout.fields k) e refl
    (same_first source.room room (column_windows layout source k) (flat_map (column_windows layout source) ks) same)
    (columns_same layout standing source room limit columns ks e
    (same_later source.room room (column_windows layout source k) (flat_map (column_windows layout source) ks) same))

-- ---- batches

-- what is chosen of a batch that reads as a whole
pub batch_same : (layout : Layout) (standing : List Dictionary) (entry : Entry) (room : List ℕ) (limit : Option ℕ) (ks : List ℕ)
    (table : flat.TablePlace) (columns : List (List Slot)) → length entry.room ≤ length room
    → SameBytes entry.room room (batch_windows layout ks entry table) → batch_in layout standing entry table ≡ Some columns
    → chosen_batch_in layout standing (with_room entry room) limit ks table ≡ chosen_batch_in layout standing entry limit ks table
unfolding batch_in chosen_batch_in
batch_same layout standing entry room limit ks table columns size same e =
    let source = came_of {A = Source} (source_in layout.is_little_endian entry table) _ columns e in
    let found = came_of {A = List (List Slot)} (columns_from layout standing source.0 0 layout.fields) _ columns source.2 in
    let there = source_same layout.is_little_endian entry room table source.0 size source.1 in
    let taken : List Window = flat_map (column_windows layout source.0) ks in
    let windows : batch_windows layout ks entry table ≡ taken =
    ap or_none (bind_is (source_in layout.is_little_endian entry table) _ source.0 source.1) in
    let here : SameBytes source.0.room room taken =
    subst (λ (first : List ℕ). SameBytes first room taken) there.1 (subst (SameBytes entry.room room) windows same) in
    bind_is (source_in layout.is_little_endian (with_room entry room) table) _ (in_room source.0 room) there.0
    ∙ ap (λ (o : Option (List (List Slot))). o >>= (λ found. guard (agree_in_length found) >>= (λ _. Some found)))
    (columns_same layout standing source.0 room limit found.0 ks found.1 here)
    ∙ sym (bind_is (source_in layout.is_little_endian entry table) _ source.0 source.1)
