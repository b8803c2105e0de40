-- A batch that was written of stored columns gives their slots, where the dictionaries that they bring stand.
use Rattle.std.proofs.Common.{◌≡◌, ◌∙◌, ℕ, zero, suc, ◌+◌, List, [], ◌∷◌, length, map, refl, sym, ap, subst, Bool, true, add-one}
use Rattle.std.specs.Prelude.{◌==◌, Option, Some, None}
use Rattle.std.specs.List.{list_all}
use Rattle.std.proofs.lemmas.Bool.{and_parts}
use Rattle.std.proofs.lemmas.List.{length-map}
use Rattle.ipc_format_laws.specs.flatbuffers.Reading.{◌>>=◌}
use Rattle.ipc_format_laws.specs.flatbuffers.FlatBuffers.{TablePlace}
use Rattle.ipc_format_laws.specs.columnar_memory.declared.DataType.{DataType}
use Rattle.ipc_format_laws.specs.columnar_memory.declared.Field.{Field}
use Rattle.ipc_format_laws.specs.columns.Slots.{Slot}
use Rattle.ipc_format_laws.specs.columns.StoredColumns.{Column, column_type, column_len, slot_at, slots}
use Rattle.ipc_format_laws.proofs.columns_lemmas.Windows.{length-window}
use Rattle.ipc_format_laws.specs.grammar.Messages as grammar
use Rattle.ipc_format_laws.specs.grammar.Messages.{Header, V5}
use Rattle.ipc_format_laws.specs.grammar.Schemas.{Ids, IdsList}
use Rattle.ipc_format_laws.specs.grammar.Writable.{normalised_field}
use Rattle.ipc_format_laws.specs.grammar.Layouts.{node_step, node_count, buffer_step, buffer_count, node_number, buffer_number}
use Rattle.ipc_format_laws.specs.grammar.Columns.{Source, Dictionary, Place, slots_in, have_length, first_ids, other_ids}
use Rattle.ipc_format_laws.specs.grammar.Dictionaries.{Entry, Layout, source_in}
use Rattle.ipc_format_laws.specs.grammar.Tables.{ids_at, column_place, columns_from, agree_in_length, batch_in, batches_with, batches_of}
use Rattle.ipc_format_laws.specs.grammar.Encoding.{Encoded, joined_columns}
use Rattle.ipc_format_laws.specs.grammar.StoredEncoding.{encode_stored}
use Rattle.ipc_format_laws.specs.grammar.GivenDictionaries.{Given, given_stored}
use Rattle.ipc_format_laws.specs.grammar.WrittenMessages.{buffer_places, record_message}
use Rattle.ipc_format_laws.specs.grammar.WrittenStreams.{given_of_stored, batch_of_stored, are_equal}
use Rattle.ipc_format_laws.specs.BatchMessages.{IsRecordBatch}
use Rattle.ipc_format_laws.specs.Columns.{StandsAt, StandsAmong, HoldsColumns}
use Rattle.ipc_format_laws.specs.Contents.{batch}
use Rattle.ipc_format_laws.proofs.Counts.{next_numbers}
use Rattle.ipc_format_laws.proofs.Elements.{part_front, part_back, part_next, part_first}
use Rattle.ipc_format_reading_laws.specs.NormalColumns.{normal_slot, normal_column}
use Rattle.ipc_format_reading_laws.specs.StoredColumns.{HasDictionaries, StoredColumnsReadBack}
use Rattle.ipc_format_reading_laws.specs.StoredTables.{read_slots}
use Rattle.ipc_format_reading_laws.proofs.StoredCounts.{range_counts}
use Rattle.ipc_format_reading_laws.proofs.StoredGivenFolds.{fold_normal}
use Rattle.ipc_format_reading_laws.proofs.StoredGivenLists.{Each, each_front, each_back}
use Rattle.ipc_format_reading_laws.proofs.StoredGivenStanding.{as_read, StandsIn, has_dictionaries}
use Rattle.ipc_format_reading_laws.proofs.StoredGivenReady.{IsColumn, AreColumns}
use Rattle.ipc_format_reading_laws.proofs.StoredTablesEntries.{IsSent, source_of, source_is, holds_columns, whole_list, column_reads}

-- ---- the ids at fields

-- the ids at the fields behind the first k
abbrev behind : IdsList → ℕ → IdsList
behind below zero = below
behind below (suc k) = behind (other_ids below) k

ids_behind : (below : IdsList) (k : ℕ) → ids_at below k ≡ first_ids (behind below k)
ids_behind below zero = refl
ids_behind below (suc k) = ids_behind (other_ids below) k

behind_next : (below : IdsList) (k : ℕ) → behind below (suc k) ≡ other_ids (behind below k)
behind_next below zero = refl
behind_next below (suc k) = behind_next (other_ids below) k

-- ---- the columns of a batch

-- how many nodes and buffers a column has that is written for a field
column_nodes : (u : Field) (here : Ids) (c : Column) → IsColumn u here c
    → length (encode_stored true c).nodes ≡ node_count (normalised_field u).data_type
column_nodes u here c is =
    (range_counts c 0 (column_len c) is.sound).0 ∙ sym (fold_normal node_step (column_type c)) ∙ ap node_count is.typed

column_buffers : (u : Field) (here : Ids) (c : Column) → IsColumn u here c
    → length (encode_stored true c).buffers ≡ buffer_count V5 (normalised_field u).data_type
column_buffers u here c is =
    (range_counts c 0 (column_len c) is.sound).1 ∙ sym (fold_normal (buffer_step V5) (column_type c)) ∙ ap (buffer_count V5) is.typed

columns_read : StoredColumnsReadBack → (layout : Layout) (written : List Given) (source : Source) (all : Encoded) (k : ℕ) (us : List Field)
    (cs : List Column) → source.version ≡ V5 → HoldsColumns source all → AreColumns us (behind layout.below k) cs
    → Each (StandsIn written) (given_of_stored (behind layout.below k) cs) → StandsAt layout.fields k (map normalised_field us)
    → StandsAmong all (joined_columns (map (encode_stored true) cs)) (node_number layout.fields k) (buffer_number V5 layout.fields k)
    → columns_from layout (map as_read written) source k (map normalised_field us) ≡ Some (map read_slots cs)
columns_read stored layout written source all k [] [] version holds are stand at s = refl
columns_read stored layout written source all k [] (c ∷ cs) version holds are stand at s = absurd are
columns_read stored layout written source all k (u ∷ us) [] version holds are stand at s = absurd are
columns_read stored layout written source all k (u ∷ us) (c ∷ cs) version holds are stand at s =
    let field : Field = normalised_field u in
    let fields : List Field = map normalised_field us in
    let below : IdsList = behind layout.below k in
    let first : Encoded = encode_stored true c in
    let more : Encoded = joined_columns (map (encode_stored true) cs) in
    let n : ℕ = node_number layout.fields k in
    let b : ℕ = buffer_number V5 layout.fields k in
    let next = next_numbers V5 layout.fields k field (part_first field fields at) in
    let nodes_next : node_number layout.fields (k + 1) ≡ n + length first.nodes =
    ap (λ j. node_number layout.fields j) (add-one k) ∙ next.0 ∙ ap (λ j. n + j) (sym (column_nodes u (first_ids below) c are.0)) in
    let buffers_next : buffer_number V5 layout.fields (k + 1) ≡ b + length first.buffers =
    ap (λ j. buffer_number V5 layout.fields j) (add-one k) ∙ next.1 ∙ ap (λ j. b + j) (sym (column_buffers u (first_ids below) c are.0)) in
    let place : Place = column_place layout (map as_read written) source None k in
    let buffer_is : place.buffer ≡ b = ap (λ v. buffer_number v layout.fields k) version in
    let stands = each_front (StandsIn written) (given_stored (first_ids below) c) (given_of_stored (other_ids below) cs) stand in
    let has : HasDictionaries (map as_read written) place.ids (normal_column c) =
    subst (λ (here : Ids). HasDictionaries (map as_read written) here (normal_column c)) (sym (ids_behind layout.below k))
    (has_dictionaries written (first_ids below) c are.0.sound are.0.fit stands) in
    let read : slots_in field.data_type place ≡ Some (read_slots c) =
    ap (λ (t : DataType). slots_in t place) (sym are.0.typed)
    ∙ column_reads stored c place all are.0.sound version holds (record {
      nodes = part_front first.nodes more.nodes s.nodes;
      buffers = subst (λ (j : ℕ). StandsAt all.buffers j first.buffers) (sym buffer_is) (part_front first.buffers more.buffers s.buffers);
    }) refl has in
    let step : behind layout.below (k + 1) ≡ other_ids below = ap (behind layout.below) (add-one k) ∙ behind_next layout.below k in
    let others : columns_from layout (map as_read written) source (k + 1) fields ≡ Some (map read_slots cs) =
    columns_read stored layout written source all (k + 1) us cs version holds
    (subst (λ (ids : IdsList). AreColumns us ids cs) (sym step) are.1)
    (subst (λ (ids : IdsList). Each (StandsIn written) (given_of_stored ids cs)) (sym step)
    (each_back (StandsIn written) (given_stored (first_ids below) c) (given_of_stored (other_ids below) cs) stand))
    (part_next field fields at)
    (record {
      nodes = part_back first.nodes more.nodes (node_number layout.fields (k + 1)) nodes_next s.nodes;
      buffers = part_back first.buffers more.buffers (buffer_number V5 layout.fields (k + 1)) buffers_next s.buffers;
    }) in
    rw (read, others) refl

-- ---- columns of one length

slots_length : (c : Column) → length (read_slots c) ≡ column_len c
slots_length c = length-map (slots c) normal_slot ∙ length-window (slot_at c) 0 (column_len c)

each_length : (n : ℕ) (cs : List Column) → list_all (λ (other : ℕ). other == n) (map column_len cs) ≡ true
    → have_length n (map read_slots cs) ≡ true
each_length n [] e = refl
each_length n (c ∷ cs) e =
    let tests = and_parts (column_len c == n) (list_all (λ (other : ℕ). other == n) (map column_len cs)) e in
    let here : (length (read_slots c) == n) ≡ true = ap (λ (m : ℕ). m == n) (slots_length c) ∙ tests.0 in
    rw (here, each_length n cs tests.1) refl

lengths_agree : (cs : List Column) → are_equal (map column_len cs) ≡ true → agree_in_length (map read_slots cs) ≡ true
lengths_agree [] e = refl
lengths_agree (c ∷ cs) e =
    ap (λ (n : ℕ). have_length n (map read_slots cs)) (slots_length c) ∙ each_length (column_len c) cs e

-- ---- a batch

-- the columns of a batch that is written under a schema
pub record IsBatch (us : List Field) (below : IdsList) (cs : List Column) : Type 0 where
  pub columns : AreColumns us below cs
  pub lengths : are_equal (map column_len cs) ≡ true

pub batch_reads : StoredColumnsReadBack → (layout : Layout) (us : List Field) (written : List Given) (cs : List Column) (entry : Entry)
    → layout.is_little_endian ≡ true → layout.fields ≡ map normalised_field us → IsBatch us layout.below cs
    → (is : IsSent (batch (batch_of_stored layout.below cs)) entry) → Each (StandsIn written) (given_of_stored layout.below cs)
    → batch_in layout (map as_read written) entry is.table ≡ Some (map read_slots cs)
unfolding batch_in batch_of_stored record_message
batch_reads stored layout us written cs entry little fields its is stand =
    let all : Encoded = joined_columns (map (encode_stored true) cs) in
    let has : IsRecordBatch entry.metadata is.table all.nodes (buffer_places 0 all.buffers) =
    subst (λ (bytes : List ℕ). IsRecordBatch bytes is.table all.nodes (buffer_places 0 all.buffers)) (sym is.metadata) is.has_table in
    let source : source_in layout.is_little_endian entry is.table ≡ Some (source_of entry all) =
    ap (λ (order : Bool). source_in order entry is.table) little ∙ source_is entry all is.table has is.body in
    let read : columns_from layout (map as_read written) (source_of entry all) 0 layout.fields ≡ Some (map read_slots cs) =
    ap (λ (all_fields : List Field). columns_from layout (map as_read written) (source_of entry all) 0 all_fields) fields
    ∙ columns_read stored layout written (source_of entry all) all 0 us cs is.version (holds_columns entry all is.body) its.columns stand
    (subst (λ (all_fields : List Field). StandsAt layout.fields 0 all_fields) fields (whole_list layout.fields))
    (record { nodes = whole_list all.nodes; buffers = whole_list all.buffers }) in
    rw (source, read, lengths_agree cs its.lengths) refl

-- an entry that is a batch, before others
pub batch_then : (layout : Layout) (standing : List Dictionary) (entry : Entry) (others : List Entry) (table : TablePlace)
    (columns : List (List Slot)) (batches : List (List (List Slot))) → entry.header ≡ grammar.record_batch table
    → batch_in layout standing entry table ≡ Some columns → batches_of layout standing others ≡ Some batches
    → batches_of layout standing (entry ∷ others) ≡ Some (columns ∷ batches)
batch_then layout standing entry others table columns batches header read rest =
    ap (λ (h : Header). batches_with layout standing entry (λ (now : List Dictionary). batches_of layout now others) h) header
    ∙ ap (λ (r : Option (List (List Slot))). r >>= (λ (found : List (List Slot)).
    batches_of layout standing others >>= (λ (behind : List (List (List Slot))). Some (found ∷ behind)))) read
    ∙ ap (λ (r : Option (List (List (List Slot)))). r >>= (λ (behind : List (List (List Slot))). Some (columns ∷ behind))) rest
