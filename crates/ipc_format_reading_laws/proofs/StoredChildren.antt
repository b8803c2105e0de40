-- The columns below a stored one are read one after another, where each reads back (Arrow IPC, "RecordBatch message").
use Rattle.std.proofs.Common.{◌≡◌, ◌∙◌, ℕ, zero, suc, ◌+◌, ◌<◌, true, List, [], ◌∷◌, length, map, refl, sym, ap, ap₂, arith}
use Rattle.std.specs.Prelude.{Some, slice_get, slice_index}
use Rattle.std.proofs.lemmas.Bool.{and_parts, false≢true}
use Rattle.std.proofs.lemmas.Option.{slice_get-get_or}
use Rattle.ipc_format_laws.specs.columnar_memory.declared.Field.{Field}
use Rattle.ipc_format_laws.specs.columnar_memory.Equality.{same_type}
use Rattle.ipc_format_laws.specs.columns.Slots.{Slot, null, pick, slot_then, in_slots, window}
use Rattle.ipc_format_laws.specs.columns.StoredColumns.{Column, Columns, no_column, column_then, column_type, column_len, slot_at, slots_at, picked_at}
use Rattle.ipc_format_laws.specs.columns.SoundColumns.{have_types, column_lens, is_sound, are_sound}
use Rattle.ipc_format_laws.specs.columns.Tables.{row_at}
use Rattle.ipc_format_laws.proofs.columns_lemmas.Windows.{length-window}
use Rattle.ipc_format_laws.specs.grammar.Messages.{V5}
use Rattle.ipc_format_laws.specs.grammar.Schemas.{IdsList}
use Rattle.ipc_format_laws.specs.grammar.Layouts.{node_count, buffer_count}
use Rattle.ipc_format_laws.specs.grammar.Columns.{Place, Reader, slots_in, columns_below, behind_column, first_ids, other_ids, picked}
use Rattle.ipc_format_laws.specs.grammar.Encoding.{Encoded, joined_columns}
use Rattle.ipc_format_laws.specs.grammar.StoredEncoding.{encode_range}
use Rattle.ipc_format_laws.specs.Columns.{StandsAmong, HoldsColumns}
use Rattle.ipc_format_laws.proofs.Elements.{part_front, part_back}
use Rattle.ipc_format_reading_laws.specs.StoredColumns.{HaveDictionaries}
use Rattle.ipc_format_reading_laws.proofs.StoredCounts.{range_counts}
use Rattle.ipc_format_reading_laws.proofs.StoredRanges.{type_is, encode_each, windows_of, RangesFit, RangesReadBack, at_window}

-- fields beside what reads their columns
abbrev pub field_readers : List Field → List (Field × Reader)
field_readers us = map (λ (u : Field). (u, slots_in u.data_type)) us

pub columns_read : (o : ℕ) (len : Column → ℕ) (us : List Field) (columns : Columns) → have_types us columns ≡ true → are_sound columns ≡ true
    → RangesReadBack columns → (at : Place) (all : Encoded) (below : IdsList) → RangesFit o len at.limit columns → at.source.version ≡ V5
    → HoldsColumns at.source all → StandsAmong all (joined_columns (encode_each o len columns)) at.node at.buffer
    → HaveDictionaries at.standing below columns → columns_below (field_readers us) at below ≡ Some (windows_of o len columns)
columns_read o len [] no_column typed sound reads at all below fit version holds stands standing = refl
columns_read o len [] (column_then column columns) typed sound reads at all below fit version holds stands standing = absurd (false≢true typed)
columns_read o len (u ∷ us) no_column typed sound reads at all below fit version holds stands standing = absurd (false≢true typed)
columns_read o len (u ∷ us) (column_then column columns) typed sound reads at all below fit version holds stands standing =
    let types = and_parts (same_type u.data_type (column_type column)) (have_types us columns) typed in
    let sounds = and_parts (is_sound column) (are_sound columns) sound in
    let same : u.data_type ≡ column_type column = type_is u.data_type (column_type column) types.0 in
    let first : Encoded = encode_range true column o (len column) in
    let more : Encoded = joined_columns (encode_each o len columns) in
    let counts = range_counts column o (len column) sounds.0 in
    let next : Place = behind_column at u.data_type in
    let nodes_next : next.node ≡ at.node + length first.nodes =
    ap (λ t. at.node + node_count t) same ∙ ap (λ j. at.node + j) (sym counts.0) in
    let buffers_next : next.buffer ≡ at.buffer + length first.buffers =
    ap (λ v. at.buffer + buffer_count v u.data_type) version ∙ ap (λ t. at.buffer + buffer_count V5 t) same
    ∙ ap (λ j. at.buffer + j) (sym counts.1) in
    let place : Place = record at { ids = first_ids below } in
    let read : slots_in u.data_type place ≡ Some (window (slot_at column) o (len column)) =
    ap (λ t. slots_in t place) same
    ∙ reads.0 o (len column) place all fit.0 version holds
    (record { nodes = part_front first.nodes more.nodes stands.nodes; buffers = part_front first.buffers more.buffers stands.buffers }) fit.1
    standing.0 in
    let others : columns_below (field_readers us) next (other_ids below) ≡ Some (windows_of o len columns) =
    columns_read o len us columns types.1 sounds.1 reads.1 next all (other_ids below) fit.2 version holds
    (record {
      nodes = part_back first.nodes more.nodes next.node nodes_next stands.nodes;
      buffers = part_back first.buffers more.buffers next.buffer buffers_next stands.buffers;
    }) standing.1 in
    rw (read, others) refl

-- ---- what stands at a place of them

-- a row of their slots
pub row_of_windows : (o n i : ℕ) (columns : Columns) → i < n
    → in_slots (row_at (windows_of o (λ column. n) columns) i) ≡ slots_at columns (o + i)
row_of_windows o n i no_column inside = refl
row_of_windows o n i (column_then column columns) inside =
    ap₂ (λ slot slots. slot_then slot slots) (at_window (slot_at column) o n i null inside) (row_of_windows o n i columns inside)

-- how many slots of each
abbrev pub sizes_of : (Column → ℕ) → Columns → List ℕ
sizes_of len no_column = []
sizes_of len (column_then column columns) = len column ∷ sizes_of len columns

pub sizes_whole : (columns : Columns) → column_lens columns ≡ sizes_of column_len columns
sizes_whole no_column = refl
sizes_whole (column_then column columns) = ap (λ sizes. column_len column ∷ sizes) (sizes_whole columns)

-- where there is a column of a number, it has as many slots as each
pub size_of_each : (n k m : ℕ) (columns : Columns) → m < slice_index (column_lens columns) k → slice_index (sizes_of (λ column. n) columns) k ≡ n
size_of_each n k m no_column inside = absurd (omega arith)
size_of_each n zero m (column_then column columns) inside = refl
size_of_each n (suc k) m (column_then column columns) inside = size_of_each n k m columns inside

-- the slot of the column of a number, at a place within what is read of it
pub picked_of_windows : (o : ℕ) (len : Column → ℕ) (us : List Field) (columns : Columns) (k i : ℕ) → have_types us columns ≡ true
    → i < slice_index (sizes_of len columns) k
    → picked (field_readers us) (windows_of o len columns) (Some k) (Some i) ≡ Some (picked_at columns k (o + i))
picked_of_windows o len us no_column k i typed inside = absurd (omega arith)
picked_of_windows o len [] (column_then column columns) k i typed inside = absurd (false≢true typed)
picked_of_windows o len (u ∷ us) (column_then column columns) zero i typed inside =
    let types = and_parts (same_type u.data_type (column_type column)) (have_types us columns) typed in
    let slots : List Slot = window (slot_at column) o (len column) in
    let size : length slots ≡ len column = length-window (slot_at column) o (len column) in
    let found : slice_get slots i ≡ Some (slot_at column (o + i)) =
    slice_get-get_or slots i null (omega arith) ∙ ap Some (at_window (slot_at column) o (len column) i null inside) in
    rw found (ap (λ t. Some (pick t (slot_at column (o + i)))) (type_is u.data_type (column_type column) types.0))
picked_of_windows o len (u ∷ us) (column_then column columns) (suc k) i typed inside =
    let types = and_parts (same_type u.data_type (column_type column)) (have_types us columns) typed in
    picked_of_windows o len us columns k i types.1 inside
