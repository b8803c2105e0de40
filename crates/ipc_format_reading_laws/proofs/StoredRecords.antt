-- Columns of structs read back from what is written of them as they are stored, where those of their fields do (Arrow columnar format,
-- "Struct Layout").
use Rattle.std.proofs.Common.{◌≡◌, ℕ, ◌+◌, ◌≤◌, ◌<◌, Bool, true, List, [], ◌∷◌, refl, ap, subst, arith, ◌==◌}
use Rattle.std.specs.Prelude.{Option, Some}
use Rattle.std.proofs.lemmas.Bool.{and_parts, eqb-true, false≢true}
use Rattle.ipc_format_laws.specs.columnar_memory.declared.DataType.{DataType}
use Rattle.ipc_format_laws.specs.columnar_memory.declared.DataType.TheOpen as layer
use Rattle.ipc_format_laws.specs.columnar_memory.declared.Field.{Field}
use Rattle.ipc_format_laws.specs.columns.Slots.{Slot, fields, in_slots, window}
use Rattle.ipc_format_laws.specs.columns.StoredColumns.{Columns, records, no_column, column_then, unless_null, cut_mask, column_len, type_layer}
use Rattle.ipc_format_laws.specs.columns.StoredColumns.{slots_at}
use Rattle.ipc_format_laws.specs.columns.SoundColumns.{mask_fits, have_types, has_field_types, have_len, is_sound, are_sound}
use Rattle.ipc_format_laws.specs.columns.Tables.{row_at}
use Rattle.ipc_format_laws.proofs.columns_lemmas.Conditions.{parts_of_4}
use Rattle.ipc_format_laws.proofs.columns_lemmas.TypeLayers.{Layer}
use Rattle.ipc_format_laws.specs.grammar.Messages.{V5}
use Rattle.ipc_format_laws.specs.grammar.Columns.{Place, slots_by, taken_of, columns_below, first_below, struct_slots, ids_below}
use Rattle.ipc_format_laws.specs.grammar.Encoding.{Encoded, joined_columns, column_over}
use Rattle.ipc_format_laws.specs.grammar.StoredEncoding.{mask_bytes, node_over, encode_ranges}
use Rattle.ipc_format_laws.specs.Columns.{StandsAmong, HoldsColumns}
use Rattle.ipc_format_laws.proofs.Elements.{part_next}
use Rattle.ipc_format_reading_laws.specs.StoredColumns.{RangeReadsBack, HaveDictionaries}
use Rattle.ipc_format_reading_laws.proofs.StoredMasks.{mask_validity, range_marked, range_slots}
use Rattle.ipc_format_reading_laws.proofs.StoredLayers.{read_layer}
use Rattle.ipc_format_reading_laws.proofs.StoredRanges.{by_layer, same_ranges, windows_of, windows_long, RangesFit, RangesReadBack}
use Rattle.ipc_format_reading_laws.proofs.StoredChildren.{field_readers, columns_read, row_of_windows}

-- n slots of each of some columns that are as long
pub ranges_fit : (o n len : ℕ) (limit : Option ℕ) (columns : Columns) → have_len columns len ≡ true → o + n ≤ len → taken_of limit n ≡ n
    → RangesFit o (λ column. n) limit columns
ranges_fit o n len limit no_column long within whole = tt
ranges_fit o n len limit (column_then column columns) long within whole =
    let parts = and_parts (column_len column == len) (have_len columns len) long in
    (omega (arith, eqb-true (column_len column) len parts.0), whole, ranges_fit o n len limit columns parts.1 within whole)

abbrev record_at : Option (List Bool) → Columns → ℕ → Slot
record_at mask children i = unless_null mask i (fields (slots_at children i))

structs_by : (us : List Field) (mask : Option (List Bool)) (count : ℕ) (children : Columns) → have_types us children ≡ true
    → have_len children count ≡ true → mask_fits mask count ≡ true → are_sound children ≡ true → RangesReadBack children
    → (o n : ℕ) (at : Place) (all : Encoded) → o + n ≤ count → at.source.version ≡ V5 → HoldsColumns at.source all
    → StandsAmong all (column_over (node_over n (cut_mask mask o n)) (mask_bytes (cut_mask mask o n) ∷ []) (encode_ranges true children o n))
    at.node at.buffer → taken_of at.limit n ≡ n → HaveDictionaries at.standing (ids_below at.ids) children
    → struct_slots (field_readers us) at ≡ Some (window (record_at mask children) o n)
unfolding struct_slots
structs_by us mask count children typed long marks sound reads o n at all within version holds stands whole standing =
    let below : Encoded = joined_columns (encode_ranges true children o n) in
    let columns : List (List Slot) = windows_of o (λ column. n) children in
    let place : Place = first_below at 1 at.limit in
    let marked = range_marked at all mask count o n below.nodes below.buffers marks within holds stands.nodes stands.buffers whole in
    let here : StandsAmong all below place.node place.buffer = record {
      nodes = part_next (node_over n (cut_mask mask o n)) below.nodes stands.nodes;
      buffers = part_next (mask_bytes (cut_mask mask o n)) below.buffers stands.buffers;
    } in
    let found : columns_below (field_readers us) place (ids_below at.ids) ≡ Some columns =
    columns_read o (λ column. n) us children typed sound reads place all (ids_below at.ids)
    (ranges_fit o n count at.limit children long within whole) version holds
    (subst (λ (es : List Encoded). StandsAmong all (joined_columns es) place.node place.buffer) (same_ranges children o n) here) standing in
    let size = windows_long o n children in
    let slots : slots_by (mask_validity (cut_mask mask o n)) (λ i. fields (in_slots (row_at columns i))) n ≡ window (record_at mask children) o n =
    range_slots mask count o n (λ i. fields (in_slots (row_at columns i))) (λ i. fields (slots_at children i)) marks within
    (λ (i : ℕ) (inside : i < n) valid. ap fields (row_of_windows o n i children inside)) in
    rw (marked, found, size, slots) refl

structs_at : (x : Layer) (mask : Option (List Bool)) (count : ℕ) (children : Columns) → has_field_types x children ≡ true
    → have_len children count ≡ true → mask_fits mask count ≡ true → are_sound children ≡ true → RangesReadBack children
    → (o n : ℕ) (at : Place) (all : Encoded) → o + n ≤ count → at.source.version ≡ V5 → HoldsColumns at.source all
    → StandsAmong all (column_over (node_over n (cut_mask mask o n)) (mask_bytes (cut_mask mask o n) ∷ []) (encode_ranges true children o n))
    at.node at.buffer → taken_of at.limit n ≡ n → HaveDictionaries at.standing (ids_below at.ids) children
    → read_layer x at ≡ Some (window (record_at mask children) o n)
structs_at (layer.Struct (field ∷ others)) mask count children typed = structs_by (field ∷ others) mask count children typed
structs_at _ mask count children typed = absurd (false≢true typed)

pub records_reads_back : (t : DataType) (mask : Option (List Bool)) (count : ℕ) (children : Columns)
    → is_sound (records t mask count children) ≡ true → RangesReadBack children → RangeReadsBack (records t mask count children)
records_reads_back t mask count children sound reads o n at all within version holds stands whole standing =
    let parts = parts_of_4 (has_field_types (type_layer t) children) (have_len children count) (mask_fits mask count) (are_sound children) sound in
    by_layer t at (window (record_at mask children) o n)
    (structs_at (type_layer t) mask count children parts.0 parts.1 parts.2 parts.3 reads o n at all within version holds stands whole standing)
