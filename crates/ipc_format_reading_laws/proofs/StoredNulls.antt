-- Columns of nulls read back from what is written of them as they are stored (Arrow columnar format, "Null Layout").
use Rattle.std.proofs.Common.{◌≡◌, ℕ, true, [], ap}
use Rattle.std.specs.Prelude.{Some, slice_get}
use Rattle.std.proofs.lemmas.Bool.{false≢true}
use Rattle.ipc_format_laws.specs.columnar_memory.declared.DataType.{DataType}
use Rattle.ipc_format_laws.specs.columnar_memory.declared.DataType.TheOpen as layer
use Rattle.ipc_format_laws.specs.columns.Slots.{null, window}
use Rattle.ipc_format_laws.specs.columns.StoredColumns.{nulls, type_layer}
use Rattle.ipc_format_laws.specs.columns.SoundColumns.{is_null_type, is_sound}
use Rattle.ipc_format_laws.proofs.columns_lemmas.TypeLayers.{Layer}
use Rattle.ipc_format_laws.specs.grammar.Columns.{Place, taken_of}
use Rattle.ipc_format_laws.specs.grammar.Encoding.{Encoded, column_over}
use Rattle.ipc_format_laws.specs.BatchMessages.{stated_node}
use Rattle.ipc_format_laws.specs.Columns.{StandsAmong, HoldsColumns}
use Rattle.ipc_format_laws.proofs.Buffers.{made_reads}
use Rattle.ipc_format_reading_laws.specs.StoredColumns.{RangeReadsBack}
use Rattle.ipc_format_reading_laws.proofs.StoredLayers.{read_layer}
use Rattle.ipc_format_reading_laws.proofs.StoredRanges.{by_layer, nulls_window}

nulls_at : (x : Layer) → is_null_type x ≡ true → (o n : ℕ) (at : Place) (all : Encoded) → HoldsColumns at.source all
    → StandsAmong all (column_over (n, n) [] []) at.node at.buffer → taken_of at.limit n ≡ n
    → read_layer x at ≡ Some (window (λ i. null) o n)
nulls_at layer.Null typed o n at all holds stands whole =
    let node : slice_get at.source.nodes at.node ≡ Some (stated_node (n, n)) =
    made_reads stated_node at.source.nodes all.nodes at.node (n, n) [] holds.nodes stands.nodes in
    rw (node, whole) (ap Some (nulls_window o n))
nulls_at _ typed o n at all holds stands whole = absurd (false≢true typed)

pub nulls_reads_back : (t : DataType) (count : ℕ) → is_sound (nulls t count) ≡ true → RangeReadsBack (nulls t count)
nulls_reads_back t count sound o n at all within version holds stands whole standing =
    by_layer t at (window (λ i. null) o n) (nulls_at (type_layer t) sound o n at all holds stands whole)
