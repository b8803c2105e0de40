-- A whole stored column as it is written: its node, its own buffers, and the columns below it (Arrow IPC, "RecordBatch message").
use Rattle.std.specs.Prelude.{ℕ, ◌-◌, Bool, List, [], ◌∷◌, drop, Some, None, slice_index}
use Rattle.std.specs.Int.{w8, w32}
use Rattle.ipc_format_streams.specs.columns.StoredColumns.{Column, nulls, flat, lists, fixed_lists, records, unions, dictionary, type_layer}
use Rattle.ipc_format_streams.specs.grammar.Encoding.{Encoded, joined_columns}
use Rattle.ipc_format_streams.specs.grammar.StoredEncoding.{encode_range, encode_stored, encode_wholes, integer_bytes, key_bytes, last_offset}
use Rattle.ipc_format_streams.specs.grammar.StoredEncoding.{mask_bytes, mask_nulls, moved_bytes, offset_width, stored_buffers}
use Rattle.ipc_format_column_bytes.specs.Bodies.{both, of_buffers}

-- how many slots a column's node says are null: all of nulls alone, none of a union, and else those that the mask says
abbrev pub node_nulls : Column → ℕ
node_nulls (nulls data_type n) = n
node_nulls (flat data_type mask stored) = mask_nulls mask
node_nulls (lists data_type mask offsets child) = mask_nulls mask
node_nulls (fixed_lists data_type mask size child) = mask_nulls mask
node_nulls (records data_type mask n children) = mask_nulls mask
node_nulls (unions data_type ids offsets children) = 0
node_nulls (dictionary data_type mask keys values) = mask_nulls mask

-- the buffers of a column itself
abbrev pub own_buffers : Bool → Column → List (List ℕ)
own_buffers little (nulls data_type n) = []
own_buffers little (flat data_type mask stored) = mask_bytes mask ∷ stored_buffers little (offset_width (type_layer data_type)) stored
own_buffers little (lists data_type mask offsets child) =
    mask_bytes mask ∷ moved_bytes little (offset_width (type_layer data_type)) offsets ∷ []
own_buffers little (fixed_lists data_type mask size child) = mask_bytes mask ∷ []
own_buffers little (records data_type mask n children) = mask_bytes mask ∷ []
own_buffers little (unions data_type ids None children) = integer_bytes little w8 ids ∷ []
own_buffers little (unions data_type ids (Some offsets) children) =
    integer_bytes little w8 ids ∷ integer_bytes little w32 offsets ∷ []
own_buffers little (dictionary data_type mask keys values) = mask_bytes mask ∷ key_bytes little (type_layer data_type) keys ∷ []

-- the columns below a column: of lists the items between the first offset and the last, of a dictionary none
abbrev pub below : Bool → Column → List Encoded
below little (lists data_type mask offsets child) =
    encode_range little child (slice_index offsets 0) (last_offset offsets - slice_index offsets 0) ∷ []
below little (fixed_lists data_type mask size child) = encode_stored little child ∷ []
below little (records data_type mask n children) = encode_wholes little children
below little (unions data_type ids offsets children) = encode_wholes little children
below little _ = []

-- a column without its node
abbrev pub behind_node : Encoded → Encoded
behind_node column = record { nodes = drop 1 column.nodes; buffers = column.buffers }

-- what stands behind the node of a column: its own buffers, and the columns below it
abbrev pub behind_own : Bool → Column → Encoded
behind_own little column = both (of_buffers (own_buffers little column)) (joined_columns (below little column))
