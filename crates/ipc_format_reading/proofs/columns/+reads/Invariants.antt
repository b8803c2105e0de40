-- Fewer nodes are left each time; and the first fields' columns are read.
use Rattle.std.specs.Prelude.{◌+◌, ◌*◌}
use Rattle.ipc_format_array_reading.specs.ReadArrays.{at_front, standing_in}
use Rattle.ipc_format_array_reading.specs.grammar.Layouts.{node_count}
use Rattle.ipc_format_array_reading.specs.messages.MessageViews.{version_view}
use Rattle.ipc_format_reading.specs.Below.{no_own_ids, nodes_below}
use Rattle.ipc_format_reading.proofs.ChildReads.{LeftToRead}
use Rattle.ipc_format_reading.proofs.columns.+reads.Given as goal

abbrev pub decreases-read_column : goal.decreases-read_column
decreases-read_column g l = 3 * node_count l.data_type.now + 2

abbrev pub decreases-read_nested : goal.decreases-read_nested
decreases-read_nested g l = 3 * node_count l.data_type.now + 1

abbrev pub decreases-read_children : goal.decreases-read_children
decreases-read_children g l = 3 * nodes_below l.fields.now + 3

abbrev pub invariant-read_children-loop-k : goal.invariant-read_children-loop-k
invariant-read_children-loop-k g l =
    LeftToRead (version_view l.version)
    (λ nodes buffers. at_front nodes buffers (version_view l.version) l.is_little_endian (standing_in l.dictionaries) l.limit l.block_offset
    no_own_ids)
    (g.R.Room.told l.initial.reader) (g.R.Room.told l.reader) l.fields l.ipc_fields l.initial.field_nodes.items l.field_nodes.items
    l.initial.buffers.items l.buffers.items l.k l.children.items
