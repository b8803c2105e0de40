-- The nodes and buffers of the fields before the place are off the fronts.
use Rattle.std.proofs.Common.{◌≡◌, ◌≤◌, length, drop, take, map}
use Rattle.ipc_format_column_bytes.specs.streams.grammar.Layouts.{total}
use Rattle.ipc_format_column_bytes.specs.streams.messages.MessageViews.{version_view}
use Rattle.ipc_format_column_reading.specs.Queues.{field_nodes_of, field_buffers_of}
use Rattle.ipc_format_column_reading.proofs.deserialize.+skips.Given as goal

abbrev pub invariant-skip_fields-loop-k : goal.invariant-skip_fields-loop-k
invariant-skip_fields-loop-k l =
    (total (map field_nodes_of (take l.k l.fields)) ≤ length l.initial.field_nodes.items)
    × (l.field_nodes.items ≡ drop (total (map field_nodes_of (take l.k l.fields))) l.initial.field_nodes.items)
    × (total (map (field_buffers_of (version_view l.version)) (take l.k l.fields)) ≤ length l.initial.buffers.items)
    × (l.buffers.items ≡ drop (total (map (field_buffers_of (version_view l.version)) (take l.k l.fields))) l.initial.buffers.items)
