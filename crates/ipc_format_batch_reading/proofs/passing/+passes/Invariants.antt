-- The nodes and buffers of the fields before the place are off the fronts.
use Rattle.std.proofs.Common.{take, map}
use Rattle.ipc_format_reading.specs.Queues.{field_buffers_of, field_nodes_of}
use Rattle.ipc_format_reading.specs.grammar.Layouts.{total}
use Rattle.ipc_format_reading.specs.messages.MessageViews.{version_view}
use Rattle.ipc_format_batch_reading.specs.PassedOver.{Passes}
use Rattle.ipc_format_batch_reading.proofs.passing.+passes.Given as goal

abbrev pub invariant-pass_fields-loop-k : goal.invariant-pass_fields-loop-k
invariant-pass_fields-loop-k l =
    Passes (total (map field_nodes_of (take l.k l.fields))) (total (map (field_buffers_of (version_view l.version)) (take l.k l.fields)))
    l.initial.field_nodes.items l.field_nodes.items l.initial.buffers.items l.buffers.items
