-- A union's columns are passed over behind its own node and buffers.
use Rattle.std.proofs.Common.{◌≡◌, ◌∙◌, ◌+◌, map, sym, ap}
use Rattle.ipc_format_reading.specs.Queues.{field_buffers_of, field_nodes_of}
use Rattle.ipc_format_reading.specs.grammar.Layouts.{buffer_count, node_count, total}
use Rattle.ipc_format_reading.specs.messages.MessageViews.{version_view}
use Rattle.ipc_format_reading.proofs.NestedCounts.{union_buffers, union_nodes}
use Rattle.ipc_format_batch_reading.proofs.PassedColumns.{passes_as}
use Rattle.ipc_format_batch_reading.proofs.passing.+passes.Goals as goal

pub pass_column-returns-in-Union : goal.pass_column-returns-in-Union
pass_column-returns-in-Union t c =
    let version = version_view c.args.version in
    let fields = c.in-Union.fields in
    let below = c.as_slice-in-Union.result.now in
    let own = c.union_buffers-own.result in
    let nodes : 1 + total (map field_nodes_of below) ≡ node_count c.args.data_type.now =
    ap (λ xs. 1 + total (map field_nodes_of xs)) c.as_slice-in-Union.ensures ∙ sym (union_nodes fields c.in-Union.field-1 c.in-Union.mode)
    ∙ ap node_count (sym c.in-Union.is) in
    let buffers : own + total (map (field_buffers_of version) below) ≡ buffer_count version c.args.data_type.now =
    (λ i. c.union_buffers-own.ensures i + total (map (field_buffers_of version) (c.as_slice-in-Union.ensures i)))
    ∙ sym (union_buffers version fields c.in-Union.field-1 c.in-Union.mode) ∙ ap (buffer_count version) (sym c.in-Union.is) in
    passes_as _ _ _ _ c.args.field_nodes.now.items c.pass_all_below-in-Union.new.field_nodes.items c.args.buffers.now.items
    c.pass_all_below-in-Union.new.buffers.items nodes buffers c.pass_all_below-in-Union.ensures
