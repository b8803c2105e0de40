use Rattle.std.proofs.Common.{◌≡◌, map, true, false, rules}
use Rattle.std.specs.Prelude.{Some, Err}
use Rattle.ipc_format_values.specs.messages.WholeMessages.{batch_parts_view}
use Rattle.ipc_format_values.specs.flatbuffers.Views.{table_of}
use Rattle.ipc_format_values.specs.grammar.Messages.{structs_in, as_node, as_buffer, record_batch_in, lengths_sum}
use Rattle.ipc_format_streams.specs.Queues.{MakesQueues, fits_by, node_of, buffer_of}
use Rattle.ipc_format_streams.proofs.Sources.{nodes_refused, buffers_refused, plainly, queues_made, source_too_long}
use Rattle.ipc_format_streams.proofs.queues.batch_queues.Goals as goal

pub returns-in_err-field_nodes : goal.returns-in_err-field_nodes
returns-in_err-field_nodes c =
    let bytes = c.args.batch.now.table.bytes.now in
    let table = table_of c.args.batch.now.table.place in
    let batch = batch_parts_view c.in-Some.parts in
    let is : record_batch_in bytes table ≡ Some batch = search rules in
    let plain : batch.is_compressed ≡ false = search rules in
    let fits : fits_by c.args.file_size (lengths_sum bytes batch.buffers) ≡ true = search rules in
    let from : c.in-Some.parts.nodes.bytes.now ≡ bytes = search rules in
    let made : MakesQueues bytes table c.args.file_size (Err c.in_err-field_nodes.field-0.0) =
    nodes_refused bytes table c.args.file_size batch c.in-Some.parts.nodes.bytes.now c.in_err-field_nodes.field-0.0 is plain fits from
    c.in_err-field_nodes.ensures in
    search (rules, made)

pub returns-in_err-buffers : goal.returns-in_err-buffers
returns-in_err-buffers c =
    let bytes = c.args.batch.now.table.bytes.now in
    let table = table_of c.args.batch.now.table.place in
    let batch = batch_parts_view c.in-Some.parts in
    let is : record_batch_in bytes table ≡ Some batch = search rules in
    let plain : batch.is_compressed ≡ false = search rules in
    let fits : fits_by c.args.file_size (lengths_sum bytes batch.buffers) ≡ true = search rules in
    let nodes : structs_in as_node bytes batch.nodes ≡ Some (map node_of c.in_ok-field_nodes.field_nodes.items) = search rules in
    let from : c.in-Some.parts.buffers.bytes.now ≡ bytes = search rules in
    let made : MakesQueues bytes table c.args.file_size (Err c.in_err-buffers.field-0.0) =
    buffers_refused bytes table c.args.file_size batch _ c.in-Some.parts.buffers.bytes.now c.in_err-buffers.field-0.0 is plain fits nodes from
    c.in_err-buffers.ensures in
    search (rules, made)

pub returns-then-not-fit : goal.returns-then-not-fit
returns-then-not-fit c =
    let bytes = c.args.batch.now.table.bytes.now in
    let table = table_of c.args.batch.now.table.place in
    let batch = batch_parts_view c.in-Some.parts in
    let is : record_batch_in bytes table ≡ Some batch = search rules in
    let plain : batch.is_compressed ≡ false = search rules in
    let past : fits_by c.args.file_size (lengths_sum bytes batch.buffers) ≡ false = search rules in
    (plainly bytes table batch is plain, source_too_long bytes table c.args.file_size batch is plain past)

pub returns : goal.returns
returns c =
    let bytes = c.args.batch.now.table.bytes.now in
    let table = table_of c.args.batch.now.table.place in
    let batch = batch_parts_view c.in-Some.parts in
    let is : record_batch_in bytes table ≡ Some batch = search rules in
    let plain : batch.is_compressed ≡ false = search rules in
    let fits : fits_by c.args.file_size (lengths_sum bytes batch.buffers) ≡ true = search rules in
    let nodes : structs_in as_node bytes batch.nodes ≡ Some (map node_of c.in_ok-field_nodes.field_nodes.items) = search rules in
    let buffers : structs_in as_buffer bytes batch.buffers ≡ Some (map buffer_of c.in_ok-buffers.buffers.items) = search rules in
    queues_made bytes table c.args.file_size batch (record { field_nodes = c.in_ok-field_nodes.field_nodes; buffers = c.in_ok-buffers.buffers })
    is plain fits nodes buffers
