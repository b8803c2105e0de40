use Rattle.std.proofs.Common.{◌≡◌, ◌∙◌, ◌+◌, ◌≤◌, take, map, sym, ap, rules}
use Rattle.std.specs.Prelude.{Err}
use Rattle.ipc_format_column_bytes.specs.streams.grammar.Layouts.{node_count, buffer_count, total}
use Rattle.ipc_format_column_bytes.specs.streams.messages.MessageViews.{version_view}
use Rattle.ipc_format_column_reading.specs.Queues.{field_nodes_of, field_buffers_of}
use Rattle.ipc_format_column_reading.proofs.NestedCounts.{struct_nodes, struct_buffers, union_nodes, union_buffers}
use Rattle.ipc_format_column_reading.proofs.Skipping.{skips_behind, skips_more, skips_as, total_within}
use Rattle.ipc_format_column_reading.proofs.deserialize.+skips.Goals as goal

pub skip-returns-in-Struct : goal.skip-returns-in-Struct
skip-returns-in-Struct t c =
    let version = version_view c.args.version in
    let fields = c.in-Struct.fields in
    let nodes : 1 + total (map field_nodes_of c.as_slice.result.now) ≡ node_count c.args.data_type.now =
    ap (λ xs. 1 + total (map field_nodes_of xs)) c.as_slice.ensures ∙ sym (struct_nodes fields) ∙ ap node_count (sym c.in-Struct.is) in
    let buffers : 1 + total (map (field_buffers_of version) c.as_slice.result.now) ≡ buffer_count version c.args.data_type.now =
    ap (λ xs. 1 + total (map (field_buffers_of version) xs)) c.as_slice.ensures ∙ sym (struct_buffers version fields)
    ∙ ap (buffer_count version) (sym c.in-Struct.is) in
    skips_as (1 + total (map field_nodes_of c.as_slice.result.now)) (1 + total (map (field_buffers_of version) c.as_slice.result.now))
    (node_count c.args.data_type.now) (buffer_count version c.args.data_type.now)
    c.args.field_nodes.now.items c.skip_all_below.new.field_nodes.items c.args.buffers.now.items
    c.skip_all_below.new.buffers.items c.skip_all_below.result nodes buffers c.skip_all_below.ensures

pub skip-returns-in-Union : goal.skip-returns-in-Union
skip-returns-in-Union t c =
    let version = version_view c.args.version in
    let fields = c.in-Union.fields in
    let below = c.as_slice-in-Union.result.now in
    let own = c.union_buffers-own.result in
    let nodes : 1 + total (map field_nodes_of below) ≡ node_count c.args.data_type.now =
    ap (λ xs. 1 + total (map field_nodes_of xs)) c.as_slice-in-Union.ensures ∙ sym (union_nodes fields c.in-Union.field-1 c.in-Union.mode)
    ∙ ap node_count (sym c.in-Union.is) in
    let buffers : own + total (map (field_buffers_of version) below) ≡ buffer_count version c.args.data_type.now =
    (λ i. c.union_buffers-own.ensures i + total (map (field_buffers_of version) (c.as_slice-in-Union.ensures i)))
    ∙ sym (union_buffers version fields c.in-Union.field-1 c.in-Union.mode) ∙ ap (buffer_count version) (sym c.in-Union.is) in
    skips_as (1 + total (map field_nodes_of below)) (own + total (map (field_buffers_of version) below))
    (node_count c.args.data_type.now) (buffer_count version c.args.data_type.now)
    c.args.field_nodes.now.items c.skip_all_below-in-Union.new.field_nodes.items c.args.buffers.now.items
    c.skip_all_below-in-Union.new.buffers.items c.skip_all_below-in-Union.result nodes buffers c.skip_all_below-in-Union.ensures

pub skip_below-returns : goal.skip_below-returns
skip_below-returns t c =
    skips_behind 1 c.args.own (field_nodes_of c.args.field.now) (field_buffers_of (version_view c.args.version) c.args.field.now)
    c.args.field_nodes.now.items c.skip_own.new.field_nodes.items c.skip_field.new.field_nodes.items
    c.args.buffers.now.items c.skip_own.new.buffers.items c.skip_field.new.buffers.items
    c.skip_field.result c.in_ok-skip_own.ensures c.skip_field.ensures

pub skip_all_below-returns : goal.skip_all_below-returns
skip_all_below-returns t c =
    skips_behind 1 c.args.own (total (map field_nodes_of c.args.fields.now))
    (total (map (field_buffers_of (version_view c.args.version)) c.args.fields.now))
    c.args.field_nodes.now.items c.skip_own.new.field_nodes.items c.skip_fields.new.field_nodes.items
    c.args.buffers.now.items c.skip_own.new.buffers.items c.skip_fields.new.buffers.items
    c.skip_fields.result c.in_ok-skip_own.ensures c.skip_fields.ensures

pub skip_fields-returns-in_err-skip_field : goal.skip_fields-returns-in_err-skip_field
skip_fields-returns-in_err-skip_field t c =
    let fields = c.args.fields.now in
    let version = version_view c.args.version in
    let field = c.index-fields-k.result in
    let k = c.loop-k.k in
    let error = c.in_err-skip_field.field-0.0 in
    let is : c.from_residual.result ≡ Err error = search rules in
    let nodes : total (map field_nodes_of (take k fields)) + field_nodes_of field ≤ total (map field_nodes_of fields) =
    total_within field_nodes_of fields k field c.loop-k-test.true c.index-fields-k.is in
    let buffers : total (map (field_buffers_of version) (take k fields)) + field_buffers_of version field
    ≤ total (map (field_buffers_of version) fields) =
    total_within (field_buffers_of version) fields k field c.loop-k-test.true c.index-fields-k.is in
    let behind = skips_behind {X = Unit {0}} (total (map field_nodes_of (take k fields))) (total (map (field_buffers_of version) (take k fields)))
    (field_nodes_of field) (field_buffers_of version field)
    c.args.field_nodes.now.items c.loop-k.field_nodes.items c.skip_field.new.field_nodes.items
    c.args.buffers.now.items c.loop-k.buffers.items c.skip_field.new.buffers.items (Err error) c.loop-k.invariant c.in_err-skip_field.ensures in
    rw is (skips_more (Unit {0}) (Unit {0}) _ _ _ _ c.args.field_nodes.now.items c.skip_field.new.field_nodes.items
    c.args.buffers.now.items c.skip_field.new.buffers.items error nodes buffers behind)
