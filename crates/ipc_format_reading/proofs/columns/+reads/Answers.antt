-- A column with columns below it, and the columns of fields one after another.
use Rattle.std.proofs.Common.{◌≡◌, ◌∙◌, ◌+◌, ◌*◌, ◌<◌, ◌++◌, ◌∷◌, [], ℕ, suc, map, get_or, refl, sym, ap, rules, arith}
use Rattle.std.specs.Prelude.{Err}
use Rattle.ipc_format_array_reading.specs.ReadArrays.{at_front, standing_in}
use Rattle.ipc_format_array_reading.specs.ArrayReads.{fields_below}
use Rattle.ipc_format_array_reading.specs.columnar_memory.declared.Error.TheVariants as errors
use Rattle.ipc_format_array_reading.specs.columnar_memory.declared.Field.{Field}
use Rattle.ipc_format_array_reading.specs.columns.StoredColumns.{Column, slots, type_layer}
use Rattle.ipc_format_array_reading.specs.grammar.Layouts.{node_count}
use Rattle.ipc_format_array_reading.specs.messages.MessageViews.{version_view}
use Rattle.ipc_format_array_reading.specs.metadata.Views.{ids_view, ids_views}
use Rattle.ipc_format_array_reading.proofs.Readings.{out_of_memory}
use Rattle.ipc_format_array_reading.proofs.Skipping.{total_within}
use Rattle.ipc_format_reading.specs.Below.{no_own_ids, nodes_below, type_of}
use Rattle.ipc_format_reading.proofs.AlikeFronts.{behind_fronts}
use Rattle.ipc_format_reading.proofs.ChildReads.{child_refused, ids_missing, memory_refused, one_more_read, read_to}
use Rattle.ipc_format_reading.proofs.NestedColumns.{begun_refused, below_refused, nested_read}
use Rattle.ipc_format_reading.proofs.NestedReads.{ids_below_are, nodes_are}
use Rattle.ipc_format_reading.proofs.columns.+reads.Goals as goal

pub read_children-read_column-requires : goal.read_children-read_column-requires
read_children-read_column-requires g t c κs within =
    let fields = c.args.fields.now in
    let field = c.index-fields-k.result in
    let k = c.loop-k.k in
    let fewer = total_within (λ (field : Field). node_count (type_of field)) fields k field c.loop-k-test.true c.index-fields-k.is in
    let same : node_count (type_of field) ≡ node_count (get_or fields k field).data_type = ap (λ u. node_count (type_of u)) c.index-fields-k.is in
    let less : 3 * node_count (get_or fields k field).data_type + 2 < 3 * nodes_below fields + 3 = omega (arith, fewer, same) in
    search (rules, less)

pub read_nested-read_children-requires : goal.read_nested-read_children-requires
read_nested-read_children-requires g t c κs within =
    let data_type = c.args.data_type.now in
    let whole = nodes_are data_type c.requires in
    let below : nodes_below c.fields_of.result.now ≡ nodes_below (fields_below (type_layer data_type)) = ap nodes_below c.fields_of.ensures in
    let less : 3 * nodes_below c.fields_of.result.now + 3 < 3 * node_count data_type + 1 = omega (arith, whole, below) in
    search (rules, less)

pub read_nested-returns-in_err-begun : goal.read_nested-returns-in_err-begun
read_nested-returns-in_err-begun g t c =
    let error = c.in_err-begun.field-0.0 in
    let is : c.from_residual.result ≡ Err error = search rules in
    rw is (begun_refused c.args.data_type.now c.args.field_nodes.now.items c.begin.new.field_nodes.items c.args.buffers.now.items
    c.begin.new.buffers.items (version_view c.args.version) c.args.is_little_endian (standing_in c.args.dictionaries.now) c.args.limit
    c.args.block_offset (ids_view c.args.ipc_field.now) (g.R.Room.told c.args.reader.now) (g.R.Room.told c.begin.new.reader) error c.requires
    c.in_err-begun.ensures.read)

pub read_nested-returns-in_err-children : goal.read_nested-returns-in_err-children
read_nested-returns-in_err-children g t c =
    let error = c.in_err-children.field-0.0 in
    let is : c.from_residual-in_err-children.result ≡ Err error = search rules in
    let ids = ap ids_views c.as_slice.ensures ∙ sym (ids_below_are c.args.ipc_field.now) in
    rw is (below_refused {B = ℕ} c.args.data_type.now c.fields_of.result.now c.args.field_nodes.now.items c.begin.new.field_nodes.items
    c.read_children.new.field_nodes.items c.args.buffers.now.items c.begin.new.buffers.items c.read_children.new.buffers.items
    (version_view c.args.version) c.args.is_little_endian (standing_in c.args.dictionaries.now) c.args.limit c.limit_below-below.result
    c.args.block_offset (ids_view c.args.ipc_field.now) (ids_views c.as_slice.result.now) (g.R.Room.told c.args.reader.now)
    (g.R.Room.told c.begin.new.reader) (g.R.Room.told c.read_children.new.reader) c.in_ok-begun.begun
    (λ n. []) error c.requires c.fields_of.ensures ids c.limit_below-below.ensures c.in_ok-begun.ensures.read
    c.in_err-children.ensures.read)

pub read_nested-returns : goal.read_nested-returns
read_nested-returns g t c =
    let ids = ap ids_views c.as_slice.ensures ∙ sym (ids_below_are c.args.ipc_field.now) in
    nested_read c.args.data_type.now c.fields_of.result.now c.args.field_nodes.now.items c.begin.new.field_nodes.items
    c.read_children.new.field_nodes.items c.args.buffers.now.items c.begin.new.buffers.items c.read_children.new.buffers.items
    (version_view c.args.version) c.args.is_little_endian (standing_in c.args.dictionaries.now) c.args.limit c.limit_below-below.result
    c.args.block_offset (ids_view c.args.ipc_field.now) (ids_views c.as_slice.result.now) (g.R.Room.told c.args.reader.now)
    (g.R.Room.told c.begin.new.reader) (g.R.Room.told c.read_children.new.reader) c.in_ok-begun.begun
    (λ arrays. map slots arrays.items) c.in_ok-children.children c.in_ok-children.children.items c.array_of.result c.requires c.fields_of.ensures
    ids c.limit_below-below.ensures c.in_ok-begun.ensures.fit c.in_ok-begun.ensures.read refl c.in_ok-children.ensures.types
    c.in_ok-children.ensures.read c.array_of.ensures.ranges c.array_of.ensures.sound c.array_of.ensures.made

pub read_children-returns-then-k-ipc_fields-clause-read : goal.read_children-returns-then-k-ipc_fields-clause-read
read_children-returns-then-k-ipc_fields-clause-read g t c =
    let version = version_view c.args.version in
    let little = c.args.is_little_endian in
    let standing = standing_in c.args.dictionaries.now in
    ids_missing version (λ nodes buffers. at_front nodes buffers version little standing c.args.limit c.args.block_offset no_own_ids)
    (g.R.Room.told c.args.reader.now) (g.R.Room.told c.loop-k.reader) c.args.fields.now c.args.ipc_fields.now c.args.field_nodes.now.items
    c.loop-k.field_nodes.items c.args.buffers.now.items c.loop-k.buffers.items c.loop-k.k c.loop-k.children.items c.loop-k-test.true (omega arith)
    c.loop-k.invariant

pub read_children-returns-in_err-child-clause-read : goal.read_children-returns-in_err-child-clause-read
read_children-returns-in_err-child-clause-read g t c =
    let version = version_view c.args.version in
    let little = c.args.is_little_endian in
    let standing = standing_in c.args.dictionaries.now in
    let limit = c.args.limit in
    let origin = c.args.block_offset in
    let k = c.loop-k.k in
    let fields = c.args.fields.now in
    let ids = c.args.ipc_fields.now in
    let error = c.in_err-child.field-0.0 in
    let is : c.from_residual.result ≡ Err error = search rules in
    rw is (child_refused {B = ℕ} version (λ nodes buffers. at_front nodes buffers version little standing limit origin no_own_ids)
    (g.R.Room.told c.args.reader.now) (g.R.Room.told c.loop-k.reader) (g.R.Room.told c.read_column.new.reader) fields
    ids c.args.field_nodes.now.items c.loop-k.field_nodes.items c.read_column.new.field_nodes.items c.args.buffers.now.items
    c.loop-k.buffers.items c.read_column.new.buffers.items k c.loop-k.children.items (get_or fields k c.index-fields-k.result)
    c.index-ipc_fields-k.result error (λ n. []) c.loop-k-test.true (ap (λ d. get_or fields k d) c.index-fields-k.is) (omega arith)
    c.index-ipc_fields-k.is
    (λ fields u nodes buffers room below. behind_fronts fields nodes buffers version little standing limit origin no_own_ids no_own_ids room below u)
    c.loop-k.invariant c.in_err-child.ensures)

pub read_children-returns-in_err-push-clause-read : goal.read_children-returns-in_err-push-clause-read
read_children-returns-in_err-push-clause-read g t c =
    let version = version_view c.args.version in
    let little = c.args.is_little_endian in
    let standing = standing_in c.args.dictionaries.now in
    let limit = c.args.limit in
    let origin = c.args.block_offset in
    let k = c.loop-k.k in
    let fields = c.args.fields.now in
    let ids = c.args.ipc_fields.now in
    let is : c.from_residual-in_err-push.result ≡ Err errors.OutOfMemory = search rules in
    let before = one_more_read version (λ nodes buffers. at_front nodes buffers version little standing limit origin no_own_ids)
    (g.R.Room.told c.args.reader.now) (g.R.Room.told c.loop-k.reader) (g.R.Room.told c.read_column.new.reader) fields
    ids c.args.field_nodes.now.items c.loop-k.field_nodes.items c.read_column.new.field_nodes.items c.args.buffers.now.items
    c.loop-k.buffers.items c.read_column.new.buffers.items k c.loop-k.children.items (get_or fields k c.index-fields-k.result)
    c.index-ipc_fields-k.result c.in_ok-child.child c.loop-k-test.true (ap (λ d. get_or fields k d) c.index-fields-k.is)
    (omega arith) c.index-ipc_fields-k.is
    (λ fields u nodes buffers room below. behind_fronts fields nodes buffers version little standing limit origin no_own_ids no_own_ids room below u)
    c.loop-k.invariant c.in_ok-child.ensures in
    rw is (memory_refused {B = ℕ} version (λ nodes buffers. at_front nodes buffers version little standing limit origin no_own_ids)
    (g.R.Room.told c.args.reader.now) (g.R.Room.told c.read_column.new.reader) fields ids c.args.field_nodes.now.items
    c.read_column.new.field_nodes.items c.args.buffers.now.items c.read_column.new.buffers.items (suc k)
    (c.loop-k.children.items ++ c.in_ok-child.child ∷ []) errors.OutOfMemory (λ n. []) before (λ given. refl))

pub read_children-loop-k-preserved : goal.read_children-loop-k-preserved
read_children-loop-k-preserved g t c =
    let version = version_view c.args.version in
    let little = c.args.is_little_endian in
    let standing = standing_in c.args.dictionaries.now in
    let limit = c.args.limit in
    let origin = c.args.block_offset in
    let k = c.loop-k.k in
    let fields = c.args.fields.now in
    let ids = c.args.ipc_fields.now in
    let before = one_more_read version (λ nodes buffers. at_front nodes buffers version little standing limit origin no_own_ids)
    (g.R.Room.told c.args.reader.now) (g.R.Room.told c.loop-k.reader) (g.R.Room.told c.read_column.new.reader) fields
    ids c.args.field_nodes.now.items c.loop-k.field_nodes.items c.read_column.new.field_nodes.items c.args.buffers.now.items
    c.loop-k.buffers.items c.read_column.new.buffers.items k c.loop-k.children.items (get_or fields k c.index-fields-k.result)
    c.index-ipc_fields-k.result c.in_ok-child.child c.loop-k-test.true (ap (λ d. get_or fields k d) c.index-fields-k.is)
    (omega arith) c.index-ipc_fields-k.is
    (λ fields u nodes buffers room below. behind_fronts fields nodes buffers version little standing limit origin no_own_ids no_own_ids room below u)
    c.loop-k.invariant c.in_ok-child.ensures in
    let one : suc k ≡ k + 1 = omega arith in
    let pushed : c.loop-k.children.items ++ c.in_ok-child.child ∷ [] ≡ c.push.new.self.items = search rules in
    read_to version (λ nodes buffers. at_front nodes buffers version little standing limit origin no_own_ids) (g.R.Room.told c.args.reader.now)
    (g.R.Room.told c.read_column.new.reader) fields ids c.args.field_nodes.now.items c.read_column.new.field_nodes.items
    c.args.buffers.now.items c.read_column.new.buffers.items (suc k) (k + 1) (c.loop-k.children.items ++ c.in_ok-child.child ∷ [])
    c.push.new.self.items one pushed before
