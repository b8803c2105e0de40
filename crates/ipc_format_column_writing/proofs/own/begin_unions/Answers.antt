use Rattle.nested_arrays_core.specs.Parts.{column_children, column_ids, column_places}
use Rattle.ipc_format_column_reading.specs.column_bytes.Bodies.{of_node, parts_of}
use Rattle.ipc_format_column_reading.specs.column_bytes.WholeColumns.{behind_node}
use Rattle.ipc_format_column_reading.specs.column_bytes.columns.StoredColumns.{column_type, in_columns}
use Rattle.ipc_format_column_reading.specs.column_bytes.grammar.Encoding.{joined_columns}
use Rattle.ipc_format_column_reading.specs.column_bytes.grammar.StoredEncoding.{encode_range}
use Rattle.ipc_format_column_writing.specs.Parts.{encode_parts}
use Rattle.ipc_format_column_writing.proofs.Begun.{begins_behind}
use Rattle.ipc_format_column_writing.proofs.Unions.{union_node}
use Rattle.ipc_format_column_writing.proofs.own.begin_unions.Goals as goal

pub returns-clause-begun : goal.returns-clause-begun
returns-clause-begun c =
    let a = c.args.array.now in
    let little = c.args.is_little_endian in
    let whole = encode_range little a c.args.first c.args.count in
    begins_behind c.add_union_buffers.result c.args.body.now (parts_of c.add_node.new.self) (parts_of c.add_union_buffers.new.body)
    (of_node c.args.count 0) (λ part. joined_columns (encode_parts little (column_children a) part))
    (behind_node whole) whole c.in_ok-add_node.ensures
    c.add_union_buffers.ensures.begun
    (union_node a little (column_type a) (column_ids a) (column_places a) (in_columns c.fields-fields.result.now) c.args.first c.args.count
    c.fields-fields.ensures)
