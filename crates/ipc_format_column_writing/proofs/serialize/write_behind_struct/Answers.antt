use Rattle.std.proofs.Common.{[], ◌∷◌, option_copied}
use Rattle.nested_arrays_core.specs.ColumnMasks.{column_mask}
use Rattle.nested_arrays_core.specs.StoredColumns.{column_len, column_type, cut_mask, in_columns}
use Rattle.ipc_format_column_reading.specs.column_bytes.Bodies.{of_buffers, parts_of}
use Rattle.ipc_format_column_reading.specs.column_bytes.WholeColumns.{behind_node}
use Rattle.ipc_format_column_reading.specs.column_bytes.grammar.Encoding.{joined_columns}
use Rattle.ipc_format_column_reading.specs.column_bytes.grammar.StoredEncoding.{encode_ranges, encode_stored, mask_bytes}
use Rattle.ipc_format_column_reading.proofs.bytes_lemmas.Bodies.{added_then}
use Rattle.ipc_format_column_writing.proofs.Behind.{all_fields, behind_records}
use Rattle.ipc_format_column_writing.proofs.serialize.write_behind_struct.Goals as goal

pub write_children-requires : goal.write_children-requires
write_children-requires c =
    let a = c.args.array.now in
    all_fields a (column_type a) (column_mask a) (column_len a) c.len-count.result (in_columns c.values-fields.result.now) c.values-fields.ensures
    c.whole.ensures c.len-count.ensures

pub returns : goal.returns
returns c =
    let a = c.args.array.now in
    let little = c.args.is_little_endian in
    let count = c.len-count.result in
    let mask = option_copied c.validity.result in
    let children = in_columns c.values-fields.result.now in
    added_then c.write_children.result c.args.body.now (parts_of c.add_validity.new.self) (parts_of c.write_children.new.body)
    (of_buffers (mask_bytes (cut_mask mask 0 count) ∷ [])) (joined_columns (encode_ranges little children 0 count))
    (behind_node (encode_stored little a))
    c.in_ok-add_validity.ensures c.write_children.ensures
    (behind_records little a (column_type a) (column_mask a) mask (column_len a) count children c.values-fields.ensures c.validity.ensures
    c.len-count.ensures)
