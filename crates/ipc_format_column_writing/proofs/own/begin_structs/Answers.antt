use Rattle.std.proofs.Common.{option_copied}
use Rattle.nested_arrays_core.specs.ColumnMasks.{column_mask}
use Rattle.ipc_format_column_reading.specs.column_bytes.Bodies.{parts_of}
use Rattle.ipc_format_column_reading.specs.column_bytes.columns.StoredColumns.{column_len, column_type, in_columns}
use Rattle.ipc_format_column_writing.proofs.Begun.{records_begun}
use Rattle.ipc_format_column_writing.proofs.Within.{named_fields}
use Rattle.ipc_format_column_writing.proofs.own.begin_structs.Goals as goal

pub returns-clause-begun : goal.returns-clause-begun
returns-clause-begun c =
    let a = c.args.array.now in
    records_begun c.add_slots.result a c.args.body.now (parts_of c.add_slots.new.self) c.args.is_little_endian (column_type a) (column_mask a)
    (option_copied c.validity.result) (column_len a) (in_columns c.values-fields.result.now) c.args.first c.args.count c.values-fields.ensures
    c.validity.ensures c.add_slots.ensures

pub returns-clause-fields : goal.returns-clause-fields
returns-clause-fields c =
    let a = c.args.array.now in
    named_fields a (column_type a) (column_mask a) (column_len a) (in_columns c.values-fields.result.now) c.args.first c.args.count
    c.values-fields.ensures c.whole.ensures c.requires
