use Rattle.std.proofs.Common.{[], ◌∷◌, option_copied}
use Rattle.ipc_format_streams.specs.columns.StoredColumns.{cut_list, cut_mask}
use Rattle.ipc_format_streams.specs.grammar.Buffers.{bitmap_bytes}
use Rattle.ipc_format_streams.specs.grammar.StoredEncoding.{encode_range}
use Rattle.ipc_format_column_bytes.specs.Bodies.{of_buffers, of_slots, parts_of}
use Rattle.ipc_format_column_bytes.specs.FlatColumns.{boolean_column}
use Rattle.ipc_format_column_bytes.proofs.Bodies.{added_then}
use Rattle.ipc_format_column_bytes.proofs.FlatRanges.{boolean_range}
use Rattle.ipc_format_column_bytes.proofs.body.Body.add_boolean.Goals as goal

pub returns : goal.returns
returns c =
    let mask = option_copied c.validity.result in
    let little = c.args.is_little_endian in
    let first = c.args.first in
    let count = c.args.count in
    added_then c.add_bits.result c.args.self.now (parts_of c.add_slots.new.self) (parts_of c.add_bits.new.self)
    (of_slots count (cut_mask mask first count)) (of_buffers (bitmap_bytes (cut_list c.values.result.now first count) ∷ []))
    (encode_range little (boolean_column c.args.array.now) first count) c.in_ok-add_slots.ensures c.add_bits.ensures
    (boolean_range little c.args.array.now mask c.values.result.now first count c.validity.ensures.value c.values.ensures)
