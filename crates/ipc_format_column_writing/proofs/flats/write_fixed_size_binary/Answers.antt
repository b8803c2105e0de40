use Rattle.std.proofs.Common.{◌+◌, ◌*◌, ◌≤◌, [], ◌∷◌, length, option_copied, refl, arith}
use Rattle.std.specs.Prelude.{slice_range}
use Rattle.nested_arrays_core.specs.ColumnMasks.{column_mask}
use Rattle.nested_arrays_core.specs.FlatColumns.{byte_width}
use Rattle.nested_arrays_core.specs.StoredColumns.{column_type, cut_mask}
use Rattle.ipc_format_column_reading.specs.column_bytes.Bodies.{of_buffers, of_slots, parts_of}
use Rattle.ipc_format_column_reading.specs.column_bytes.grammar.StoredEncoding.{encode_range}
use Rattle.ipc_format_column_reading.proofs.bytes_lemmas.Bodies.{added_then}
use Rattle.ipc_format_column_writing.proofs.Fixed.{fixed_range, fixed_within}
use Rattle.ipc_format_column_writing.proofs.flats.write_fixed_size_binary.Goals as goal

pub slice_bounds-add_bytes-end : goal.slice_bounds-add_bytes-end
slice_bounds-add_bytes-end c =
    let a = c.args.array.now in
    let size = c.size-size.result in
    let all : size * c.args.first + size * c.args.count ≤ length c.as_slice-bytes.result.now =
    fixed_within a (column_type a) (column_mask a) c.values.result.now c.as_slice-bytes.result.now (byte_width (column_type a)) size c.args.first
    c.args.count c.values.ensures c.as_slice-bytes.ensures c.size-size.ensures.value c.requires in
    omega (arith, all)

pub returns : goal.returns
returns c =
    let a = c.args.array.now in
    let size = c.size-size.result in
    let first = c.args.first in
    let count = c.args.count in
    let mask = option_copied c.validity.result in
    let part = slice_range c.as_slice-bytes.result.now (size * first) (size * first + size * count) in
    added_then c.add_bytes.result c.args.body.now (parts_of c.add_slots.new.self) (parts_of c.add_bytes.new.self)
    (of_slots count (cut_mask mask first count)) (of_buffers (part ∷ [])) (encode_range c.args.is_little_endian a first count)
    c.in_ok-add_slots.ensures c.add_bytes.ensures
    (fixed_range c.args.is_little_endian a (column_type a) (column_mask a) mask c.values.result.now c.as_slice-bytes.result.now part
    (byte_width (column_type a)) size first count c.values.ensures c.validity.ensures c.as_slice-bytes.ensures c.size-size.ensures.value refl)
