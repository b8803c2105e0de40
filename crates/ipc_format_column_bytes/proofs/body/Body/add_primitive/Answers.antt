use Rattle.std.specs.List.{flat_map}
use Rattle.std.proofs.Common.{◌∙◌, ◌+◌, [], ◌∷◌, option_copied, refl}
use Rattle.std.specs.Prelude.{slice_range}
use Rattle.ipc_format_streams.specs.columns.StoredColumns.{cut_mask}
use Rattle.ipc_format_streams.specs.grammar.StoredEncoding.{encode_range}
use Rattle.ipc_format_column_bytes.specs.Bodies.{of_buffers, of_slots, parts_of}
use Rattle.ipc_format_column_bytes.specs.FlatColumns.{primitive_column}
use Rattle.ipc_format_column_bytes.specs.Numbers.{value_bytes}
use Rattle.ipc_format_column_bytes.proofs.Bodies.{added_then}
use Rattle.ipc_format_column_bytes.proofs.FlatRanges.{primitive_range}
use Rattle.ipc_format_column_bytes.proofs.body.Body.add_primitive.Goals as goal

pub returns : goal.returns
returns g c =
    let mask = option_copied c.validity.result in
    let little = c.args.is_little_endian in
    let kind = g.T.NativeType.PRIMITIVE in
    let numbers = g.T.NativeType.numbers in
    let first = c.args.first in
    let count = c.args.count in
    let part = slice_range c.as_slice.result.now first (first + count) in
    added_then c.add_numbers.result c.args.self.now (parts_of c.add_slots.new.self) (parts_of c.add_numbers.new.self)
    (of_slots count (cut_mask mask first count)) (of_buffers (flat_map (λ v. value_bytes little kind (numbers v)) part ∷ []))
    (encode_range little (primitive_column kind numbers c.args.array.now) first count) c.in_ok-add_slots.ensures c.add_numbers.ensures
    (primitive_range little kind numbers c.args.array.now mask c.as_slice.result.now part first count c.validity.ensures.value
    (c.as_slice.ensures ∙ c.values.ensures) refl)
