use Rattle.std.proofs.Common.{◌∙◌, ℕ, subst}
use Rattle.ipc_format_streams.specs.grammar.StoredEncoding.{encode_range}
use Rattle.ipc_format_column_bytes.specs.Bodies.{Adds, parts_of}
use Rattle.ipc_format_column_bytes.specs.FlatColumns.{primitive_column}
use Rattle.ipc_format_column_bytes.proofs.FlatRanges.{primitive_len}
use Rattle.ipc_format_column_bytes.proofs.flats.write_primitive.Goals as goal

pub returns : goal.returns
returns g c =
    let kind = g.T.NativeType.PRIMITIVE in
    let numbers = g.T.NativeType.numbers in
    let array = c.args.array.now in
    subst (λ (n : ℕ). Adds c.add_primitive.result (parts_of c.args.body.now) (parts_of c.add_primitive.new.self)
    (encode_range c.args.is_little_endian (primitive_column kind numbers array) 0 n)) (c.len.ensures.value ∙ primitive_len kind numbers array)
    c.add_primitive.ensures
