use Rattle.std.proofs.Common.{◌∙◌, ℕ, subst}
use Rattle.ipc_format_streams.specs.grammar.StoredEncoding.{encode_range}
use Rattle.ipc_format_column_bytes.specs.Bodies.{Adds, parts_of}
use Rattle.ipc_format_column_bytes.specs.FlatColumns.{text_column}
use Rattle.ipc_format_column_bytes.proofs.FlatRanges.{strings_len}
use Rattle.ipc_format_column_bytes.proofs.flats.write_utf8.Goals as goal

pub returns : goal.returns
returns g c =
    let array = c.args.array.now in
    subst (λ (n : ℕ). Adds c.add_utf8.result (parts_of c.args.body.now) (parts_of c.add_utf8.new.self)
    (encode_range c.args.is_little_endian (text_column array) 0 n)) (c.len.ensures.value ∙ strings_len array.offsets)
    c.add_utf8.ensures
