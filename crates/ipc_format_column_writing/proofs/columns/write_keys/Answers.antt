use Rattle.std.proofs.Common.{subst}
use Rattle.ipc_format_column_reading.specs.column_bytes.Bodies.{Adds, parts_of}
use Rattle.ipc_format_column_reading.specs.column_bytes.grammar.Encoding.{Encoded}
use Rattle.ipc_format_column_writing.proofs.KeyBytes.{keys_range}
use Rattle.ipc_format_column_writing.proofs.columns.write_keys.Goals as goal

pub returns : goal.returns
returns c =
    let node = c.args.node.now in
    subst (λ (e : Encoded). Adds c.write_numbers.result (parts_of c.args.body.now) (parts_of c.write_numbers.new.body) e)
    (keys_range c.args.is_little_endian node.data_type node.keys node.values.value c.args.first c.args.count c.requires.whole.fits)
    c.write_numbers.ensures
