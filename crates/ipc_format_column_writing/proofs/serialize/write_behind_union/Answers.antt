use Rattle.std.proofs.Common.{ap, subst, sym, ℕ}
use Rattle.nested_arrays_core.specs.Parts.{column_children}
use Rattle.nested_arrays_core.specs.StoredColumns.{Column}
use Rattle.ipc_format_column_reading.specs.column_bytes.Bodies.{Adds, parts_of}
use Rattle.ipc_format_column_reading.specs.column_bytes.WholeColumns.{behind_node}
use Rattle.ipc_format_column_reading.specs.column_bytes.grammar.Encoding.{Encoded, joined_columns}
use Rattle.ipc_format_column_reading.specs.column_bytes.grammar.StoredEncoding.{encode_range}
use Rattle.ipc_format_column_writing.specs.Parts.{encode_parts}
use Rattle.ipc_format_column_writing.proofs.Begun.{begun_then}
use Rattle.ipc_format_column_writing.proofs.serialize.write_behind_union.Goals as goal

pub returns : goal.returns
returns c =
    let a = c.args.array.now in
    let little = c.args.is_little_endian in
    let part = c.in_ok-part.part in
    let p = parts_of c.args.body.now in
    let q = parts_of c.add_union_buffers.new.body in
    let s = parts_of c.write_children.new.body in
    let rest = joined_columns (encode_parts little (column_children a) part) in
    let added : Adds c.write_children.result q s rest =
    subst (λ (e : Encoded). Adds c.write_children.result q s e)
    (sym (ap (λ (b : Column). joined_columns (encode_parts little (column_children b) part)) c.fields.ensures)) c.write_children.ensures in
    subst (λ (n : ℕ). Adds c.write_children.result p s (behind_node (encode_range little a 0 n))) c.len.ensures
    (begun_then c.write_children.result c.args.body.now q s rest (behind_node (encode_range little a 0 c.len.result)) c.in_ok-part.ensures.begun
    added)
