use Rattle.std.proofs.Common.{◌≡◌, sym, rules}
use Rattle.std.specs.Prelude.{Some}
use Rattle.std.specs.Int.{w8}
use Rattle.ipc_format_grammar.specs.flatbuffers.FlatBuffers.{root_of, number_field, table_field}
use Rattle.ipc_format_grammar.specs.flatbuffers.Views.{table_of}
use Rattle.ipc_format_metadata.proofs.SchemaSteps.{no-schema-table}
use Rattle.ipc_format_metadata.proofs.messages.schema_table.Goals as goal

pub returns-else-tag-eq-SCHEMA_HEADER : goal.returns-else-tag-eq-SCHEMA_HEADER
returns-else-tag-eq-SCHEMA_HEADER c =
    let root : root_of c.args.bytes.now ≡ Some (table_of c.in_ok-root.root) = search rules in
    let tag : number_field w8 c.args.bytes.now (table_of c.in_ok-root.root) 1 0 ≡ Some c.in_ok-tag.tag = search rules in
    let table : table_field c.args.bytes.now (table_of c.in_ok-root.root) 2 ≡ Some (Some (table_of c.in_ok-table.table)) = search rules in
    sym (no-schema-table c.args.bytes.now (table_of c.in_ok-root.root) (table_of c.in_ok-table.table) c.in_ok-tag.tag root tag table
    c.if-tag-eq-SCHEMA_HEADER.false)
