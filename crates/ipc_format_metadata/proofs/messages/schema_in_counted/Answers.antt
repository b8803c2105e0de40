use Rattle.std.proofs.Common.{◌≡◌, true, false, rules}
use Rattle.std.specs.Prelude.{Err}
use Rattle.ipc_format_grammar.specs.flatbuffers.Views.{table_of}
use Rattle.ipc_format_grammar.specs.Writable.{is_writable}
use Rattle.ipc_format_metadata.specs.SchemaViews.{schema_view}
use Rattle.ipc_format_metadata.proofs.SchemaSteps.{schema-refused, schema-written, schema-unwritten}
use Rattle.ipc_format_metadata.proofs.messages.schema_in_counted.Goals as goal

pub returns-in_err-schema-clause-value : goal.returns-in_err-schema-clause-value
returns-in_err-schema-clause-value c =
    let is : c.from_residual.result ≡ Err c.in_err-schema.field-0.0 = search rules in
    rw is (schema-refused c.in_err-schema.field-0.0 c.args.bytes.now (table_of c.args.table.now) c.in_err-schema.ensures.value)

pub returns-then-not-can_write-clause-value : goal.returns-then-not-can_write-clause-value
returns-then-not-can_write-clause-value c =
    let unwritten : is_writable c.in_ok-schema.schema ≡ false = search rules in
    schema-unwritten c.args.bytes.now (table_of c.args.table.now) (schema_view (c.in_ok-schema.schema, c.in_ok-schema.ipc_schema))
    c.in_ok-schema.ensures.value unwritten

pub returns-clause-value : goal.returns-clause-value
returns-clause-value c =
    let written : is_writable c.in_ok-schema.schema ≡ true = search rules in
    schema-written c.args.bytes.now (table_of c.args.table.now) (schema_view (c.in_ok-schema.schema, c.in_ok-schema.ipc_schema))
    c.in_ok-schema.ensures.value written
