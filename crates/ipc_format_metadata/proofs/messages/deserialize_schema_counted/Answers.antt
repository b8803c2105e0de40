use Rattle.std.proofs.Common.{◌≡◌, rules}
use Rattle.std.specs.Prelude.{Some}
use Rattle.ipc_format_grammar.specs.flatbuffers.Views.{table_of}
use Rattle.ipc_format_grammar.specs.SchemaGrammar.{schema_in}
use Rattle.ipc_format_metadata.specs.SchemaViews.{schema_view}
use Rattle.ipc_format_metadata.specs.Steps.{schema_table_in, schema_message_in, FloatInSchema, FloatInMessage}
use Rattle.ipc_format_metadata.proofs.Options.{reads-up}
use Rattle.ipc_format_metadata.proofs.SchemaSteps.{message-schema, message-visits, float-in-message}
use Rattle.ipc_format_metadata.proofs.messages.deserialize_schema_counted.Goals as goal

pub returns-clause-value : goal.returns-clause-value
returns-clause-value c =
    let table : schema_table_in c.args.metadata.now ≡ Some (table_of c.in-Some.table) = search rules in
    reads-up schema_view c.schema_in_counted.result (FloatInSchema c.args.metadata.now (table_of c.in-Some.table))
    (schema_in c.args.metadata.now (table_of c.in-Some.table)) (FloatInMessage c.args.metadata.now) (schema_message_in c.args.metadata.now)
    (message-schema c.args.metadata.now (table_of c.in-Some.table) table) (float-in-message c.args.metadata.now (table_of c.in-Some.table) table)
    c.schema_in_counted.ensures.value

pub returns-clause-used : goal.returns-clause-used
returns-clause-used c =
    let table : schema_table_in c.args.metadata.now ≡ Some (table_of c.in-Some.table) = search rules in
    rw (message-visits c.args.metadata.now (table_of c.in-Some.table) table) c.schema_in_counted.ensures.used
