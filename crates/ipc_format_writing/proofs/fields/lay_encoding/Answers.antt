use Rattle.std.proofs.Common.{rules}
use Rattle.std.specs.Prelude.{Err}
use Rattle.ipc_format_messages.specs.flatbuffers.Objects.{piece_of}
use Rattle.ipc_format_messages.specs.flatbuffers.Views.{Lays}
use Rattle.ipc_format_messages.specs.grammar.SchemaObjects as objects
use Rattle.ipc_format_writing.proofs.FieldTables.{encoding_refused}
use Rattle.ipc_format_writing.proofs.fields.lay_encoding.Goals as goal

pub returns-in_err-keys : goal.returns-in_err-keys
returns-in_err-keys c =
    let error = c.in_err-keys.field-0.0 in
    let given : Lays (Err error) (piece_of (objects.integer_object c.in-Some.keys)) = search rules in
    let whole = encoding_refused error c.in-Some.keys c.in-Some.is_ordered c.args.own given in
    search (rules, whole)
