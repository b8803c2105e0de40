use Rattle.std.proofs.Common.{rules}
use Rattle.std.specs.Prelude.{Err}
use Rattle.ipc_format_messages.specs.flatbuffers.Objects.{piece_of}
use Rattle.ipc_format_messages.specs.flatbuffers.Views.{Lays}
use Rattle.ipc_format_messages.specs.grammar.SchemaObjects as objects
use Rattle.ipc_format_messages.specs.metadata.Views.{ids_views}
use Rattle.ipc_format_writing.proofs.SchemaMessages.{header_refused}
use Rattle.ipc_format_writing.proofs.schemas.lay_message.Goals as goal

pub returns-in_err-header : goal.returns-in_err-header
returns-in_err-header c =
    let error = c.in_err-header.field-0.0 in
    let given : Lays (Err error) (piece_of (objects.schema_object c.args.schema.now (ids_views c.args.beside.now))) = search rules in
    let whole = header_refused error c.args.schema.now (ids_views c.args.beside.now) given in
    search (rules, whole)
