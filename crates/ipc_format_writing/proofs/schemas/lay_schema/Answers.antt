use Rattle.std.proofs.Common.{rules}
use Rattle.std.specs.Prelude.{Err}
use Rattle.std.specs.Option.{option_map}
use Rattle.ipc_format_messages.specs.flatbuffers.Views.{Lays, piece_view}
use Rattle.ipc_format_messages.specs.grammar.SchemaObjects as objects
use Rattle.ipc_format_messages.specs.metadata.Views.{ids_views}
use Rattle.ipc_format_writing.specs.Pieces.{LaysIf, piece_if}
use Rattle.ipc_format_writing.proofs.SchemaMessages.{all_allowed, fields_piece, fields_refused, metadata_refused, schema_made}
use Rattle.ipc_format_writing.proofs.schemas.lay_schema.Goals as goal

pub lay_fields-requires : goal.lay_fields-requires
lay_fields-requires c =
    let allowed = all_allowed c.args.schema.now c.requires in
    search (rules, allowed)

pub returns-in_err-fields : goal.returns-in_err-fields
returns-in_err-fields c =
    let error = c.in_err-fields.field-0.0 in
    let given : Lays (Err error) (fields_piece c.args.schema.now (ids_views c.args.beside.now)) = search rules in
    let whole = fields_refused error c.args.schema.now (ids_views c.args.beside.now) given in
    search (rules, whole)

pub returns-in_err-metadata : goal.returns-in_err-metadata
returns-in_err-metadata c =
    let error = c.in_err-metadata.field-0.0 in
    let given : LaysIf (Err error) (piece_if (objects.metadata_object c.args.schema.now.metadata)) = search rules in
    let whole = metadata_refused error c.args.schema.now (ids_views c.args.beside.now) given in
    search (rules, whole)

pub returns : goal.returns
returns c =
    schema_made c.lay_table.result c.args.schema.now (ids_views c.args.beside.now) (piece_view c.in_ok-fields.fields) (option_map piece_view
    c.in_ok-metadata.metadata) (search rules) (search rules) (search rules)
