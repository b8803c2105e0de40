use Rattle.std.proofs.Common.{map, rules}
use Rattle.std.specs.Prelude.{Err}
use Rattle.ipc_format_messages.specs.flatbuffers.Objects.{piece_of}
use Rattle.ipc_format_messages.specs.flatbuffers.Views.{Lays}
use Rattle.ipc_format_messages.specs.grammar.Schemas.{ids}
use Rattle.ipc_format_messages.specs.grammar.SchemaObjects as objects
use Rattle.ipc_format_messages.specs.metadata.Views.{ids_views}
use Rattle.ipc_format_writing.specs.Pieces as pieces
use Rattle.ipc_format_writing.specs.Pieces.{LaysType, field_told}
use Rattle.ipc_format_writing.proofs.FieldTables.{type_refused, single_refused, fields_refused, fields_more, pieces_beside}
use Rattle.ipc_format_writing.proofs.fields.+fields.Goals as goal

pub lay_field-returns-in_err-laid : goal.lay_field-returns-in_err-laid
lay_field-returns-in_err-laid t c =
    let error = c.in_err-laid.field-0.0 in
    let given : LaysType (Err error) (pieces.parts_of (objects.told_of c.args.field.now.data_type (ids_views c.args.below.now))) = search rules in
    let whole = type_refused error c.args.field.now c.args.own (ids_views c.args.below.now) given in
    search (rules, whole)

pub lay_single-returns-in_err-laid : goal.lay_single-returns-in_err-laid
lay_single-returns-in_err-laid t c =
    let error = c.in_err-laid.field-0.0 in
    let here = c.first_beside-here.result in
    let given : Lays (Err error) (piece_of (field_told c.args.field.now (ids here.own (ids_views here.below.now)))) = search rules in
    let whole = single_refused error (field_told c.args.field.now) (ids_views c.args.beside.now) (ids here.own (ids_views here.below.now))
    c.first_beside-here.ensures.first given in
    search (rules, whole)

pub lay_fields-returns-in_err-lay_field : goal.lay_fields-returns-in_err-lay_field
lay_fields-returns-in_err-lay_field t c =
    let error = c.in_err-lay_field.field-0.0 in
    let here = c.first_beside-here.result in
    let given : Lays (Err error) (piece_of (field_told c.index-fields-k.result (ids here.own (ids_views here.below.now)))) = search rules in
    let whole = fields_refused error c.loop-k.laid.items c.args.fields.now c.loop-k.k c.index-fields-k.result (ids_views c.loop-k.rest.now) (ids
    here.own (ids_views here.below.now))
    (pieces_beside (map field_told c.args.fields.now) (ids_views c.args.beside.now)) c.loop-k-test.true c.index-fields-k.is
    c.first_beside-here.ensures.first c.loop-k.invariant given in
    search (rules, whole)

pub lay_fields-loop-k-preserved : goal.lay_fields-loop-k-preserved
lay_fields-loop-k-preserved t c =
    let here = c.first_beside-here.result in
    fields_more c.loop-k.laid.items c.push.new.self.items c.in_ok-lay_field.field-0 c.args.fields.now c.loop-k.k c.index-fields-k.result
    (ids_views c.loop-k.rest.now) (ids_views here.others.now)
    (ids here.own (ids_views here.below.now)) (pieces_beside (map field_told c.args.fields.now) (ids_views c.args.beside.now)) c.loop-k-test.true
    c.index-fields-k.is c.first_beside-here.ensures.first c.first_beside-here.ensures.others
    c.in_ok-push.ensures.items c.in_ok-lay_field.ensures c.loop-k.invariant
