use Rattle.std.proofs.Common.{refl, rules}
use Rattle.std.specs.Prelude.{Err}
use Rattle.ipc_format_messages.specs.columnar_memory.declared.Field.{out-Field}
use Rattle.ipc_format_messages.specs.flatbuffers.Laying.{table_piece, text_piece, refers}
use Rattle.ipc_format_messages.specs.flatbuffers.Views.{Lays}
use Rattle.ipc_format_messages.specs.grammar.SchemaObjects as objects
use Rattle.ipc_format_writing.specs.Pieces as pieces
use Rattle.ipc_format_writing.specs.Pieces.{LaysIf, piece_if, slot_if}
use Rattle.ipc_format_writing.proofs.Sizes.{table_over, lays_over}
use Rattle.ipc_format_writing.proofs.TypeTables.{if_over}
use Rattle.ipc_format_writing.proofs.fields.lay_field_table.Goals as goal

pub returns-in_err-name : goal.returns-in_err-name
returns-in_err-name c =
    let error = c.in_err-name.field-0.0 in
    let field = out-Field c.args.field.now in
    let name = text_piece field.name in
    let slots = pieces.field_slots field.name field.is_nullable field.metadata (pieces.type_view c.args.laid.now) c.args.own in
    let given : Lays (Err error) name = search rules in
    let whole = lays_over error name (table_piece slots) (table_over slots 0 (refers name) refl) given in
    search (rules, whole)

pub returns-in_err-encoding : goal.returns-in_err-encoding
returns-in_err-encoding c =
    let error = c.in_err-encoding.field-0.0 in
    let field = out-Field c.args.field.now in
    let told = pieces.type_view c.args.laid.now in
    let encoding = piece_if (objects.encoding_object told.dictionary c.args.own) in
    let slots = pieces.field_slots field.name field.is_nullable field.metadata told c.args.own in
    let given : LaysIf (Err error) encoding = search rules in
    let whole = if_over error encoding (table_piece slots) (table_over slots 4 (slot_if encoding) refl) given in
    search (rules, whole)

pub returns-in_err-metadata : goal.returns-in_err-metadata
returns-in_err-metadata c =
    let error = c.in_err-metadata.field-0.0 in
    let field = out-Field c.args.field.now in
    let told = pieces.type_view c.args.laid.now in
    let metadata = piece_if (objects.metadata_object (objects.written_pairs told.extension field.metadata)) in
    let slots = pieces.field_slots field.name field.is_nullable field.metadata told c.args.own in
    let given : LaysIf (Err error) metadata = search rules in
    let whole = if_over error metadata (table_piece slots) (table_over slots 6 (slot_if metadata) refl) given in
    search (rules, whole)
