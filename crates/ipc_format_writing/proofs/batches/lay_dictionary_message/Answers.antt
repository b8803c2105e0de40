use Rattle.std.proofs.Common.{◌∷◌, [], List, refl, rules}
use Rattle.std.specs.Prelude.{Err}
use Rattle.std.specs.Int.{w8, w64, cast_unsigned}
use Rattle.ipc_format_messages.specs.flatbuffers.Laying.{Piece, TableSlot, number, refers, table_piece}
use Rattle.ipc_format_messages.specs.flatbuffers.Objects.{piece_of}
use Rattle.ipc_format_messages.specs.flatbuffers.Views.{Lays}
use Rattle.ipc_format_writing.specs.MessageWriting.{batch_object, message_slots}
use Rattle.ipc_format_writing.proofs.Laid.{part-refused}
use Rattle.ipc_format_writing.proofs.batches.lay_dictionary_message.Goals as goal

pub returns-in_err-values : goal.returns-in_err-values
returns-in_err-values c =
    let values : Piece = piece_of (batch_object c.args.rows c.args.nodes.now c.args.buffers.now) in
    let slots : List TableSlot = number w64 (cast_unsigned w64 c.args.id) ∷ refers values ∷ number w8 0 ∷ [] in
    let error = c.in_err-values.field-0.0 in
    let given : Lays (Err error) values = search rules in
    let dictionary : Lays (Err error) (table_piece slots) = part-refused error slots 1 values refl given in
    let whole = part-refused error (message_slots 2 (table_piece slots) c.args.body_length) 2 (table_piece slots) refl dictionary in
    search (rules, whole)

pub returns-in_err-dictionary : goal.returns-in_err-dictionary
returns-in_err-dictionary c =
    let values : Piece = piece_of (batch_object c.args.rows c.args.nodes.now c.args.buffers.now) in
    let slots : List TableSlot = number w64 (cast_unsigned w64 c.args.id) ∷ refers values ∷ number w8 0 ∷ [] in
    let error = c.in_err-dictionary.field-0.0 in
    let given : Lays (Err error) (table_piece slots) = search rules in
    let whole = part-refused error (message_slots 2 (table_piece slots) c.args.body_length) 2 (table_piece slots) refl given in
    search (rules, whole)
