use Rattle.std.proofs.Common.{◌∷◌, [], refl, rules}
use Rattle.std.specs.Prelude.{Err}
use Rattle.ipc_format_messages.specs.flatbuffers.Laying.{refers, table_piece, text_piece}
use Rattle.ipc_format_messages.specs.flatbuffers.Views.{Lays}
use Rattle.ipc_format_writing.proofs.Sizes.{table_over, lays_over}
use Rattle.ipc_format_writing.proofs.written_pairs.lay_pair.Goals as goal

pub returns-in_err-key : goal.returns-in_err-key
returns-in_err-key c =
    let key = text_piece c.args.key.now in
    let slots = refers key ∷ refers (text_piece c.args.value.now) ∷ [] in
    let given : Lays (Err c.in_err-key.field-0.0) key = search rules in
    let whole = lays_over c.in_err-key.field-0.0 key (table_piece slots) (table_over slots 0 (refers key) refl) given in
    search (rules, whole)

pub returns-in_err-value : goal.returns-in_err-value
returns-in_err-value c =
    let value = text_piece c.args.value.now in
    let slots = refers (text_piece c.args.key.now) ∷ refers value ∷ [] in
    let given : Lays (Err c.in_err-value.field-0.0) value = search rules in
    let whole = lays_over c.in_err-value.field-0.0 value (table_piece slots) (table_over slots 1 (refers value) refl) given in
    search (rules, whole)
