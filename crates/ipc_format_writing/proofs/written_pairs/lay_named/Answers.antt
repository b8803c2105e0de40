use Rattle.std.proofs.Common.{◌∷◌, [], rules}
use Rattle.std.specs.Prelude.{Err}
use Rattle.ipc_format_messages.specs.flatbuffers.Laying as layout
use Rattle.ipc_format_messages.specs.flatbuffers.Views.{Lays}
use Rattle.ipc_format_messages.specs.grammar.Schemas.{extension_name_key, extension_metadata_key}
use Rattle.ipc_format_writing.specs.Pieces.{Pair, pair_piece}
use Rattle.ipc_format_writing.proofs.PairLists.{one_refused, one_made, two_made}
use Rattle.ipc_format_writing.proofs.written_pairs.lay_named.Goals as goal

pub returns-in_err-name-in-Some : goal.returns-in_err-name-in-Some
unfolding layout.table_piece layout.text_piece
returns-in_err-name-in-Some c =
    let error = c.in_err-name-in-Some.field-0.0 in
    let named : Pair = (extension_name_key, c.args.name.now) in
    let more : Pair = (extension_metadata_key, c.in-Some.metadata) in
    let given : Lays (Err error) (pair_piece named) = search rules in
    let whole = one_refused error (pair_piece more ∷ []) (pair_piece named) [] given in
    rw c.in-Some.is (search (rules, whole))

pub returns-in_err-name-in-None : goal.returns-in_err-name-in-None
unfolding layout.table_piece layout.text_piece
returns-in_err-name-in-None c =
    let error = c.in_err-name-in-None.field-0.0 in
    let named : Pair = (extension_name_key, c.args.name.now) in
    let given : Lays (Err error) (pair_piece named) = search rules in
    let whole = one_refused error [] (pair_piece named) [] given in
    rw c.in-None.is (search (rules, whole))

pub returns-in_ok-from_array-in-Some : goal.returns-in_ok-from_array-in-Some
unfolding layout.table_piece layout.text_piece
returns-in_ok-from_array-in-Some c =
    let named : Pair = (extension_name_key, c.args.name.now) in
    let more : Pair = (extension_metadata_key, c.in-Some.metadata) in
    let whole = two_made c.in_ok-from_array-in-Some.field-0.items c.in_ok-metadata-in-Some.metadata c.in_ok-name-in-Some.name more named (search
    rules) (search rules) (search rules) in
    rw c.in-Some.is whole

pub returns-in_ok-from_array-in-None : goal.returns-in_ok-from_array-in-None
unfolding layout.table_piece layout.text_piece
returns-in_ok-from_array-in-None c =
    let named : Pair = (extension_name_key, c.args.name.now) in
    let whole = one_made c.in_ok-from_array-in-None.field-0.items c.in_ok-name-in-None.name named (search rules) (search rules) in
    rw c.in-None.is whole
