use Rattle.std.proofs.Common.{rules}
use Rattle.std.specs.Prelude.{Err}
use Rattle.ipc_format_messages.specs.flatbuffers.Views.{Lays}
use Rattle.ipc_format_writing.specs.Pieces.{Pair, pair_piece}
use Rattle.ipc_format_writing.proofs.PairLists.{pair_refused, pairs_made}
use Rattle.ipc_format_writing.proofs.written_pairs.lay_pairs.Goals as goal

pub returns-in_err-lay_pair : goal.returns-in_err-lay_pair
returns-in_err-lay_pair c =
    let error = c.in_err-lay_pair.field-0.0 in
    let pair : Pair = (c.in-Some.key.now, c.in-Some.value.now) in
    let given : Lays (Err error) (pair_piece pair) = search rules in
    let whole = pair_refused error c.loop-key.laid.items pair c.next.new.self c.args.pairs.now (search rules) given in
    search (rules, whole)

pub returns : goal.returns
returns c =
    let whole = pairs_made c.lay_vector_if.result c.loop-key.laid.items c.args.pairs.now (search rules) (search rules) in
    search (rules, whole)
