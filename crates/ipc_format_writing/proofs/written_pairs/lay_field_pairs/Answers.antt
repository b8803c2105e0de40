use Rattle.std.proofs.Common.{rules}
use Rattle.std.specs.Prelude.{Err, filter}
use Rattle.ipc_format_messages.specs.flatbuffers.Views.{Lays}
use Rattle.ipc_format_messages.specs.grammar.SchemaObjects as objects
use Rattle.ipc_format_writing.specs.Pieces.{Pair, pair_piece, is_kept, extension_view}
use Rattle.ipc_format_writing.proofs.PairLists.{all_pairs, pair_refused, pairs_made, kept_here, extension_refused, field_answer}
use Rattle.ipc_format_writing.proofs.written_pairs.lay_field_pairs.Goals as goal

pub returns-in_err-laid : goal.returns-in_err-laid
returns-in_err-laid c =
    let error = c.in_err-laid.field-0.0 in
    let own = objects.extension_pairs (extension_view c.args.extension) in
    let whole = extension_refused error own c.args.pairs.now (search rules) in
    let answer = field_answer (Err error) (extension_view c.args.extension) c.args.pairs.now c.iter-others.ensures.ordered whole in
    search (rules, answer)

pub returns-in_err-lay_pair : goal.returns-in_err-lay_pair
returns-in_err-lay_pair c =
    let error = c.in_err-lay_pair.field-0.0 in
    let pair : Pair = (c.in-Some.key.now, c.in-Some.value.now) in
    let all = all_pairs (objects.extension_pairs (extension_view c.args.extension)) c.args.pairs.now in
    let given : Lays (Err error) (pair_piece pair) = search rules in
    let here = kept_here c.loop-key.laid.items pair c.next.new.self all (search rules) (search rules) in
    let whole = pair_refused error c.loop-key.laid.items pair (filter is_kept c.next.new.self) all here given in
    let answer = field_answer (Err error) (extension_view c.args.extension) c.args.pairs.now c.iter-others.ensures.ordered whole in
    search (rules, answer)

pub returns : goal.returns
returns c =
    let all = all_pairs (objects.extension_pairs (extension_view c.args.extension)) c.args.pairs.now in
    let whole = pairs_made c.lay_vector_if.result c.loop-key.laid.items all (search rules) (search rules) in
    let answer = field_answer c.lay_vector_if.result (extension_view c.args.extension) c.args.pairs.now c.iter-others.ensures.ordered whole in
    search (rules, answer)
