use Rattle.std.proofs.Common.{◌+◌, ◌++◌, List, ap, arith, drop, map, rules, subst, sym, take}
use Rattle.std.proofs.lemmas.List.{take_all}
use Rattle.ipc_format_batch_reading.specs.grammar.GivenDictionaries.{Given}
use Rattle.ipc_format_chunk_writing.specs.Found.{given_in}
use Rattle.ipc_format_chunk_writing.specs.Telling.{ToldUntil, is_seen}
use Rattle.ipc_format_chunk_writing.specs.Tracking.{tracked}
use Rattle.ipc_format_chunk_writing.proofs.Encoding.{given_more, given_whole}
use Rattle.ipc_format_chunk_writing.proofs.ToldInTurn.{all_not_told, all_told, none_told, unseen}
use Rattle.ipc_format_chunk_writing.proofs.telling.tell.Goals as goal

pub loop-dictionary-init : goal.loop-dictionary-init
loop-dictionary-init c = none_told (tracked c.args.told.now) (is_seen c.new-seen.result.keys) (map given_in c.new-sent.result.items)
    (unseen c.new-seen.result.keys c.new-seen.ensures.empty) (ap (map given_in) c.new-sent.ensures.items)

pub loop-dictionary-preserved : goal.loop-dictionary-preserved
loop-dictionary-preserved c =
    let k = c.loop-dictionary.dictionary-index in
    subst (λ (given : List Given). ToldUntil (tracked c.args.told.now) (tracked c.tell_next.new.told) (is_seen c.tell_next.new.seen.keys) given
    (map given_in c.tell_next.new.sent.items))
    (sym (given_more c.args.found.now k c.dictionary-item.result c.loop-dictionary-test.true c.dictionary-item.is))
    (c.in_ok-tell_next.ensures (tracked c.args.told.now) (map given_in (take k c.args.found.now)) c.loop-dictionary.invariant)

pub returns-in_err-tell_next : goal.returns-in_err-tell_next
returns-in_err-tell_next c =
    let k = c.loop-dictionary.dictionary-index in
    let whole = all_not_told c.in_err-tell_next.field-0.0 (tracked c.args.told.now) (tracked c.tell_next.new.told)
    (map given_in (take k c.args.found.now)) (given_in c.dictionary-item.result) (map given_in (drop (k + 1) c.args.found.now))
    (map given_in c.args.found.now) (given_whole c.args.found.now k c.dictionary-item.result c.loop-dictionary-test.true c.dictionary-item.is)
    (c.in_err-tell_next.ensures (tracked c.args.told.now) (map given_in (take k c.args.found.now)) c.loop-dictionary.invariant) in
    search (rules, whole)

pub returns : goal.returns
returns c = all_told (tracked c.args.told.now) (tracked c.loop-dictionary.told) (is_seen c.loop-dictionary.seen.keys)
    (map given_in c.args.found.now)
    (map given_in c.loop-dictionary.sent.items)
    (subst (λ (given : List Given). ToldUntil (tracked c.args.told.now) (tracked c.loop-dictionary.told)
    (is_seen c.loop-dictionary.seen.keys) given
    (map given_in c.loop-dictionary.sent.items)) (ap (map given_in) (take_all c.loop-dictionary.dictionary-index c.args.found.now (omega arith)))
    c.loop-dictionary.invariant)
