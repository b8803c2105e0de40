-- What is told of one dictionary is told of it behind the others.
use Rattle.std.proofs.Common.{◌∙◌, [], ◌∷◌, ap, map, rules}
use Rattle.std.proofs.lemmas.List.{map-append}
use Rattle.ipc_format_chunk_writing.specs.Found.{given_in}
use Rattle.ipc_format_chunk_writing.specs.Telling.{is_seen}
use Rattle.ipc_format_chunk_writing.specs.Tracking.{tracked}
use Rattle.ipc_format_chunk_writing.proofs.ToldInTurn.{next_new, next_not, next_same}
use Rattle.ipc_format_chunk_writing.proofs.telling.tell_next.Goals as goal

pub returns-in_err-tell_one : goal.returns-in_err-tell_one
returns-in_err-tell_one c =
    let whole = next_not c.in_err-tell_one.field-0.0 (tracked c.args.told.now) (tracked c.tell_one.new.told) (is_seen c.args.seen.now.keys)
    (is_seen c.tell_one.new.seen.keys) (map given_in c.args.sent.now.items) (map given_in c.args.sent.now.items)
    (given_in c.args.dictionary.now) c.in_err-tell_one.ensures.tells in
    search (rules, whole)

pub returns-then-not-branch : goal.returns-then-not-branch
returns-then-not-branch c = next_same (tracked c.args.told.now) (tracked c.tell_one.new.told) (is_seen c.args.seen.now.keys)
    (is_seen c.tell_one.new.seen.keys) (map given_in c.args.sent.now.items) (given_in c.args.dictionary.now) c.in_ok-tell_one.field-0
    c.in_ok-tell_one.ensures.tells (search rules) c.in_ok-tell_one.ensures.sees

pub returns : goal.returns
returns c = next_new (tracked c.args.told.now) (tracked c.tell_one.new.told) (is_seen c.args.seen.now.keys) (is_seen c.tell_one.new.seen.keys)
    (map given_in c.args.sent.now.items) (map given_in c.push.new.self.items) (given_in c.args.dictionary.now) c.in_ok-tell_one.field-0
    c.in_ok-tell_one.ensures.tells (search rules) c.in_ok-tell_one.ensures.sees
    (ap (map given_in) c.in_ok-push.ensures.items ∙ map-append given_in c.args.sent.now.items (c.args.dictionary.now ∷ []))
