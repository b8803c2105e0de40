-- The dictionaries before a place are told.
use Rattle.std.proofs.Common.{map, take}
use Rattle.ipc_format_chunk_writing.specs.Found.{given_in}
use Rattle.ipc_format_chunk_writing.specs.Telling.{ToldUntil, is_seen}
use Rattle.ipc_format_chunk_writing.specs.Tracking.{tracked}
use Rattle.ipc_format_chunk_writing.proofs.telling.tell.Given as goal

abbrev pub invariant-loop-dictionary : goal.invariant-loop-dictionary
invariant-loop-dictionary l = ToldUntil (tracked l.initial.told) (tracked l.told) (is_seen l.seen.keys)
    (map given_in (take l.dictionary-index l.found)) (map given_in l.sent.items)
