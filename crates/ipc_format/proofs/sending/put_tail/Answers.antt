-- The length and the mark behind one another.
use Rattle.std.proofs.Common.{rules}
use Rattle.std.specs.Int.{w32, to_le_bytes}
use Rattle.ipc_format_readers.specs.chunk_writing.grammar.Files.{file_mark}
use Rattle.ipc_format_readers.proofs.chunk_lemmas.Appending.{appends_same, puts_behind, puts_first, refused_same}
use Rattle.ipc_format.proofs.sending.put_tail.Goals as goal

pub returns-in_err-put : goal.returns-in_err-put
returns-in_err-put g c =
    let whole = puts_first c.in_err-put.field-0.0 _ _ (to_le_bytes w32 c.args.length) file_mark
    (refused_same c.in_err-put.field-0.0 _ _ _ _ c.to_le_bytes.ensures c.in_err-put.ensures) in
    search (rules, whole)

pub returns : goal.returns
returns g c =
    puts_behind c.put-2.result _ _ _ (to_le_bytes w32 c.args.length) file_mark
    (appends_same _ _ _ _ c.to_le_bytes.ensures c.in_ok-put.ensures) c.put-2.ensures
