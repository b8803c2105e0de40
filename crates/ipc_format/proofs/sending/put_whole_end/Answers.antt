-- Nothing more is written when the end is let go.
use Rattle.std.proofs.Common.{[]}
use Rattle.std.proofs.lemmas.List.{append-nil}
use Rattle.ipc_format_readers.proofs.chunk_lemmas.Appending.{puts_behind, puts_same}
use Rattle.ipc_format.specs.Ends.{end_with_zeros}
use Rattle.ipc_format.proofs.sending.put_whole_end.Goals as goal

pub returns : goal.returns
returns g c =
    let end = end_with_zeros c.args.zeros c.args.footer.now in
    puts_same c.flush.result _ _ _ end (append-nil end) (puts_behind c.flush.result _ _ _ end [] c.in_ok-put_end.ensures c.flush.ensures)
