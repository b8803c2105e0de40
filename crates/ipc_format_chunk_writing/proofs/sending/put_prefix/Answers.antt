-- The marker and the length behind one another.
use Rattle.std.proofs.Common.{rules, replicate}
use Rattle.std.specs.Int.{w32, to_le_bytes}
use Rattle.ipc_format_batch_reading.proofs.Appending.{puts_behind, puts_first, puts_same}
use Rattle.ipc_format_chunk_writing.proofs.sending.put_prefix.Goals as goal

pub returns-in_err-put : goal.returns-in_err-put
returns-in_err-put g c =
    let whole = puts_first c.in_err-put.field-0.0 _ _ (replicate 4 255) (to_le_bytes w32 c.args.length) c.in_err-put.ensures in
    search (rules, whole)

pub returns : goal.returns
returns g c =
    puts_behind c.put-2.result _ _ _ (replicate 4 255) (to_le_bytes w32 c.args.length) c.in_ok-put.ensures
    (puts_same c.put-2.result _ _ _ _ c.to_le_bytes.ensures c.put-2.ensures)
