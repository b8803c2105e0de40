-- Bytes, and zeros behind them.
use Rattle.std.proofs.Common.{rules, replicate}
use Rattle.ipc_format_streams.proofs.Appending.{puts_behind, puts_first}
use Rattle.ipc_format_streams.proofs.encoded.put_padded.Goals as goal

pub returns-in_err-put : goal.returns-in_err-put
returns-in_err-put g c =
    let whole = puts_first c.in_err-put.field-0.0 _ _ c.args.bytes.now (replicate c.args.zeros 0) c.in_err-put.ensures in
    search (rules, whole)

pub returns : goal.returns
returns g c = puts_behind c.put_zeros.result _ _ _ c.args.bytes.now (replicate c.args.zeros 0) c.in_ok-put.ensures c.put_zeros.ensures
