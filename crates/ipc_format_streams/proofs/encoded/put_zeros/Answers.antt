-- Some of the zeros.
use Rattle.std.proofs.Common.{ℕ}
use Rattle.std.proofs.lemmas.List.{take-replicate}
use Rattle.ipc_format_streams.proofs.Appending.{puts_same}
use Rattle.ipc_format_streams.proofs.encoded.put_zeros.Goals as goal

pub returns : goal.returns
returns g c = puts_same c.put.result _ _ _ _ (take-replicate {X = ℕ} c.args.count 64 0 c.requires) c.put.ensures
