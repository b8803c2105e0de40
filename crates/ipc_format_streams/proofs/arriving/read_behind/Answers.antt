-- What is read stands behind what was there.
use Rattle.std.proofs.Common.{rules}
use Rattle.ipc_format_streams.proofs.Pieces.{reads_behind_in}
use Rattle.ipc_format_streams.proofs.arriving.read_behind.Goals as goal

pub returns : goal.returns
returns g c =
    reads_behind_in _ _ c.args.into.now.len c.args.into.now.items c.deref_mut.result.now c.read.new.buf c.args.filled c.read.result
    c.deref_mut.ensures.value (search rules) (search rules) (search rules) c.read.ensures.bound c.read.ensures.bytes
