use Rattle.std.proofs.Common.{rules}
use Rattle.ipc_format_column_writing.proofs.SameChunks.{same_each}
use Rattle.ipc_format_column_writing.proofs.equality.ChunkPartialEq.eq.Goals as goal

pub returns-clause-exact : goal.returns-clause-exact
returns-clause-exact g c = λ decides.
    let same = same_each g.A.PartialEq.eq g.A.Array.column decides c.args.self.now c.args.other.now in search (rules, same)
