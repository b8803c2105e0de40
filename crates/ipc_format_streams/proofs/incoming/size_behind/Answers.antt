-- There is no length behind the marker.
use Rattle.std.proofs.Common.{rules}
use Rattle.ipc_format_streams.proofs.Told.{told_missing}
use Rattle.ipc_format_streams.proofs.incoming.size_behind.Goals as goal

pub returns-then-not-branch : goal.returns-then-not-branch
returns-then-not-branch g c =
    told_missing (g.R.Read.remaining c.args.reader.now) (g.R.Read.remaining c.fill.new.reader) c.args.head.now.items c.fill.new.into.items
    (search rules) (search rules) (search rules)
