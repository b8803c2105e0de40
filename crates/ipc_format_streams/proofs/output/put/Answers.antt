-- What a write takes stands before what is left.
use Rattle.std.proofs.Common.{refl, []}
use Rattle.ipc_format_streams.proofs.Appending.{appends_nothing, appends_part, begins_kept}
use Rattle.ipc_format_streams.proofs.output.put.Goals as goal

pub loop-rest-init : goal.loop-rest-init
loop-rest-init g c = ([], refl, appends_nothing _)

pub loop-rest-preserved : goal.loop-rest-preserved
loop-rest-preserved g c =
    appends_part _ _ _ _ c.loop-rest.rest.now c.in-Ok.count c.loop-rest.invariant c.in-Ok.ensures.bytes
