-- As many items stand before each place as it says.
use Rattle.std.proofs.Common.{ap}
use Rattle.ipc_format_batch_reading.proofs.ItemPlaces.{counted_all}
use Rattle.ipc_format_batch_reading.proofs.projection.ProjectionIter.new.Goals as goal

pub returns : goal.returns
returns g c = ap (λ ks. (ks, c.args.iter)) (counted_all c.args.projection.now)
