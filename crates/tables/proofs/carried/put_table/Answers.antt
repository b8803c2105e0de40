-- The bytes that are put are the stream.
use Rattle.tables.proofs.Carrying.{stream_put}
use Rattle.tables.proofs.carried.put_table.Goals as goal

pub returns : goal.returns
returns g c =
    let old = g.P.Places.contents c.args.places.now in
    let new = g.P.Places.contents c.put_bytes.new.places in
    stream_put c.put_bytes.result old new c.args.output.now c.in_ok-stream.stream.items c.args.table.now c.in_ok-stream.ensures c.put_bytes.ensures
