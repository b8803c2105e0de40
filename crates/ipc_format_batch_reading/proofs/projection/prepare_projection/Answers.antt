-- What is sorted, placed and chosen is what is prepared.
use Rattle.ipc_format_batch_reading.proofs.Prepared.{prepared}
use Rattle.ipc_format_batch_reading.proofs.projection.prepare_projection.Goals as goal

pub returns : goal.returns
returns c =
    prepared c.args.fields.now c.args.projection.items c.as_slice-columns.result.now c.as_slice.result.now c.in_ok-rising.rising
    c.in_ok-places.places c.in_ok-asked.asked c.as_slice-columns.ensures.value c.as_slice.ensures.value c.requires c.in_ok-rising.ensures.same
    c.in_ok-rising.ensures.sorted c.in_ok-places.ensures.back c.in_ok-places.ensures.fit c.in_ok-asked.ensures
