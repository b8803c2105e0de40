-- What the fields before the place have is put under its ids.
use Rattle.ipc_format_batch_reading.proofs.NamedValues.{GainsTo}
use Rattle.ipc_format_batch_reading.proofs.named_values.+putting.Given as goal

abbrev pub invariant-put_fields-loop-k : goal.invariant-put_fields-loop-k
invariant-put_fields-loop-k l = GainsTo l.initial.found l.found l.fields l.ipc_fields l.k
