-- None of the fields before the place has the id.
use Rattle.ipc_format_streams.proofs.Finding.{NoneBefore}
use Rattle.ipc_format_streams.proofs.values.+finding.Given as goal

abbrev pub invariant-values_in_fields-loop-k : goal.invariant-values_in_fields-loop-k
invariant-values_in_fields-loop-k l = NoneBefore l.fields l.id l.ipc_fields l.k
