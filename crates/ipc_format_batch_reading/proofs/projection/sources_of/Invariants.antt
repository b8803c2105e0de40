-- What the entries so far have put, and those that are left put on.
use Rattle.std.proofs.Common.{◌≡◌}
use Rattle.std.specs.List.{range_with_len}
use Rattle.ipc_format_batch_reading.proofs.Sources.{IsPut}
use Rattle.ipc_format_batch_reading.proofs.projection.sources_of.Given as goal

abbrev pub invariant-loop-place : goal.invariant-loop-place
invariant-loop-place l = l.sources.items ≡ range_with_len 0 l.place

abbrev pub invariant-loop-old : goal.invariant-loop-old
invariant-loop-old l = IsPut l.count l.map.entries l.sources.items l.old-iterator
