-- The arrays so far are sound.
use Rattle.std.proofs.Common.{◌≡◌, true, take}
use Rattle.std.specs.List.{list_all}
use Rattle.ipc_format.specs.columns.SoundColumns.{is_sound}
use Rattle.tables_chunks.proofs.batches.is_whole.Given as goal

abbrev pub invariant-loop-array : goal.invariant-loop-array
invariant-loop-array l = list_all is_sound (take l.array-index l.array-items) ≡ true
