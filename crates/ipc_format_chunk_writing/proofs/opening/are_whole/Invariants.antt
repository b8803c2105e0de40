-- The arrays so far are sound.
use Rattle.std.proofs.Common.{◌≡◌, true, take}
use Rattle.std.specs.List.{list_all}
use Rattle.ipc_format_batch_reading.specs.columns.SoundColumns.{is_sound}
use Rattle.ipc_format_chunk_writing.proofs.opening.are_whole.Given as goal

abbrev pub invariant-loop-array : goal.invariant-loop-array
invariant-loop-array l = list_all is_sound (take l.array-index l.arrays) ≡ true
