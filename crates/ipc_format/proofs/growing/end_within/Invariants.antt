-- Of the blocks so far none states a negative length or ends past the size, and this is their greatest end.
use Rattle.std.proofs.Common.{map, take}
use Rattle.std.specs.Prelude.{Some}
use Rattle.ipc_format_readers.specs.FileStarts.{block_view}
use Rattle.ipc_format.specs.Growing.{EndWithin}
use Rattle.ipc_format.proofs.growing.end_within.Given as goal

abbrev pub invariant-loop-block : goal.invariant-loop-block
invariant-loop-block l = EndWithin (Some l.end) l.size (map block_view (take l.block-index l.blocks))
