-- So many blocks are kept.
use Rattle.std.proofs.Common.{◌≡◌, map, take}
use Rattle.ipc_format_readers.specs.FileStarts.{block_view}
use Rattle.ipc_format_readers.specs.streams.owned.writing.FooterWriting as footer
use Rattle.ipc_format.specs.Growing.{kept}
use Rattle.ipc_format.proofs.growing.kept_blocks.Given as goal

abbrev pub invariant-loop-block : goal.invariant-loop-block
invariant-loop-block l = map footer.block_view l.kept.items ≡ kept (map block_view (take l.block-index l.blocks))
