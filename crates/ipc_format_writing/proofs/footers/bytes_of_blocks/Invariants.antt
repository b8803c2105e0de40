use Rattle.std.proofs.Common.{◌≡◌, take}
use Rattle.std.specs.List.{flat_map}
use Rattle.ipc_format_writing.specs.FooterWriting.{laid_block}
use Rattle.ipc_format_writing.proofs.footers.bytes_of_blocks.Given as goal

abbrev pub invariant-loop-block : goal.invariant-loop-block
invariant-loop-block l = l.bytes.items ≡ flat_map laid_block (take l.block-index l.blocks)
