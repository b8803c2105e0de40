-- A file that nothing bars has no block that states a negative length.
use Rattle.std.proofs.Common.{◌∙◌, List, map, ap}
use Rattle.ipc_format_readers.specs.FileStarts.{block_view, blocks_view}
use Rattle.ipc_format_readers.specs.declared.blocks.MessageBlock.{MessageBlock}
use Rattle.ipc_format.specs.Growing.{has_negative}
use Rattle.ipc_format.proofs.GrownBlocks.{not_negative}
use Rattle.ipc_format.proofs.growing.progress_of_file.Goals as goal

pub kept_blocks-requires : goal.kept_blocks-requires
kept_blocks-requires c =
    let metadata = c.args.metadata.now in
    ap (λ (all : List MessageBlock). has_negative (map block_view all)) c.deref.ensures.value
    ∙ (not_negative metadata.ipc_schema.is_little_endian metadata.size (blocks_view metadata.dictionaries) (blocks_view metadata.blocks)
    c.requires.may).0

pub kept_blocks-requires-2 : goal.kept_blocks-requires-2
kept_blocks-requires-2 c =
    let metadata = c.args.metadata.now in
    ap (λ (all : List MessageBlock). has_negative (map block_view all)) c.deref-2.ensures.value
    ∙ (not_negative metadata.ipc_schema.is_little_endian metadata.size (blocks_view metadata.dictionaries) (blocks_view metadata.blocks)
    c.requires.may).1
