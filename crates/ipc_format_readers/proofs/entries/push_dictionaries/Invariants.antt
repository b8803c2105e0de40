-- The dictionaries at the blocks so far stand behind the messages that were there.
use Rattle.std.proofs.Common.{map}
use Rattle.ipc_format_chunk_writing.specs.grammar.Files.{is_dictionary}
use Rattle.ipc_format_readers.specs.FileEntries.{entries_view}
use Rattle.ipc_format_readers.specs.FileStarts.{block_view}
use Rattle.ipc_format_readers.proofs.PushedEntries.{ArePushed}
use Rattle.ipc_format_readers.proofs.entries.push_dictionaries.Given as goal

abbrev pub invariant-loop-block : goal.invariant-loop-block
invariant-loop-block l =
    ArePushed is_dictionary l.bytes (map block_view l.blocks) (entries_view l.initial.entries) l.block-index (entries_view l.entries)
