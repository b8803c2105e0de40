-- The messages so far were found, and the place is behind them.
use Rattle.std.proofs.Common.{◌-◌, length}
use Rattle.tables_chunks.specs.ipc_format.FileEntries.{entries_view}
use Rattle.tables_chunks.specs.ipc_format.MessageViews.{version_view}
use Rattle.tables_rows.proofs.FoundEntries.{EntriesFound}
use Rattle.tables_rows.proofs.stream_entries.stream_entries.Given as goal

abbrev pub invariant-messages : goal.invariant-messages
invariant-messages l = EntriesFound (version_view l.version) l.bytes l.first (entries_view l.entries) l.in_a_row l.place

abbrev pub decreases-messages : goal.decreases-messages
decreases-messages l = length l.bytes - l.place
