-- The bars of the fields so far.
use Rattle.std.proofs.Common.{◌≡◌, take, map}
use Rattle.tables_chunks.specs.ipc_format.columns.Sealing.{any_bars}
use Rattle.tables_rows.specs.Bars.{bars_in, field_bars}
use Rattle.tables_rows.proofs.bars.+bars.Given as goal

abbrev pub invariant-bars_of_fields-loop-k : goal.invariant-bars_of_fields-loop-k
invariant-bars_of_fields-loop-k l = bars_in l.all ≡ any_bars (map field_bars (take l.k l.fields))
