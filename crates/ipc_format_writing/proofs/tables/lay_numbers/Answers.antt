use Rattle.std.proofs.Common.{arith}
use Rattle.ipc_format_writing.proofs.TypeTables.{numbers_too_long}
use Rattle.ipc_format_writing.proofs.tables.lay_numbers.Goals as goal

pub returns : goal.returns
returns c = numbers_too_long c.args.numbers.now (omega arith)
