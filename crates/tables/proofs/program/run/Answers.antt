-- What words state has a batch size, if it is a seal. Or the command failed, and its line was written, or a beginning of it.
use Rattle.std.proofs.Common.{arith, map}
use Rattle.std.specs.String.{string_bytes}
use Rattle.tables.specs.Command.{asked_by}
use Rattle.tables.proofs.BatchSizes.{stated_fits}
use Rattle.tables.proofs.Lines.{failed}
use Rattle.tables.proofs.program.run.Goals as goal

pub returns-in-Err-clause-answer : goal.returns-in-Err-clause-answer
returns-in-Err-clause-answer g c =
    failed _ (asked_by c.in-Some.command) c.in-Err.failure _ _ _ _ c.tell.result c.in-Some.ensures c.in-Err.ensures c.tell.ensures.status
    c.tell.ensures.line

pub execute-requires : goal.execute-requires
execute-requires g c = stated_fits (map string_bytes c.args.words.now) (asked_by c.in-Some.command) c.in-Some.ensures
