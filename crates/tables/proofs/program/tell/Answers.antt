-- A failure but a column named twice.
use Rattle.tables.proofs.Lines.{status_two, told}
use Rattle.tables.proofs.program.tell.Goals as goal

pub returns-in_default-clause-status : goal.returns-in_default-clause-status
returns-in_default-clause-status g c = status_two c.args.failure.now c.in_default.not-RepeatedColumn

pub returns-in_default-clause-line : goal.returns-in_default-clause-line
returns-in_default-clause-line g c = told c.args.failure.now _ _ c.report.result c.in_default.not-RepeatedColumn c.report.ensures
