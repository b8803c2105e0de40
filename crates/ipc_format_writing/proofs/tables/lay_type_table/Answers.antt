use Rattle.std.proofs.Common.{rules}
use Rattle.std.specs.Prelude.{Err}
use Rattle.ipc_format_messages.specs.grammar.SchemaObjects as objects
use Rattle.ipc_format_writing.specs.Pieces.{LaysIf, piece_if}
use Rattle.ipc_format_writing.proofs.TypeTables.{short_and_refused}
use Rattle.ipc_format_writing.proofs.tables.lay_type_table.Goals as goal

pub returns-in_err-timezone-in-Timestamp : goal.returns-in_err-timezone-in-Timestamp
returns-in_err-timezone-in-Timestamp c =
    let error = c.in_err-timezone-in-Timestamp.field-0.0 in
    let timezone = objects.text_if c.in-Timestamp.timezone.now in
    let given : LaysIf (Err error) (piece_if timezone) = search rules in
    let whole = short_and_refused error c.in-Timestamp.unit timezone given in
    search (rules, whole)

pub returns-in_err-ids-in-Union : goal.returns-in_err-ids-in-Union
returns-in_err-ids-in-Union c =
    let error = c.in_err-ids-in-Union.field-0.0 in
    let ids = objects.numbers_if c.in-Union.ids.now in
    let given : LaysIf (Err error) (piece_if ids) = search rules in
    let whole = short_and_refused error c.in-Union.mode ids given in
    search (rules, whole)
