-- Children of another length than the structs.
use Rattle.std.proofs.Common.{◌≡◌, ◌∙◌, ◌==◌, Bool, false, List, ap, inr, rules, sym}
use Rattle.std.specs.List.{list_all}
use Rattle.ipc_format_column_writing.specs.column_reading.columns.StoredColumns.{Column, column_len, in_columns, records}
use Rattle.ipc_format_array_reading.proofs.MadeChecks.{short_gone}
use Rattle.ipc_format_array_reading.proofs.made.struct_of.Goals as goal

pub returns-then-not-are_as_long : goal.returns-then-not-are_as_long
returns-then-not-are_as_long c =
    let all : List Column → Bool = λ (columns : List Column). list_all (λ (column : Column). column_len column == c.args.taken) columns in
    let same : c.deref.result.now ≡ c.args.children.items = search rules in
    let short : all c.args.children.items ≡ false = ap all (sym same) ∙ sym c.are_as_long.ensures ∙ c.if-not-are_as_long.true in
    inr (tt, short_gone (all c.args.children.items) (records c.args.data_type c.args.validity c.args.taken (in_columns c.args.children.items)) short)
