-- Lists of one size, of their one child.
use Rattle.std.proofs.Common.{◌≡◌, ◌∙◌, inr, rules, subst, sym}
use Rattle.std.specs.Prelude.{None, Result, Some}
use Rattle.ipc_format_column_writing.specs.column_reading.columnar_memory.declared.Error.{Error}
use Rattle.ipc_format_column_writing.specs.column_reading.columns.StoredColumns.{Column}
use Rattle.ipc_format_array_reading.specs.Parts.{Makes, made_column, marks, single}
use Rattle.ipc_format_array_reading.proofs.MadeChecks.{fixed_gone, fixed_joined}
use Rattle.ipc_format_array_reading.proofs.made.fixed_of.Goals as goal

pub returns-in_default : goal.returns-in_default
returns-in_default c =
    let none : single c.args.children.items ≡ None = search rules in
    inr (tt, fixed_gone c.args.data_type c.args.marked.taken c.args.marked.validity c.args.children.items c.requires.nested c.requires.kind none)

pub returns : goal.returns
returns c =
    let t = c.args.data_type in
    let n = c.args.marked.taken in
    let mask = c.args.marked.validity in
    let cs = c.args.children.items in
    let is : single cs ≡ Some c.in-Some.items = search rules in
    subst (λ (r : Result Column Error). Makes (made_column t None (marks n mask) cs) r) (sym c.any_fixed_list.ensures)
    (fixed_joined t n mask cs c.in-Some.items c.fixed_list_of.result c.requires.nested c.requires.kind is c.fixed_list_of.ensures)
