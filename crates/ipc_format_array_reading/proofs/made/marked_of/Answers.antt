-- Lists of one size, or structs.
use Rattle.std.proofs.Common.{◌≡◌, ◌∙◌, subst, sym}
use Rattle.std.specs.Prelude.{None, Result}
use Rattle.std.proofs.lemmas.Bool.{true≢false}
use Rattle.ipc_format_column_writing.specs.column_reading.columnar_memory.declared.Error.{Error}
use Rattle.ipc_format_column_writing.specs.column_reading.columns.StoredColumns.{Column}
use Rattle.ipc_format_array_reading.specs.Parts.{Makes, made_column, marks}
use Rattle.ipc_format_array_reading.proofs.MadeChecks.{struct_joined}
use Rattle.ipc_format_array_reading.proofs.made.marked_of.Goals as goal

pub fixed_of-requires-clause-kind : goal.fixed_of-requires-clause-kind
fixed_of-requires-clause-kind c = c.is_fixed_list.ensures.0 c.if-is_fixed_list.true

pub returns : goal.returns
returns c =
    let t = c.args.data_type in
    let n = c.args.marked.taken in
    let mask = c.args.marked.validity in
    let cs = c.args.children.items in
    subst (λ (r : Result Column Error). Makes (made_column t None (marks n mask) cs) r) (sym c.any_struct.ensures)
    (struct_joined t n mask cs c.struct_of.result c.requires.nested c.requires.marks
    (λ is. true≢false (sym (c.is_fixed_list.ensures.1 is) ∙ c.if-is_fixed_list.false)) c.struct_of.ensures)
