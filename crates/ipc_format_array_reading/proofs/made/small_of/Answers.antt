-- Lists or maps of their one child.
use Rattle.std.proofs.Common.{◌≡◌, ◌∙◌, inr, rules, subst, sym}
use Rattle.std.specs.Prelude.{None, Result, Some}
use Rattle.std.proofs.lemmas.Bool.{true≢false}
use Rattle.ipc_format_column_writing.specs.column_reading.columnar_memory.Spans.{offsets_of}
use Rattle.ipc_format_column_writing.specs.column_reading.columnar_memory.declared.Error.{Error}
use Rattle.ipc_format_column_writing.specs.column_reading.columns.StoredColumns.{Column}
use Rattle.ipc_format_array_reading.specs.Parts.{Makes, made_column, single, spans}
use Rattle.ipc_format_array_reading.proofs.MadeChecks.{small_list, spans_gone, spans_joined}
use Rattle.ipc_format_array_reading.proofs.made.small_of.Goals as goal

pub returns-in_default : goal.returns-in_default
returns-in_default c =
    let none : single c.args.children.items ≡ None = search rules in
    inr (tt, spans_gone c.args.data_type c.args.marked.taken c.args.marked.validity (offsets_of c.args.offsets) c.args.children.items none)

pub returns-then-is_map : goal.returns-then-is_map
returns-then-is_map c =
    let t = c.args.data_type in
    let n = c.args.marked.taken in
    let mask = c.args.marked.validity in
    let offsets = offsets_of c.args.offsets in
    let cs = c.args.children.items in
    let is : single cs ≡ Some c.in-Some.items = search rules in
    subst (λ (r : Result Column Error). Makes (made_column t None (spans n mask offsets) cs) r) (sym c.any_map.ensures)
    (spans_joined t n mask offsets cs c.in-Some.items c.map_of.result is c.map_of.ensures)

pub map_of-requires : goal.map_of-requires
map_of-requires c = c.is_map.ensures.0 c.if-is_map.true

pub list_of-requires : goal.list_of-requires
list_of-requires c =
    small_list c.args.data_type c.requires (λ is. true≢false (sym (c.is_map.ensures.1 is) ∙ c.if-is_map.false))

pub returns : goal.returns
returns c =
    let t = c.args.data_type in
    let n = c.args.marked.taken in
    let mask = c.args.marked.validity in
    let offsets = offsets_of c.args.offsets in
    let cs = c.args.children.items in
    let is : single cs ≡ Some c.in-Some.items = search rules in
    subst (λ (r : Result Column Error). Makes (made_column t None (spans n mask offsets) cs) r) (sym c.any_list.ensures)
    (spans_joined t n mask offsets cs c.in-Some.items c.list_of.result is c.list_of.ensures)
