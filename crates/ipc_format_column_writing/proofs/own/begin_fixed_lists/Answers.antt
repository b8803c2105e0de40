use Rattle.std.proofs.Common.{◌≡◌, ◌∙◌, ℕ, ap, sym, option_copied}
use Rattle.nested_arrays_core.specs.ColumnMasks.{column_mask}
use Rattle.ipc_format_column_reading.specs.column_bytes.Bodies.{parts_of}
use Rattle.ipc_format_column_reading.specs.column_bytes.columns.StoredColumns.{column_type, fixed_lists}
use Rattle.ipc_format_column_writing.proofs.Begun.{fixed_begun}
use Rattle.ipc_format_column_writing.proofs.Within.{named_pieces}
use Rattle.ipc_format_column_writing.proofs.own.begin_fixed_lists.Goals as goal

pub returns-clause-begun : goal.returns-clause-begun
returns-clause-begun c =
    let a = c.args.array.now in
    let t = column_type a in
    let mask = column_mask a in
    let child = c.values.result.now in
    let is : a ≡ fixed_lists t mask c.size-size.result child =
    c.values.ensures ∙ ap (λ (k : ℕ). fixed_lists t mask k child) (sym c.size-size.ensures.value) in
    fixed_begun a c.args.body.now (parts_of c.add_slots.new.self) c.args.is_little_endian t mask (option_copied c.validity.result)
    c.size-size.result child c.args.first c.args.count is c.validity.ensures c.in_ok-add_slots.ensures

pub returns-clause-items : goal.returns-clause-items
returns-clause-items c =
    let a = c.args.array.now in
    let t = column_type a in
    let mask = column_mask a in
    let child = c.values.result.now in
    let is : a ≡ fixed_lists t mask c.size-size.result child =
    c.values.ensures ∙ ap (λ (k : ℕ). fixed_lists t mask k child) (sym c.size-size.ensures.value) in
    named_pieces a t mask c.size-size.result child c.args.first c.args.count is c.requires
