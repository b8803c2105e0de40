-- Items that are not as many as the last offset says.
use Rattle.std.proofs.Common.{◌≡◌, ◌∙◌, inr, sym}
use Rattle.ipc_format_column_writing.specs.column_reading.columnar_memory.Spans.{offsets_of}
use Rattle.ipc_format_column_writing.specs.column_reading.columns.StoredColumns.{lists}
use Rattle.ipc_format_array_reading.proofs.MadeChecks.{lists_gone}
use Rattle.ipc_format_array_reading.proofs.made.list_of.Goals as goal

pub returns-then-len-items_in : goal.returns-then-len-items_in
returns-then-len-items_in g c = inr (
  tt,
  lists_gone c.args.offsets c.args.items (lists c.args.data_type c.args.validity (offsets_of c.args.offsets) c.args.items)
      (λ same. c.if-len-items_in.true (c.len.ensures ∙ same ∙ sym c.items_in.ensures)),
)
