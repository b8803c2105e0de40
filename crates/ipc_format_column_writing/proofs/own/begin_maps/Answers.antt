use Rattle.std.proofs.Common.{◌≡◌, ◌∙◌, List, ℕ, ap, sym, option_copied, arith}
use Rattle.std.specs.Int.{w32}
use Rattle.nested_arrays_core.specs.ColumnMasks.{column_mask}
use Rattle.nested_arrays_core.proofs.parts_lemmas.OffsetLists.{spans_count}
use Rattle.ipc_format_column_reading.specs.column_bytes.Bodies.{parts_of}
use Rattle.ipc_format_column_reading.specs.column_bytes.columnar_memory.Spans.{offsets_of}
use Rattle.ipc_format_column_reading.specs.column_bytes.columns.StoredColumns.{column_len, column_type, lists}
use Rattle.ipc_format_column_writing.specs.Parts.{items_column}
use Rattle.ipc_format_column_writing.proofs.Begun.{named_begun, spans_within}
use Rattle.ipc_format_column_writing.proofs.Widths.{maps_width}
use Rattle.ipc_format_column_writing.proofs.Within.{named_lists_end}
use Rattle.ipc_format_column_writing.proofs.own.begin_maps.Goals as goal

pub add_spans-requires : goal.add_spans-requires
add_spans-requires c =
    let a = c.args.array.now in
    let t = column_type a in
    let mask = column_mask a in
    let spans = c.offsets.result.now in
    let child = c.field-entries.result.now in
    let is : a ≡ lists t mask (offsets_of spans) child =
    c.field-entries.ensures ∙ ap (λ (offsets : List ℕ). lists t mask offsets child) (sym c.offsets.ensures) in
    omega (arith, ap column_len is, spans_count spans, c.requires)

pub returns-clause-begun : goal.returns-clause-begun
returns-clause-begun c =
    let a = c.args.array.now in
    let t = column_type a in
    let mask = column_mask a in
    let spans = c.offsets.result.now in
    let child = c.field-entries.result.now in
    let is : a ≡ lists t mask (offsets_of spans) child =
    c.field-entries.ensures ∙ ap (λ (offsets : List ℕ). lists t mask offsets child) (sym c.offsets.ensures) in
    named_begun a c.add_spans.result c.args.body.now (parts_of c.add_slots.new.self) (parts_of c.add_spans.new.body) c.args.is_little_endian t mask
    (option_copied c.validity.result) spans child w32 c.args.first c.args.count is c.validity.ensures (maps_width t c.whole.ensures.1)
    c.in_ok-add_slots.ensures c.add_spans.ensures

pub returns-clause-items : goal.returns-clause-items
returns-clause-items c =
    let a = c.args.array.now in
    let t = column_type a in
    let mask = column_mask a in
    let spans = c.offsets.result.now in
    let child = c.field-entries.result.now in
    let is : a ≡ lists t mask (offsets_of spans) child =
    c.field-entries.ensures ∙ ap (λ (offsets : List ℕ). lists t mask offsets child) (sym c.offsets.ensures) in
    spans_within c.add_spans.result (parts_of c.add_slots.new.self) (parts_of c.add_spans.new.body) c.args.is_little_endian w32 spans c.args.first
    c.args.count (column_len (items_column a)) c.add_spans.ensures (named_lists_end a t mask spans child is c.whole.ensures.0)
