use Rattle.std.proofs.Common.{option_copied, arith}
use Rattle.nested_arrays_core.specs.Widths.{spans_in}
use Rattle.ipc_format_column_reading.specs.column_bytes.Bodies.{parts_of}
use Rattle.nested_arrays_core.proofs.parts_lemmas.OffsetLists.{spans_count}
use Rattle.ipc_format_column_writing.specs.Written.{list_width}
use Rattle.ipc_format_column_writing.proofs.Begun.{lists_begun, spans_within}
use Rattle.ipc_format_column_writing.proofs.Widths.{lists_width}
use Rattle.ipc_format_column_writing.proofs.Within.{lists_end}
use Rattle.ipc_format_column_writing.proofs.own.begin_lists.Goals as goal

pub add_list_spans-requires : goal.add_list_spans-requires
add_list_spans-requires c = let spans = spans_in c.args.node.now.offsets in omega (arith, spans_count spans, c.requires.within)

pub returns-clause-begun : goal.returns-clause-begun
returns-clause-begun c =
    let node = c.args.node.now in
    lists_begun c.add_list_spans.result c.args.body.now (parts_of c.add_slots.new.self) (parts_of c.add_list_spans.new.body)
    c.args.is_little_endian node.data_type node.validity (option_copied c.as_ref.result) (spans_in node.offsets) node.values.value
    (list_width node.offsets) c.args.first c.args.count c.as_ref.ensures.value
    (lists_width node.data_type node.offsets c.requires.whole.fits) c.in_ok-add_slots.ensures c.add_list_spans.ensures

pub returns-clause-items : goal.returns-clause-items
returns-clause-items c =
    let node = c.args.node.now in
    let spans = spans_in node.offsets in
    spans_within c.add_list_spans.result (parts_of c.add_slots.new.self) (parts_of c.add_list_spans.new.body) c.args.is_little_endian
    (list_width node.offsets) spans c.args.first c.args.count _ c.add_list_spans.ensures
    (lists_end node.data_type node.validity spans node.values.value c.requires.whole.sound)
