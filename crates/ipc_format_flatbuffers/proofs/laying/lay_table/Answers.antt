use Rattle.std.proofs.Common.{length, map, ap, ◌∙◌, arith}
use Rattle.std.proofs.lemmas.List.{length-map}
use Rattle.ipc_format_flatbuffers.specs.Laying.{Piece}
use Rattle.ipc_format_flatbuffers.specs.Views.{slot_view}
use Rattle.ipc_format_flatbuffers.proofs.Slots.{length-vtable, length-table_piece, table_laid}
use Rattle.ipc_format_flatbuffers.proofs.laying.lay_table.Goals as goal

pub returns-then-len-gt-MOST_BYTES : goal.returns-then-len-gt-MOST_BYTES
returns-then-len-gt-MOST_BYTES c =
    let slots = map slot_view c.args.slots.now in
    let vtable_is =
    c.next_multiple_of-vtable_len.ensures.value ∙ length-vtable slots (length c.args.slots.now) (length-map c.args.slots.now slot_view) in
    omega (
      arith,
      length-table_piece slots c.next_multiple_of-vtable_len.result c.end_of-end.result c.next_multiple_of.result c.children_len.result
          vtable_is c.end_of-end.ensures.value c.next_multiple_of.ensures.value c.children_len.ensures.value,
    )

pub put_table-requires-clause-vtable : goal.put_table-requires-clause-vtable
put_table-requires-clause-vtable c = c.next_multiple_of-vtable_len.ensures.value
    ∙ length-vtable (map slot_view c.args.slots.now) (length c.args.slots.now) (length-map c.args.slots.now slot_view)

pub invariant_of-result : goal.invariant_of-result
invariant_of-result c =
    let slots = map slot_view c.args.slots.now in
    let vtable_is =
    c.next_multiple_of-vtable_len.ensures.value ∙ length-vtable slots (length c.args.slots.now) (length-map c.args.slots.now slot_view) in
    let made = table_laid slots c.next_multiple_of-vtable_len.result c.in_ok-bytes.bytes.items c.put_vtable.new.out.items c.put_table.new.out.items
    c.put_children.new.out.items vtable_is c.in_ok-bytes.ensures.items c.in_ok-put_vtable.ensures c.in_ok-put_table.ensures
    c.in_ok-put_children.ensures in
    let size = ap (λ (piece : Piece). length piece.bytes) made
    ∙ length-table_piece slots c.next_multiple_of-vtable_len.result c.end_of-end.result c.next_multiple_of.result c.children_len.result vtable_is
    c.end_of-end.ensures.value c.next_multiple_of.ensures.value c.children_len.ensures.value in
    record { bytes_in_reach = omega (arith, size); entry_in_bytes = omega (arith, size) }

pub returns : goal.returns
returns c =
    let slots = map slot_view c.args.slots.now in
    let vtable_is =
    c.next_multiple_of-vtable_len.ensures.value ∙ length-vtable slots (length c.args.slots.now) (length-map c.args.slots.now slot_view) in
    table_laid slots c.next_multiple_of-vtable_len.result c.in_ok-bytes.bytes.items c.put_vtable.new.out.items c.put_table.new.out.items
    c.put_children.new.out.items vtable_is c.in_ok-bytes.ensures.items c.in_ok-put_vtable.ensures c.in_ok-put_table.ensures
    c.in_ok-put_children.ensures
