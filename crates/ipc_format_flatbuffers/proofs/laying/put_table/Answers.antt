use Rattle.std.proofs.Common.{◌-◌, ◌++◌, map, refl, ap, ◌∙◌}
use Rattle.std.proofs.lemmas.Result.{on_ok_weaker}
use Rattle.ipc_format_flatbuffers.specs.Views.{slot_view}
use Rattle.ipc_format_flatbuffers.proofs.Slots.{table_written}
use Rattle.ipc_format_flatbuffers.proofs.laying.put_table.Goals as goal

pub returns : goal.returns
returns c =
    let table_len = c.next_multiple_of-table_len.result in
    let first = c.in_ok-extend_from_slice.ensures.items ∙ ap (λ bytes. c.args.out.now.items ++ bytes) c.to_le_bytes.ensures in
    on_ok_weaker c.put_zeros.result
    (λ last. table_written (map slot_view c.args.slots.now) c.args.vtable_len c.args.end table_len
    (table_len - c.args.end) c.args.out.now.items c.extend_from_slice.new.self.items c.put_fields.new.out.items c.put_zeros.new.out.items
    c.requires.vtable c.requires.end c.next_multiple_of-table_len.ensures.value refl first c.in_ok-put_fields.ensures last) c.put_zeros.ensures
