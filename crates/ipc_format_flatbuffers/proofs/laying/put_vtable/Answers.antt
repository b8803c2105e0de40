use Rattle.std.proofs.Common.{◌-◌, ◌+◌, ◌*◌, ◌++◌, length, map, ap, ◌∙◌}
use Rattle.std.specs.Int.{w16, to_le_bytes}
use Rattle.std.proofs.lemmas.List.{length-map}
use Rattle.std.proofs.lemmas.Result.{on_ok_weaker}
use Rattle.ipc_format_flatbuffers.specs.Views.{slot_view}
use Rattle.ipc_format_flatbuffers.proofs.Slots.{vtable_written}
use Rattle.ipc_format_flatbuffers.proofs.laying.put_vtable.Goals as goal

pub returns : goal.returns
returns c =
    let n = 4 + 2 * length c.args.slots.now in
    let first = c.in_ok-extend_from_slice.ensures.items ∙ ap (λ bytes. c.args.out.now.items ++ bytes) c.to_le_bytes.ensures in
    let second = c.in_ok-extend_from_slice-2.ensures.items ∙ ap (λ bytes. c.extend_from_slice.new.self.items ++ bytes)
    (c.to_le_bytes-2.ensures ∙ ap (to_le_bytes w16) c.requires.end) in
    on_ok_weaker c.put_zeros.result
    (λ last. vtable_written (map slot_view c.args.slots.now) n (c.next_multiple_of.result - n) c.args.out.now.items
    c.extend_from_slice.new.self.items c.extend_from_slice-2.new.self.items c.put_entries.new.out.items c.put_zeros.new.out.items
    (simp length-map) (ap (λ k. k - n) c.next_multiple_of.ensures.value) first second c.in_ok-put_entries.ensures last) c.put_zeros.ensures
