-- A push, and taking the last slot off again; slots that came together.
use Rattle.std.proofs.Common.{◌≡◌, ℕ, ◌-◌, ◌≤◌, List, [], ◌∷◌, length, take, ap, ◌∙◌, arith}
use Rattle.std.proofs.Math.Seq.{take-append_seam}
use Rattle.std.specs.Prelude.{Option}
use Rattle.flat_arrays_bytes.proofs.Slots.{length_slots}
use Rattle.flat_arrays_bytes.specs.ByteStrings.{ByteStrings, len_of, slots_of}
use Rattle.flat_arrays_byte_values_builders.proofs.Growth.{IsFilled-with_slot, len_of-with_slot, slots_of-first_slots, slots_of-joined}
use Rattle.flat_arrays_byte_values_builders.proofs.Growth.{slots_of-trimmed, slots_of-with_slot, slots_of-with_slots}
use Rattle.flat_arrays_byte_values_builders.specs.Growing.{IsFilled, with_slot, without_last}
use Rattle.flat_arrays_byte_values_builders.specs.PushLaws.{PushesAdd, SlotsJoin}

undone : (a : ByteStrings) (slot : Option (List ℕ)) → IsFilled a → slots_of (without_last (with_slot a slot)) ≡ slots_of a
undone a slot h =
    let b = with_slot a slot in
    let count : len_of b - 1 ≡ length (slots_of a) = omega (arith, len_of-with_slot a slot, length_slots a h.masked) in
    let less : len_of b - 1 ≤ len_of b = omega arith in
    slots_of-first_slots b (len_of b - 1) less (IsFilled-with_slot a slot h)
    ∙ ap (λ n. take n (slots_of b)) count ∙ ap (take (length (slots_of a))) (slots_of-with_slot a slot h)
    ∙ take-append_seam (slots_of a) (slot ∷ [])

pub pushes_add : PushesAdd
pushes_add = record { added = slots_of-with_slot; undone = undone }

pub slots_join : SlotsJoin
slots_join = record { many = slots_of-with_slots; behind = slots_of-joined; kept = slots_of-trimmed }
