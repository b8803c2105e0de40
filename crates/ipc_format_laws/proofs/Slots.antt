-- The slots of a table one after the other, where they stand.
use Rattle.std.proofs.Common.{◌≡◌, ℕ, ◌+◌, ◌-◌, ◌*◌, ◌≤◌, ◌<◌, ◌^◌, List, [], ◌∷◌, ◌++◌, length, replicate, refl, arith}
use Rattle.std.specs.Prelude.{Some}
use Rattle.std.specs.List.{flat_map}
use Rattle.std.specs.Int.{Width, w16, w32, byte_len, to_le_bytes}
use Rattle.std.proofs.lemmas.List.{length-replicate}
use Rattle.ipc_format_grammar.specs.flatbuffers.FlatBuffers.{TablePlace, number_at, field_at, reference_at}
use Rattle.ipc_format_grammar.specs.flatbuffers.Laying.{TableSlot, absent, number, refers, Piece, after, entry_of, table_end, entries, field_start}
use Rattle.ipc_format_grammar.specs.flatbuffers.Laying.{field_bytes}
use Rattle.ipc_format_grammar.specs.flatbuffers.Laying.{child_bytes, fields}
use Rattle.ipc_format_grammar.proofs.flatbuffers_lemmas.Numbers.{length-to_le_bytes}
use Rattle.ipc_format_grammar.proofs.flatbuffers_lemmas.Slots.{length-field_bytes, table_end_after}
use Rattle.ipc_format_laws.specs.Spelling.{SpellsAbsent, SpellsNumber, SpellsReference}
use Rattle.ipc_format_laws.specs.Theorem.{FitsWidth}
use Rattle.ipc_format_laws.proofs.Places.{Stands, front, back, ends_within}
use Rattle.ipc_format_laws.proofs.ByAddress.{number_stands, past_the_vtable, absent_slot, present_slot, reference_stands}
use Rattle.ipc_format_laws.proofs.ByAddress.{reference_field_stands}

-- the slots from one on stand in their table: entries in the vtable, fields in the table, and what they refer to behind it
pub record SlotsStand (bytes : List ℕ) (found : TablePlace) (slot at child : ℕ) (slots : List TableSlot) : Type 0 where
  pub vtable : Stands bytes (found.vtable + 4 + 2 * slot) (entries at slots)
  pub own : Stands bytes (found.place + at) (fields at child slots)
  pub children : Stands bytes (found.place + child) (flat_map child_bytes slots)
  pub vtable_size : found.vtable_size ≡ 4 + 2 * (slot + length slots)
  pub table_size : found.table_size ≡ table_end at slots
  pub least : 4 ≤ at
  pub below : table_end at slots ≤ child
  pub small : found.table_size < 2 ^ 16

-- the slots behind the first
pub slots_next : {bytes : List ℕ} {found : TablePlace} {slot at child : ℕ} {s : TableSlot} {slots : List TableSlot}
    → SlotsStand bytes found slot at child (s ∷ slots) → SlotsStand bytes found (slot + 1) (after at s) (child + length (child_bytes s)) slots
slots_next {bytes} {found} {slot} {at} {child} {s} {slots} h =
    let rest = child + length (child_bytes s) in
    let entry = to_le_bytes w16 (entry_of at s) in
    let own = field_bytes at child s in
    let ends : at + length own ≡ after at s = length-field_bytes at child s in
    record {
      vtable = back entry (entries (after at s) slots) (found.vtable + 4 + 2 * (slot + 1)) refl
          (omega (arith, length-to_le_bytes w16 (entry_of at s))) h.vtable;
      own = back own (fields (after at s) rest slots) (found.place + after at s) refl (omega arith) h.own;
      children = back (child_bytes s) (flat_map child_bytes slots) (found.place + rest) refl (omega arith) h.children;
      vtable_size = omega (arith, h.vtable_size);
      table_size = h.table_size;
      least = omega (arith, h.least);
      below = omega (arith, h.below);
      small = h.small;
    }

-- the entry of the first slot
entry_stands : {bytes : List ℕ} {found : TablePlace} {slot at child : ℕ} {s : TableSlot} {slots : List TableSlot}
    → SlotsStand bytes found slot at child (s ∷ slots) → entry_of at s < 2 ^ 16
    → number_at w16 bytes (found.vtable + 4 + 2 * slot) ≡ Some (entry_of at s)
entry_stands {at} {s} {slots} h small = number_stands w16 (entry_of at s) small
    (front (to_le_bytes w16 (entry_of at s)) (entries (after at s) slots) refl h.vtable)

-- no slots are left
pub no_slot : {bytes : List ℕ} {found : TablePlace} {slot at child : ℕ} → SlotsStand bytes found slot at child [] → (k : ℕ) → slot ≤ k
    → SpellsAbsent bytes found k
no_slot {bytes} {found} {slot} h k past = record {
  is_absent = λ (width : ℕ). past_the_vtable bytes found slot k width
      (omega (arith, h.vtable_size)) past;
}

-- an absent slot
pub absent_stands : {bytes : List ℕ} {found : TablePlace} {slot at child : ℕ} {slots : List TableSlot}
    → SlotsStand bytes found slot at child (absent ∷ slots)
    → SpellsAbsent bytes found slot
absent_stands {bytes} {found} {slot} {at} {slots} h =
    let inside : 4 + 2 * slot + 2 ≤ found.vtable_size = omega (arith, h.vtable_size) in
    record { is_absent = λ (width : ℕ). absent_slot bytes found slot width inside (entry_stands h (omega arith)) }

-- a field of some bytes that ends in its table
field_stands : {bytes : List ℕ} {found : TablePlace} {slot at child : ℕ} {s : TableSlot} {slots : List TableSlot} (width : ℕ)
    → SlotsStand bytes found slot at child (s ∷ slots) → 4 ≤ entry_of at s
    → entry_of at s + width ≡ after at s → field_at bytes found slot width ≡ Some (Some (found.place + entry_of at s))
field_stands {bytes} {found} {slot} {at} {child} {s} {slots} width h least end =
    let inside : 4 + 2 * slot + 2 ≤ found.vtable_size = omega (arith, h.vtable_size) in
    let within : entry_of at s + width ≤ found.table_size = omega (arith, h.table_size, table_end_after (after at s) slots) in
    present_slot bytes found slot width (entry_of at s) inside (entry_stands h (omega (arith, h.small))) least within

-- a number
pub number_field_stands : {bytes : List ℕ} {found : TablePlace} {slot at child : ℕ} (w : Width) (n : ℕ) {slots : List TableSlot} → FitsWidth w n
    → SlotsStand bytes found slot at child (number w n ∷ slots) → SpellsNumber bytes found slot w n
number_field_stands {bytes} {found} {slot} {at} {child} w n {slots} fits h =
    let begin = field_start at w in
    let zeros = replicate {A = ℕ} (begin - at) 0 in
    let written = to_le_bytes w n in
    let whole = front (zeros ++ written) (fields (after at (number w n)) (child + 0) slots) refl h.own in
    let alone : Stands bytes (found.place + begin) written = back zeros written (found.place + begin) refl
    (omega (arith, length-replicate {A = ℕ} (begin - at) 0)) whole in
    record { place = found.place + begin; stands = field_stands (byte_len w) h (omega (arith, h.least)) refl; holds = number_stands w n fits alone }

-- a reference, where its object is spelled at its place
pub reference_slot_stands : {bytes : List ℕ} {found : TablePlace} {slot at child : ℕ} (piece : Piece) {slots : List TableSlot} (Target : ℕ → Type 0)
    → piece.entry ≤ length piece.bytes → length bytes < 2 ^ 32 → SlotsStand bytes found slot at child (refers piece ∷ slots)
    → Target (found.place + child + piece.entry) → SpellsReference bytes found slot Target
reference_slot_stands {bytes} {found} {slot} {at} {child} piece {slots} Target entry-inside short h target =
    let begin = field_start at w32 in
    let distance = child + piece.entry - begin in
    let zeros = replicate {A = ℕ} (begin - at) 0 in
    let written = to_le_bytes w32 distance in
    let whole = front (zeros ++ written) (fields (after at (refers piece)) (child + length piece.bytes) slots) refl h.own in
    let alone : Stands bytes (found.place + begin) written = back zeros written (found.place + begin) refl
    (omega (arith, length-replicate {A = ℕ} (begin - at) 0)) whole in
    let object : Stands bytes (found.place + child) piece.bytes = front piece.bytes (flat_map child_bytes slots) refl h.children in
    let ends : found.place + child + length piece.bytes ≤ length bytes = ends_within object in
    let before : begin + 4 ≤ child = omega (arith, h.below, table_end_after (after at (refers piece)) slots) in
    let small : distance < 2 ^ 32 = omega arith in
    let points : reference_at bytes (found.place + begin) ≡ Some (found.place + child + piece.entry) =
    reference_stands bytes (found.place + begin) distance (found.place + child + piece.entry) (number_stands w32 distance small alone) (omega arith)
    (omega arith) in
    record {
      place = found.place + child + piece.entry;
      stands = reference_field_stands bytes found slot (found.place + begin) (found.place + child + piece.entry)
          (field_stands 4 h (omega (arith, h.least)) refl) points;
      target = target;
    }
