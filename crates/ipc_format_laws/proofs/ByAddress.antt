-- What the readers by address answer where a part stands.
use Rattle.std.proofs.Common.{◌≡◌, ℕ, ◌+◌, ◌-◌, ◌*◌, ◌%◌, ◌≤◌, ◌<◌, ◌^◌, ◌==◌, List, length, refl, ap, arith, true, false, pos}
use Rattle.std.specs.Prelude.{Some, None, nat_le}
use Rattle.std.specs.Int.{Width, w8, w16, w32, w64, w128, byte_len, to_le_bytes, from_le_bytes, cast_signed}
use Rattle.std.proofs.lemmas.Nat.{from_le_bytes-to_le_bytes_2, from_le_bytes-to_le_bytes_4, from_le_bytes-to_le_bytes_8}
use Rattle.std.proofs.lemmas.Int.{to_z_pos}
use Rattle.std.proofs.lemmas.Bool.{le-leb, lt-leb, ne_eqb}
use Rattle.std.specs.Str.{is_utf8}
use Rattle.ipc_format_grammar.specs.flatbuffers.Reading.{window_at}
use Rattle.ipc_format_grammar.specs.flatbuffers.FlatBuffers.{TablePlace, number_at, signed_at, table_at, field_at, reference_at, reference_field}
use Rattle.ipc_format_grammar.specs.flatbuffers.FlatBuffers.{vector_at}
use Rattle.ipc_format_grammar.specs.flatbuffers.FlatBuffers.{text_at}
use Rattle.ipc_format_laws.specs.Theorem.{FitsWidth}
use Rattle.ipc_format_laws.proofs.Places.{Stands, window_stands}

byte_back : (n : ℕ) → n < 2 ^ 8 → from_le_bytes w8 (to_le_bytes w8 n) ≡ n
byte_back n h = omega arith

back_from : (w : Width) (n : ℕ) → FitsWidth w n → from_le_bytes w (to_le_bytes w n) ≡ n
back_from w8 n h = byte_back n h
back_from w16 n h = from_le_bytes-to_le_bytes_2 n h
back_from w32 n h = from_le_bytes-to_le_bytes_4 n h
back_from w64 n h = from_le_bytes-to_le_bytes_8 n h
back_from w128 n h = absurd h

whole_width : (w : Width) (n : ℕ) → byte_len w ≡ length (to_le_bytes w n)
whole_width w8 n = refl
whole_width w16 n = refl
whole_width w32 n = refl
whole_width w64 n = refl
whole_width w128 n = refl

-- a number
pub number_stands : {bytes : List ℕ} {place : ℕ} (w : Width) (n : ℕ) → FitsWidth w n → Stands bytes place (to_le_bytes w n)
    → number_at w bytes place ≡ Some n
unfolding number_at
number_stands w n fits s = rw (window_stands (byte_len w) (whole_width w n) s) (ap Some (back_from w n fits))

-- a table
pub table_stands : (bytes : List ℕ) (start place count end distance : ℕ) → 4 + 2 * count < 2 ^ 16 → 4 ≤ end → end < 2 ^ 16 → distance < 2 ^ 31
    → place ≡ start + distance → start + (4 + 2 * count) ≤ length bytes → place + end ≤ length bytes
    → number_at w16 bytes start ≡ Some (4 + 2 * count) → number_at w16 bytes (start + 2) ≡ Some end → number_at w32 bytes place ≡ Some distance
    → table_at bytes place ≡ Some (record { place = place; vtable = start; vtable_size = 4 + 2 * count; table_size = end })
unfolding table_at signed_at
table_stands bytes start place count end distance small least reach near place-is inside table-inside size-is end-is back-is =
    let back-pos : cast_signed w32 distance ≡ pos distance = to_z_pos w32 distance near in
    let le-place : nat_le distance place ≡ true = le-leb distance place (omega arith) in
    let start-is : place - distance ≡ start = omega arith in
    let vtable-least : nat_le 4 (4 + 2 * count) ≡ true = le-leb 4 (4 + 2 * count) (omega arith) in
    let rest : (4 + 2 * count) % 2 ≡ 0 = omega arith in
    let even : ((4 + 2 * count) % 2 == 0) ≡ true = ap (λ (k : ℕ). k == 0) rest in
    let vtable-inside : nat_le (start + (4 + 2 * count)) (length bytes) ≡ true = le-leb (start + (4 + 2 * count)) (length bytes) inside in
    let end-least : nat_le 4 end ≡ true = le-leb 4 end least in
    let end-inside : nat_le (place + end) (length bytes) ≡ true = le-leb (place + end) (length bytes) table-inside in
    rw (back-is, back-pos, le-place, start-is, size-is, end-is, vtable-least, even, vtable-inside, end-least, end-inside) refl

-- a slot past the end of the vtable
pub past_the_vtable : (bytes : List ℕ) (found : TablePlace) (count slot width : ℕ) → found.vtable_size ≡ 4 + 2 * count → count ≤ slot
    → field_at bytes found slot width ≡ Some None
unfolding field_at
past_the_vtable bytes found count slot width size-is past =
    let outside : nat_le (4 + 2 * slot + 2) found.vtable_size ≡ false = lt-leb (4 + 2 * slot + 2) found.vtable_size (omega arith) in
    rw outside refl

-- a slot whose entry is 0
pub absent_slot : (bytes : List ℕ) (found : TablePlace) (slot width : ℕ) → 4 + 2 * slot + 2 ≤ found.vtable_size
    → number_at w16 bytes (found.vtable + 4 + 2 * slot) ≡ Some 0 → field_at bytes found slot width ≡ Some None
unfolding field_at
absent_slot bytes found slot width within entry-is =
    let inside : nat_le (4 + 2 * slot + 2) found.vtable_size ≡ true = le-leb (4 + 2 * slot + 2) found.vtable_size within in
    rw (inside, entry-is) refl

-- a slot with a field
pub present_slot : (bytes : List ℕ) (found : TablePlace) (slot width entry : ℕ) → 4 + 2 * slot + 2 ≤ found.vtable_size
    → number_at w16 bytes (found.vtable + 4 + 2 * slot) ≡ Some entry → 4 ≤ entry → entry + width ≤ found.table_size
    → field_at bytes found slot width ≡ Some (Some (found.place + entry))
unfolding field_at
present_slot bytes found slot width entry within entry-is least end =
    let inside : nat_le (4 + 2 * slot + 2) found.vtable_size ≡ true = le-leb (4 + 2 * slot + 2) found.vtable_size within in
    let some : (entry == 0) ≡ false = ne_eqb entry 0 (λ (e : entry ≡ 0). omega arith) in
    let entry-least : nat_le 4 entry ≡ true = le-leb 4 entry least in
    let entry-inside : nat_le (entry + width) found.table_size ≡ true = le-leb (entry + width) found.table_size end in
    rw (inside, entry-is, some, entry-least, entry-inside) refl

-- a reference
pub reference_stands : (bytes : List ℕ) (place distance target : ℕ) → number_at w32 bytes place ≡ Some distance → place + distance ≡ target
    → target ≤ length bytes → reference_at bytes place ≡ Some target
unfolding reference_at
reference_stands bytes place distance target distance-is target-is within =
    let inside : nat_le target (length bytes) ≡ true = le-leb target (length bytes) within in
    rw (distance-is, target-is, inside) refl

-- a field that refers
pub reference_field_stands : (bytes : List ℕ) (found : TablePlace) (slot place target : ℕ) → field_at bytes found slot 4 ≡ Some (Some place)
    → reference_at bytes place ≡ Some target → reference_field bytes found slot ≡ Some (Some target)
unfolding reference_field
reference_field_stands bytes found slot place target field-is target-is = rw (field-is, target-is) refl

-- a vector
pub vector_stands : (bytes : List ℕ) (width place count : ℕ) → number_at w32 bytes place ≡ Some count → place + 4 + count * width ≤ length bytes
    → vector_at bytes width place ≡ Some (record { place = place + 4; count = count })
unfolding vector_at
vector_stands bytes width place count count-is within =
    let inside : nat_le (place + 4 + count * width) (length bytes) ≡ true = le-leb (place + 4 + count * width) (length bytes) within in
    rw (count-is, inside) refl

-- a string
pub string_stands : (bytes : List ℕ) (place : ℕ) (content : List ℕ) → number_at w32 bytes place ≡ Some (length content)
    → window_at bytes (place + 4) (length content) ≡ Some content → is_utf8 content ≡ true → text_at bytes place ≡ Some content
unfolding text_at
string_stands bytes place content count-is window-is text-is = rw (count-is, window-is, text-is) refl
