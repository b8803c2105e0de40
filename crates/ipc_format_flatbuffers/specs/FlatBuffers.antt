-- FlatBuffers by address (FlatBuffers, "Internals": tables, vtables, references, vectors, strings).
-- Each word reads the bytes of one message at a place counted from its first byte. It gives nothing where a rule of the format is broken.
use Rattle.std.specs.Prelude.{ℕ, ◌+◌, ◌-◌, ◌*◌, ◌%◌, Bool, ◌&&◌, ◌==◌, nat_le, List, length, Option, Some, None, ℤ, pos, negsuc, if◌then◌else◌}
use Rattle.std.specs.Int.{Width, w8, w16, w32, byte_len, from_le_bytes, cast_signed}
use Rattle.std.specs.Str.{is_utf8}
use Rattle.ipc_format_flatbuffers.specs.Reading.{◌>>=◌, guard, window_at}

-- the number of a width at a place: its bytes stand with the lowest first
unfoldable pub number_at : Width → List ℕ → ℕ → Option ℕ
number_at w bytes place = do
  part ← window_at bytes place (byte_len w)
  Some (from_le_bytes w part)

-- the same of a signed width, in two's complement
unfoldable pub signed_at : Width → List ℕ → ℕ → Option ℤ
signed_at w bytes place = do
  n ← number_at w bytes place
  Some (cast_signed w n)

-- a table: its place, its vtable's place, the vtable's size in bytes, and the table's own size
pub record TablePlace : Type 0 where
  pub place : ℕ
  pub vtable : ℕ
  pub vtable_size : ℕ
  pub table_size : ℕ

-- the place that a signed number counts back to, where it lies within the message's size
abbrev pub before : ℕ → ℕ → ℤ → Option ℕ
before size place (pos n) = if nat_le n place then Some (place - n) else None
before size place (negsuc n) = if nat_le (place + (n + 1)) size then Some (place + (n + 1)) else None

-- A table begins with a signed number, by which its vtable stands before it. A vtable begins with its own size, which is even and
-- at least 4, and the table's size, which is at least 4. Both lie in the message.
unfoldable pub table_at : List ℕ → ℕ → Option TablePlace
table_at bytes place = do
  back ← signed_at w32 bytes place
  vtable ← before (length bytes) place back
  vtable_size ← number_at w16 bytes vtable
  table_size ← number_at w16 bytes (vtable + 2)
  _ ← guard (nat_le 4 vtable_size && (vtable_size % 2 == 0) && nat_le (vtable + vtable_size) (length bytes))
  _ ← guard (nat_le 4 table_size && nat_le (place + table_size) (length bytes))
  Some (record { place = place; vtable = vtable; vtable_size = vtable_size; table_size = table_size })

-- Where a table's field of some bytes stands. The vtable's entry for the slot is counted from the table's place; an entry past the
-- vtable, or 0, says that the field is absent (Some None). A field begins behind the table's first four bytes and lies in the table.
unfoldable pub field_at : List ℕ → TablePlace → ℕ → ℕ → Option (Option ℕ)
field_at bytes table slot width =
    if nat_le (4 + 2 * slot + 2) table.vtable_size then (do
      entry ← number_at w16 bytes (table.vtable + 4 + 2 * slot)
      if entry == 0 then Some None else (do
        _ ← guard (nat_le 4 entry && nat_le (entry + width) table.table_size)
        Some (Some (table.place + entry))))
    else Some None

-- what stands in a field, or the given value where it is absent
abbrev pub or_default : {A : Type 0} → A → (ℕ → Option A) → Option ℕ → Option A
or_default value read None = Some value
or_default value read (Some place) = read place

-- the same without a value for an absent field
abbrev pub if_present : {A : Type 0} → (ℕ → Option A) → Option ℕ → Option (Option A)
if_present read None = Some None
if_present read (Some place) = do
  x ← read place
  Some (Some x)

-- the unsigned number of a field
unfoldable pub number_field : Width → List ℕ → TablePlace → ℕ → ℕ → Option ℕ
number_field w bytes table slot absent = do
  field ← field_at bytes table slot (byte_len w)
  or_default absent (number_at w bytes) field

-- the signed number of a field
unfoldable pub signed_field : Width → List ℕ → TablePlace → ℕ → ℤ → Option ℤ
signed_field w bytes table slot absent = do
  field ← field_at bytes table slot (byte_len w)
  or_default absent (signed_at w bytes) field

-- the truth value of a field: any byte but 0 is true, and an absent field is false
unfoldable pub truth_field : List ℕ → TablePlace → ℕ → Option Bool
truth_field bytes table slot = do
  n ← number_field w8 bytes table slot 0
  Some (nat_le 1 n)

-- where a reference points, in the message: an unsigned number counted from the reference's own place
unfoldable pub reference_at : List ℕ → ℕ → Option ℕ
reference_at bytes place = do
  distance ← number_at w32 bytes place
  if nat_le (place + distance) (length bytes) then Some (place + distance) else None

-- where the reference of a field points
unfoldable pub reference_field : List ℕ → TablePlace → ℕ → Option (Option ℕ)
reference_field bytes table slot = do
  field ← field_at bytes table slot 4
  if_present (reference_at bytes) field

-- the table that a field refers to
unfoldable pub table_field : List ℕ → TablePlace → ℕ → Option (Option TablePlace)
table_field bytes table slot = do
  target ← reference_field bytes table slot
  if_present (table_at bytes) target

-- a vector: where its first element stands, and how many there are
pub record Vector : Type 0 where
  pub place : ℕ
  pub count : ℕ

-- a vector whose elements have a width: a count, and that many elements, in the message
unfoldable pub vector_at : List ℕ → ℕ → ℕ → Option Vector
vector_at bytes width place = do
  count ← number_at w32 bytes place
  _ ← guard (nat_le (place + 4 + count * width) (length bytes))
  Some (record { place = place + 4; count = count })

-- the vector that a field refers to
unfoldable pub vector_field : List ℕ → TablePlace → ℕ → ℕ → Option (Option Vector)
vector_field bytes table slot width = do
  target ← reference_field bytes table slot
  if_present (vector_at bytes width) target

-- a string: a count of bytes, and that many bytes of UTF-8, in the message; the zero behind them isn't looked at
unfoldable pub text_at : List ℕ → ℕ → Option (List ℕ)
text_at bytes place = do
  count ← number_at w32 bytes place
  text ← window_at bytes (place + 4) count
  _ ← guard (is_utf8 text)
  Some text

-- the string that a field refers to
unfoldable pub string_field : List ℕ → TablePlace → ℕ → Option (Option (List ℕ))
string_field bytes table slot = do
  target ← reference_field bytes table slot
  if_present (text_at bytes) target

-- the table that stands at place k of a vector of references
unfoldable pub element_at : List ℕ → Vector → ℕ → Option TablePlace
element_at bytes vector k = do
  target ← reference_at bytes (vector.place + 4 * k)
  table_at bytes target

-- the root of a message: the table to which its first four bytes refer
unfoldable pub root_of : List ℕ → Option TablePlace
root_of bytes = do
  target ← reference_at bytes 0
  table_at bytes target
