-- Cells without what stands inside them.
use Rattle.std.specs.Prelude.{◌≡◌, Bool, true, false}
use Rattle.std.specs.Str.{is_utf8}
use Rattle.nested_arrays_core.specs.arrays.columns.Slots.{Slot, null, truth, text, bytes, items, fields}
use Rattle.nested_arrays_builder_parts.specs.AnyNumbers.{slot_of_number}
use Rattle.nested_arrays_builder_parts.specs.declared.parts.CellPart.{CellPart}
use Rattle.nested_arrays_builder_parts.specs.declared.parts.CellPart.TheVariants as variant

-- whether other slots stand in a slot
abbrev pub is_nested : Slot → Bool
is_nested (items slots) = true
is_nested (fields slots) = true
is_nested _ = false

-- the part of a slot's cell
abbrev pub IsPart : Slot → CellPart → Type 0
IsPart slot variant.Null = slot ≡ null
IsPart slot (variant.Truth b) = slot ≡ truth b
IsPart slot (variant.Number n) = slot ≡ slot_of_number n
IsPart slot (variant.Text content) = (slot ≡ text content.now) × (is_utf8 content.now ≡ true)
IsPart slot (variant.Bytes content) = slot ≡ bytes content.now
IsPart slot variant.Nested = is_nested slot ≡ true
