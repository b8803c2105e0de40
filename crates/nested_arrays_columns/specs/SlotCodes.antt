-- A code for slots, by which proofs tell them apart: a slot's own part before those of the slots inside it.
use Rattle.std.specs.Prelude.{◌≡◌, ℕ, zero, suc, ℤ, pos, Bool, false, List, [], ◌∷◌, drop}
use Rattle.std.proofs.Common.{refl, ap, ◌∙◌}
use Rattle.std.specs.Coded.{Coded, code_by, coded×, coded_list, coded_ℕ, coded_ℤ, coded_bool}
use Rattle.columnar_memory_core.specs.declared.DataType.{DataType}
use Rattle.columnar_memory_core.specs.declared.DataType.TheVariants as types
use Rattle.columnar_memory_core.specs.contracts.DataType as data_type
use Rattle.columnar_memory_core.specs.declared.PrimitiveType.{PrimitiveType}
use Rattle.columnar_memory_core.specs.declared.PrimitiveType.TheVariants as kinds
use Rattle.columnar_memory_core.specs.contracts.PrimitiveType as primitive_type
use Rattle.nested_arrays_columns.specs.Slots.{Slot, Slots, null, truth, number, pair, triple, text, bytes, items, fields, pick, no_slot, slot_then}

-- which case a slot is and its kind, its truth value and type, its whole numbers, its bytes and how many slots stand in it
abbrev pub SlotPart : Type 0
SlotPart = (ℕ × PrimitiveType) × ((Bool × DataType) × ((ℤ × (ℤ × ℤ)) × (List ℕ × ℕ)))

abbrev pub coded_slot_part : Coded SlotPart
coded_slot_part = coded× (coded× coded_ℕ primitive_type.the_row.coded)
    (coded× (coded× coded_bool data_type.the_row.coded)
    (coded× (coded× coded_ℤ (coded× coded_ℤ coded_ℤ)) (coded× (coded_list coded_ℕ) coded_ℕ)))

abbrev pub no_numbers : ℤ × (ℤ × ℤ)
no_numbers = (pos 0, (pos 0, pos 0))

-- a part without bytes
abbrev pub number_part : ℕ → PrimitiveType → ℤ × (ℤ × ℤ) → SlotPart
number_part n kind numbers = ((n, kind), ((false, types.Null), (numbers, ([], 0))))

abbrev pub byte_part : ℕ → List ℕ → SlotPart
byte_part n content = ((n, kinds.Int8), ((false, types.Null), (no_numbers, (content, 0))))

abbrev pub nested_part : ℕ → DataType → ℕ → SlotPart
nested_part n data_type count = ((n, kinds.Int8), ((false, data_type), (no_numbers, ([], count))))

abbrev pub slots_count : Slots → ℕ
slots_count no_slot = 0
slots_count (slot_then slot slots) = suc (slots_count slots)

-- the parts of a slot before some others
abbrev mutual
  pub slot_parts_then : Slot → List SlotPart → List SlotPart
  slot_parts_then null others = number_part 0 kinds.Int8 no_numbers ∷ others
  slot_parts_then (truth b) others = ((1, kinds.Int8), ((b, types.Null), (no_numbers, ([], 0)))) ∷ others
  slot_parts_then (number kind n) others = number_part 2 kind (n, (pos 0, pos 0)) ∷ others
  slot_parts_then (pair kind a b) others = number_part 3 kind (a, (b, pos 0)) ∷ others
  slot_parts_then (triple kind a b c) others = number_part 4 kind (a, (b, c)) ∷ others
  slot_parts_then (text content) others = byte_part 5 content ∷ others
  slot_parts_then (bytes content) others = byte_part 6 content ∷ others
  slot_parts_then (items slots) others = nested_part 7 types.Null (slots_count slots) ∷ all_slot_parts_then slots others
  slot_parts_then (fields slots) others = nested_part 8 types.Null (slots_count slots) ∷ all_slot_parts_then slots others
  slot_parts_then (pick data_type slot) others = nested_part 9 data_type 1 ∷ slot_parts_then slot others

  pub all_slot_parts_then : Slots → List SlotPart → List SlotPart
  all_slot_parts_then no_slot others = others
  all_slot_parts_then (slot_then slot slots) others = slot_parts_then slot (all_slot_parts_then slots others)

-- the first so many slots
abbrev pub first_slots : ℕ → List Slot → Slots
first_slots zero slots = no_slot
first_slots (suc n) [] = no_slot
first_slots (suc n) (slot ∷ slots) = slot_then slot (first_slots n slots)

abbrev pub over_first_slot : (Slot → Slot) → List Slot → List Slot
over_first_slot make [] = []
over_first_slot make (slot ∷ slots) = make slot ∷ slots

-- the slot of a part, over the first of the slots of later parts
abbrev pub with_slot_part : ℕ → SlotPart → List Slot → List Slot
with_slot_part zero part slots = null ∷ slots
with_slot_part (suc zero) part slots = truth part.1.0.0 ∷ slots
with_slot_part (suc (suc zero)) part slots = number part.0.1 part.1.1.0.0 ∷ slots
with_slot_part (suc (suc (suc zero))) part slots = pair part.0.1 part.1.1.0.0 part.1.1.0.1.0 ∷ slots
with_slot_part (suc (suc (suc (suc zero)))) part slots = triple part.0.1 part.1.1.0.0 part.1.1.0.1.0 part.1.1.0.1.1 ∷ slots
with_slot_part (suc (suc (suc (suc (suc zero))))) part slots = text part.1.1.1.0 ∷ slots
with_slot_part (suc (suc (suc (suc (suc (suc zero)))))) part slots = bytes part.1.1.1.0 ∷ slots
with_slot_part (suc (suc (suc (suc (suc (suc (suc zero))))))) part slots = items (first_slots part.1.1.1.1 slots) ∷ drop part.1.1.1.1 slots
with_slot_part (suc (suc (suc (suc (suc (suc (suc (suc zero)))))))) part slots = fields (first_slots part.1.1.1.1 slots) ∷ drop part.1.1.1.1 slots
with_slot_part (suc (suc (suc (suc (suc (suc (suc (suc (suc n))))))))) part slots = over_first_slot (pick part.1.0.1) slots

abbrev pub slots_of_parts : List SlotPart → List Slot
slots_of_parts [] = []
slots_of_parts (part ∷ parts) = with_slot_part part.0.0 part (slots_of_parts parts)

abbrev pub slots_before : Slots → List Slot → List Slot
slots_before no_slot others = others
slots_before (slot_then slot slots) others = slot ∷ slots_before slots others

first_slots-before : (slots : Slots) (others : List Slot) → first_slots (slots_count slots) (slots_before slots others) ≡ slots
first_slots-before no_slot others = refl
first_slots-before (slot_then slot slots) others = ap (slot_then slot) (first_slots-before slots others)

drop_slots-before : (slots : Slots) (others : List Slot) → drop (slots_count slots) (slots_before slots others) ≡ others
drop_slots-before no_slot others = refl
drop_slots-before (slot_then slot slots) others = drop_slots-before slots others

-- inner slots, and the slots after them
inner_back : (make : Slots → Slot) (slots : Slots) (parts : List Slot) (others : List Slot) → parts ≡ slots_before slots others
    → make (first_slots (slots_count slots) parts) ∷ drop (slots_count slots) parts ≡ make slots ∷ others
inner_back make slots parts others e =
    ap (λ inner. make (first_slots (slots_count slots) inner) ∷ drop (slots_count slots) inner) e
    ∙ (λ i. make (first_slots-before slots others i) ∷ drop_slots-before slots others i)

mutual
  slots_of_slot_parts : (slot : Slot) (others : List SlotPart) → slots_of_parts (slot_parts_then slot others) ≡ slot ∷ slots_of_parts others
  slots_of_slot_parts null others = refl
  slots_of_slot_parts (truth b) others = refl
  slots_of_slot_parts (number kind n) others = refl
  slots_of_slot_parts (pair kind a b) others = refl
  slots_of_slot_parts (triple kind a b c) others = refl
  slots_of_slot_parts (text content) others = refl
  slots_of_slot_parts (bytes content) others = refl
  slots_of_slot_parts (items slots) others = inner_back items slots (slots_of_parts (all_slot_parts_then slots others)) (slots_of_parts others)
      (slots_of_all_slot_parts slots others)
  slots_of_slot_parts (fields slots) others = inner_back fields slots (slots_of_parts (all_slot_parts_then slots others)) (slots_of_parts others)
      (slots_of_all_slot_parts slots others)
  slots_of_slot_parts (pick data_type slot) others = ap (over_first_slot (pick data_type)) (slots_of_slot_parts slot others)

  slots_of_all_slot_parts : (slots : Slots) (others : List SlotPart)
      → slots_of_parts (all_slot_parts_then slots others) ≡ slots_before slots (slots_of_parts others)
  slots_of_all_slot_parts no_slot others = refl
  slots_of_all_slot_parts (slot_then slot slots) others =
      slots_of_slot_parts slot (all_slot_parts_then slots others) ∙ ap (λ rest. slot ∷ rest) (slots_of_all_slot_parts slots others)

abbrev pub slot_parts : Slot → List SlotPart
slot_parts slot = slot_parts_then slot []

abbrev pub first_slot_or_null : List Slot → Slot
first_slot_or_null [] = null
first_slot_or_null (slot ∷ slots) = slot

abbrev pub slot_of_parts : List SlotPart → Slot
slot_of_parts parts = first_slot_or_null (slots_of_parts parts)

pub slot_of_parts-slot_parts : (slot : Slot) → slot_of_parts (slot_parts slot) ≡ slot
slot_of_parts-slot_parts slot = ap first_slot_or_null (slots_of_slot_parts slot [])

abbrev pub slot_code : Coded Slot
slot_code = code_by (List SlotPart) (coded_list coded_slot_part) slot_parts slot_of_parts slot_of_parts-slot_parts
