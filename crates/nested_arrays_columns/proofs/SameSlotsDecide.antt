-- Two slots are the same exactly where they are equal.
use Rattle.std.proofs.Common.{◌≡◌, ℕ, zero, suc, refl, sym, ap, ◌∙◌, Bool, true, false}
use Rattle.std.specs.Prelude.{ℤ, ◌&&◌}
use Rattle.std.specs.Bool.{Decides}
use Rattle.std.specs.Ordering.{int_eq}
use Rattle.std.specs.Cmp.{unsigned_Decides, signed_Decides}
use Rattle.std.proofs.lemmas.Slice.Eq.{bytes_eq-Decides}
use Rattle.std.proofs.lemmas.Bool.{and_parts, false≢true}
use Rattle.columnar_memory_core.specs.Equality.{same_type, same_type-Decides}
use Rattle.columnar_memory_core.specs.declared.PrimitiveType.{PrimitiveType}
use Rattle.columnar_memory_core.specs.declared.PrimitiveType.TheVariants as kinds
use Rattle.nested_arrays_columns.specs.Kinds.{kind_number, same_kind}
use Rattle.nested_arrays_columns.specs.Slots.{Slot, Slots, null, truth, number, pair, triple, text, bytes, items, fields, pick, no_slot, slot_then}
use Rattle.nested_arrays_columns.specs.SameSlots.{same_truth, same_slot, same_slots}
use Rattle.nested_arrays_columns.specs.SlotLaws.{SamenessDecides}
use Rattle.nested_arrays_columns.proofs.Conditions.{parts_of_3, parts_of_4}

same_truth-implies : (a b : Bool) → same_truth a b ≡ true → a ≡ b
same_truth-implies true true h = refl
same_truth-implies true false h = sym h
same_truth-implies false true h = h
same_truth-implies false false h = refl

same_truth-itself : (a : Bool) → same_truth a a ≡ true
same_truth-itself true = refl
same_truth-itself false = refl

-- the kind of a number
abbrev kind_of : ℕ → PrimitiveType
kind_of zero = kinds.Int8
kind_of (suc zero) = kinds.Int16
kind_of (suc (suc zero)) = kinds.Int32
kind_of (suc (suc (suc zero))) = kinds.Int64
kind_of (suc (suc (suc (suc zero)))) = kinds.Int128
kind_of (suc (suc (suc (suc (suc zero))))) = kinds.Int256
kind_of (suc (suc (suc (suc (suc (suc zero)))))) = kinds.UInt8
kind_of (suc (suc (suc (suc (suc (suc (suc zero))))))) = kinds.UInt16
kind_of (suc (suc (suc (suc (suc (suc (suc (suc zero)))))))) = kinds.UInt32
kind_of (suc (suc (suc (suc (suc (suc (suc (suc (suc zero))))))))) = kinds.UInt64
kind_of (suc (suc (suc (suc (suc (suc (suc (suc (suc (suc zero)))))))))) = kinds.Float16
kind_of (suc (suc (suc (suc (suc (suc (suc (suc (suc (suc (suc zero))))))))))) = kinds.Float32
kind_of (suc (suc (suc (suc (suc (suc (suc (suc (suc (suc (suc (suc zero)))))))))))) = kinds.Float64
kind_of (suc (suc (suc (suc (suc (suc (suc (suc (suc (suc (suc (suc (suc zero))))))))))))) = kinds.DaysMs
kind_of (suc (suc (suc (suc (suc (suc (suc (suc (suc (suc (suc (suc (suc (suc n)))))))))))))) = kinds.MonthDayNano

kind_of-kind_number : (kind : PrimitiveType) → kind_of (kind_number kind) ≡ kind
kind_of-kind_number kinds.Int8 = refl
kind_of-kind_number kinds.Int16 = refl
kind_of-kind_number kinds.Int32 = refl
kind_of-kind_number kinds.Int64 = refl
kind_of-kind_number kinds.Int128 = refl
kind_of-kind_number kinds.Int256 = refl
kind_of-kind_number kinds.UInt8 = refl
kind_of-kind_number kinds.UInt16 = refl
kind_of-kind_number kinds.UInt32 = refl
kind_of-kind_number kinds.UInt64 = refl
kind_of-kind_number kinds.Float16 = refl
kind_of-kind_number kinds.Float32 = refl
kind_of-kind_number kinds.Float64 = refl
kind_of-kind_number kinds.DaysMs = refl
kind_of-kind_number kinds.MonthDayNano = refl

-- the same kinds are equal
pub same_kind-implies : (a b : PrimitiveType) → same_kind a b ≡ true → a ≡ b
same_kind-implies a b h = sym (kind_of-kind_number a) ∙ ap kind_of ((unsigned_Decides (kind_number a) (kind_number b)).0 h) ∙ kind_of-kind_number b

same_kind-itself : (a : PrimitiveType) → same_kind a a ≡ true
same_kind-itself a = (unsigned_Decides (kind_number a) (kind_number a)).1 refl

int_eq-itself : (a : ℤ) → int_eq a a ≡ true
int_eq-itself a = (signed_Decides a a).1 refl

mutual
  pub same_slot-implies : (a b : Slot) → same_slot a b ≡ true → a ≡ b
  same_slot-implies null null h = refl
  same_slot-implies (truth a) (truth b) h = ap truth (same_truth-implies a b h)
  same_slot-implies (number kind a) (number other b) h =
      let parts = and_parts (same_kind kind other) (int_eq a b) h in
      λ j. number (same_kind-implies kind other parts.0 j) ((signed_Decides a b).0 parts.1 j)
  same_slot-implies (pair kind a b) (pair other c d) h =
      let parts = parts_of_3 (same_kind kind other) (int_eq a c) (int_eq b d) h in
      λ j. pair (same_kind-implies kind other parts.0 j) ((signed_Decides a c).0 parts.1 j) ((signed_Decides b d).0 parts.2 j)
  same_slot-implies (triple kind a b c) (triple other d e f) h =
      let parts = parts_of_4 (same_kind kind other) (int_eq a d) (int_eq b e) (int_eq c f) h in
      λ j. triple (same_kind-implies kind other parts.0 j) ((signed_Decides a d).0 parts.1 j) ((signed_Decides b e).0 parts.2 j)
      ((signed_Decides c f).0 parts.3 j)
  same_slot-implies (text a) (text b) h = ap text ((bytes_eq-Decides a b).0 h)
  same_slot-implies (bytes a) (bytes b) h = ap bytes ((bytes_eq-Decides a b).0 h)
  same_slot-implies (items a) (items b) h = ap items (same_slots-implies a b h)
  same_slot-implies (fields a) (fields b) h = ap fields (same_slots-implies a b h)
  same_slot-implies (pick type_a a) (pick type_b b) h =
      let parts = and_parts (same_type type_a type_b) (same_slot a b) h in
      λ j. pick ((same_type-Decides type_a type_b).0 parts.0 j) (same_slot-implies a b parts.1 j)
  same_slot-implies _ _ h = absurd (false≢true h)

  same_slots-implies : (a b : Slots) → same_slots a b ≡ true → a ≡ b
  same_slots-implies no_slot no_slot h = refl
  same_slots-implies (slot_then a slots_a) (slot_then b slots_b) h =
      let parts = and_parts (same_slot a b) (same_slots slots_a slots_b) h in
      λ j. slot_then (same_slot-implies a b parts.0 j) (same_slots-implies slots_a slots_b parts.1 j)
  same_slots-implies _ _ h = absurd (false≢true h)

mutual
  pub same_slot-itself : (a : Slot) → same_slot a a ≡ true
  same_slot-itself null = refl
  same_slot-itself (truth a) = same_truth-itself a
  same_slot-itself (number kind a) = λ j. same_kind-itself kind j && int_eq-itself a j
  same_slot-itself (pair kind a b) = λ j. same_kind-itself kind j && int_eq-itself a j && int_eq-itself b j
  same_slot-itself (triple kind a b c) = λ j. same_kind-itself kind j && int_eq-itself a j && int_eq-itself b j && int_eq-itself c j
  same_slot-itself (text a) = (bytes_eq-Decides a a).1 refl
  same_slot-itself (bytes a) = (bytes_eq-Decides a a).1 refl
  same_slot-itself (items a) = same_slots-itself a
  same_slot-itself (fields a) = same_slots-itself a
  same_slot-itself (pick type_a a) = λ j. (same_type-Decides type_a type_a).1 refl j && same_slot-itself a j

  same_slots-itself : (a : Slots) → same_slots a a ≡ true
  same_slots-itself no_slot = refl
  same_slots-itself (slot_then a slots) = λ j. same_slot-itself a j && same_slots-itself slots j

pub same_slot-Decides : (a b : Slot) → Decides (same_slot a b) (a ≡ b)
same_slot-Decides a b = (same_slot-implies a b, λ e. ap (same_slot a) (sym e) ∙ same_slot-itself a)

pub sameness_decides : SamenessDecides
sameness_decides = same_slot-Decides
