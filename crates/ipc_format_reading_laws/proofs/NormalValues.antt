-- Slots with the types of their picks in normal form: within lists, in windows, and as values by their bytes.
use Rattle.std.proofs.Common.{◌≡◌, ◌∙◌, ℕ, zero, suc, ◌+◌, ◌-◌, ℤ, pos, negsuc, Bool, true, false, List, [], ◌∷◌, map, take, drop}
use Rattle.std.proofs.Common.{replicate, refl, ap, ap₂, slice_index_or, slice_range, if◌then◌else◌}
use Rattle.std.proofs.lemmas.List.{take-map, drop-map}
use Rattle.ipc_format_laws.specs.columnar_memory.declared.PrimitiveType.{PrimitiveType}
use Rattle.ipc_format_laws.specs.columnar_memory.declared.PrimitiveType.TheVariants as kinds
use Rattle.ipc_format_laws.specs.columns.Slots.{Slot, null, slot_then, in_slots, window}
use Rattle.ipc_format_laws.specs.columns.Tables.{row_at}
use Rattle.ipc_format_laws.specs.grammar.Values.{value_of}
use Rattle.ipc_format_laws.specs.grammar.Columns.{Validity, is_valid_in, slot_by, slots_by, slot_of_key}
use Rattle.ipc_format_reading_laws.specs.NormalSlots.{normal_slot, normal_slots}

-- ---- lists of slots

pub in_normal : (some : List Slot) → normal_slots (in_slots some) ≡ in_slots (map normal_slot some)
in_normal [] = refl
in_normal (slot ∷ some) = ap (slot_then (normal_slot slot)) (in_normal some)

at_normal : (some : List Slot) (i : ℕ) → slice_index_or (map normal_slot some) i null ≡ normal_slot (slice_index_or some i null)
at_normal [] i = refl
at_normal (slot ∷ some) zero = refl
at_normal (slot ∷ some) (suc i) = at_normal some i

pub range_normal : (some : List Slot) (a b : ℕ) → slice_range (map normal_slot some) a b ≡ map normal_slot (slice_range some a b)
range_normal some a b = ap (take (b - a)) (drop-map normal_slot a some) ∙ take-map normal_slot (b - a) (drop a some)

pub row_normal : (columns : List (List Slot)) (i : ℕ) → row_at (map (map normal_slot) columns) i ≡ map normal_slot (row_at columns i)
row_normal [] i = refl
row_normal (column ∷ columns) i = ap₂ (λ (slot : Slot) slots. slot ∷ slots) (at_normal column i) (row_normal columns i)

pub key_normal : (values : List Slot) (key : ℤ) → slot_of_key (map normal_slot values) key ≡ normal_slot (slot_of_key values key)
key_normal values (pos k) = at_normal values k
key_normal values (negsuc k) = refl

-- ---- windows

window_normal : (f g : ℕ → Slot) → ((i : ℕ) → g i ≡ normal_slot (f i)) → (first n : ℕ) → window g first n ≡ map normal_slot (window f first n)
window_normal f g same first zero = refl
window_normal f g same first (suc n) =
    ap₂ (λ (slot : Slot) slots. slot ∷ slots) (same first) (window_normal f g same (first + 1) n)

valid_normal : (is_valid : Bool) (slot normal : Slot) → normal ≡ normal_slot slot
    → (if is_valid then normal else null) ≡ normal_slot (if is_valid then slot else null)
valid_normal true slot normal same = same
valid_normal false slot normal same = refl

-- slots by values whose picks are normal are the slots by the values with their picks normal
pub slots_normal : (validity : Validity) (value normal : ℕ → Slot) (taken : ℕ) → ((i : ℕ) → normal i ≡ normal_slot (value i))
    → slots_by validity normal taken ≡ map normal_slot (slots_by validity value taken)
slots_normal validity value normal taken same =
    window_normal (slot_by validity value) (slot_by validity normal)
    (λ (i : ℕ). valid_normal (is_valid_in validity i) (value i) (normal i) (same i)) 0 taken

-- ---- values without a pick

pub nulls_are : (n : ℕ) → replicate n null ≡ map normal_slot (replicate n null)
nulls_are zero = refl
nulls_are (suc n) = ap (λ slots. null ∷ slots) (nulls_are n)

pub value_is : (kind : PrimitiveType) (little : Bool) (bytes : List ℕ) → value_of kind little bytes ≡ normal_slot (value_of kind little bytes)
value_is kinds.Int8 little bytes = refl
value_is kinds.Int16 little bytes = refl
value_is kinds.Int32 little bytes = refl
value_is kinds.Int64 little bytes = refl
value_is kinds.Int128 little bytes = refl
value_is kinds.Int256 little bytes = refl
value_is kinds.UInt8 little bytes = refl
value_is kinds.UInt16 little bytes = refl
value_is kinds.UInt32 little bytes = refl
value_is kinds.UInt64 little bytes = refl
value_is kinds.Float16 little bytes = refl
value_is kinds.Float32 little bytes = refl
value_is kinds.Float64 little bytes = refl
value_is kinds.DaysMs little bytes = refl
value_is kinds.MonthDayNano little bytes = refl
