-- Which slots have a value of a kind, by the parts of their cells.
use Rattle.std.proofs.Common.{◌≡◌, ◌∙◌, ℕ, ℤ, pos, List, [], Bool, true, false, refl, sym, ap, ap₂}
use Rattle.std.specs.Prelude.{◌&&◌, ◌==◌}
use Rattle.std.specs.List.{list_all}
use Rattle.std.specs.Str.{is_utf8}
use Rattle.std.proofs.lemmas.Bool.{and_from, and_parts, false≢true}
use Rattle.nested_arrays_core.specs.arrays.columnar_memory.declared.PrimitiveType.{PrimitiveType}
use Rattle.nested_arrays_core.specs.arrays.columnar_memory.declared.PrimitiveType.TheVariants as kinds
use Rattle.nested_arrays_core.specs.arrays.columnar_memory.Numbers.{Numbers, one, two, three, zeros, IsNative}
use Rattle.nested_arrays_core.specs.arrays.columns.Cells.{is_null, is_truth, is_text, is_bytes, is_bytes_of}
use Rattle.nested_arrays_core.specs.arrays.columns.FreshColumns.{is_true, content_of}
use Rattle.nested_arrays_core.specs.arrays.columns.Kinds.{in_kind, is_signed, same_kind}
use Rattle.nested_arrays_core.specs.arrays.columns.Slots.{Slot, null, truth, number, pair, triple, text, bytes, items, fields, pick}
use Rattle.nested_arrays_core.specs.arrays.columns.SoundColumns.{is_byte}
use Rattle.nested_arrays_builder_parts.specs.AnyNumbers.{kind_of_number, numbers_of_number, slot_of_number}
use Rattle.nested_arrays_builder_parts.specs.CellParts.{is_nested}
use Rattle.nested_arrays_core.specs.arrays.flat.FlatColumns.{is_native}
use Rattle.nested_arrays_builder_parts.specs.Growing.{numbers_for}
use Rattle.nested_arrays_core.specs.columns.OpenParts.{is_of_kind}
use Rattle.nested_arrays_builder_parts.specs.declared.numbers.AnyNumber.{AnyNumber}
use Rattle.nested_arrays_builder_parts.specs.declared.numbers.AnyNumber.TheVariants as variant
use Rattle.nested_arrays_core.proofs.arrays_lemmas.flat_lemmas.InRange.{native_in_range}

-- ---- slots of other parts

-- none of the tests of a cell without children holds of it
record IsOther (slot : Slot) : Type 0 where
  no_null : is_null slot ≡ false
  no_truth : is_truth slot ≡ false
  no_text : is_text slot ≡ false
  no_bytes : is_bytes slot ≡ false
  no_sized : (size : ℕ) → is_bytes_of size slot ≡ false

number_other : (n : AnyNumber) → IsOther (slot_of_number n)
number_other (variant.Int8 n) = record { no_null = refl; no_truth = refl; no_text = refl; no_bytes = refl; no_sized = λ size. refl }
number_other (variant.Int16 n) = record { no_null = refl; no_truth = refl; no_text = refl; no_bytes = refl; no_sized = λ size. refl }
number_other (variant.Int32 n) = record { no_null = refl; no_truth = refl; no_text = refl; no_bytes = refl; no_sized = λ size. refl }
number_other (variant.Int64 n) = record { no_null = refl; no_truth = refl; no_text = refl; no_bytes = refl; no_sized = λ size. refl }
number_other (variant.Int128 n) = record { no_null = refl; no_truth = refl; no_text = refl; no_bytes = refl; no_sized = λ size. refl }
number_other (variant.Int256 n) = record { no_null = refl; no_truth = refl; no_text = refl; no_bytes = refl; no_sized = λ size. refl }
number_other (variant.UInt8 n) = record { no_null = refl; no_truth = refl; no_text = refl; no_bytes = refl; no_sized = λ size. refl }
number_other (variant.UInt16 n) = record { no_null = refl; no_truth = refl; no_text = refl; no_bytes = refl; no_sized = λ size. refl }
number_other (variant.UInt32 n) = record { no_null = refl; no_truth = refl; no_text = refl; no_bytes = refl; no_sized = λ size. refl }
number_other (variant.UInt64 n) = record { no_null = refl; no_truth = refl; no_text = refl; no_bytes = refl; no_sized = λ size. refl }
number_other (variant.DaysMs n) = record { no_null = refl; no_truth = refl; no_text = refl; no_bytes = refl; no_sized = λ size. refl }
number_other (variant.MonthsDaysNs n) = record { no_null = refl; no_truth = refl; no_text = refl; no_bytes = refl; no_sized = λ size. refl }

nested_other : (slot : Slot) → is_nested slot ≡ true → IsOther slot
nested_other (items inner) is = record { no_null = refl; no_truth = refl; no_text = refl; no_bytes = refl; no_sized = λ size. refl }
nested_other (fields inner) is = record { no_null = refl; no_truth = refl; no_text = refl; no_bytes = refl; no_sized = λ size. refl }
nested_other _ is = absurd (false≢true is)

pub number_no_null : (slot : Slot) (n : AnyNumber) → slot ≡ slot_of_number n → is_null slot ≡ false
number_no_null slot n is = ap is_null is ∙ (number_other n).no_null

pub number_no_truth : (slot : Slot) (n : AnyNumber) → slot ≡ slot_of_number n → is_truth slot ≡ false
number_no_truth slot n is = ap is_truth is ∙ (number_other n).no_truth

pub number_no_text : (slot : Slot) (n : AnyNumber) → slot ≡ slot_of_number n → is_text slot ≡ false
number_no_text slot n is = ap is_text is ∙ (number_other n).no_text

pub number_no_bytes : (slot : Slot) (n : AnyNumber) → slot ≡ slot_of_number n → is_bytes slot ≡ false
number_no_bytes slot n is = ap is_bytes is ∙ (number_other n).no_bytes

pub number_no_sized : (slot : Slot) (n : AnyNumber) (size : ℕ) → slot ≡ slot_of_number n → is_bytes_of size slot ≡ false
number_no_sized slot n size is = ap (is_bytes_of size) is ∙ (number_other n).no_sized size

pub nested_no_null : (slot : Slot) → is_nested slot ≡ true → is_null slot ≡ false
nested_no_null slot is = (nested_other slot is).no_null

pub nested_no_truth : (slot : Slot) → is_nested slot ≡ true → is_truth slot ≡ false
nested_no_truth slot is = (nested_other slot is).no_truth

pub nested_no_text : (slot : Slot) → is_nested slot ≡ true → is_text slot ≡ false
nested_no_text slot is = (nested_other slot is).no_text

pub nested_no_bytes : (slot : Slot) → is_nested slot ≡ true → is_bytes slot ≡ false
nested_no_bytes slot is = (nested_other slot is).no_bytes

pub nested_no_sized : (slot : Slot) (size : ℕ) → is_nested slot ≡ true → is_bytes_of size slot ≡ false
nested_no_sized slot size is = (nested_other slot is).no_sized size

-- ---- numbers

pub null_of_kind : (kind : PrimitiveType) → is_of_kind kind null ≡ true
null_of_kind kinds.DaysMs = refl
null_of_kind kinds.MonthDayNano = refl
null_of_kind kinds.Float16 = refl
null_of_kind kinds.Float32 = refl
null_of_kind kinds.Float64 = refl
null_of_kind _ = refl

pub zeros_for : (kind : PrimitiveType) → zeros kind ≡ numbers_for kind null
zeros_for kinds.DaysMs = refl
zeros_for kinds.MonthDayNano = refl
zeros_for _ = refl

-- slots that are no numbers
abbrev no_number : (kind : PrimitiveType) (slot : Slot) → Bool
no_number kind (truth b) = true
no_number kind (text content) = true
no_number kind (bytes content) = true
no_number kind (items inner) = true
no_number kind (fields inner) = true
no_number kind _ = false

other_kind : (kind : PrimitiveType) (slot : Slot) → no_number kind slot ≡ true → is_of_kind kind slot ≡ false
other_kind kinds.DaysMs (truth b) is = refl
other_kind kinds.DaysMs (text content) is = refl
other_kind kinds.DaysMs (bytes content) is = refl
other_kind kinds.DaysMs (items inner) is = refl
other_kind kinds.DaysMs (fields inner) is = refl
other_kind kinds.MonthDayNano (truth b) is = refl
other_kind kinds.MonthDayNano (text content) is = refl
other_kind kinds.MonthDayNano (bytes content) is = refl
other_kind kinds.MonthDayNano (items inner) is = refl
other_kind kinds.MonthDayNano (fields inner) is = refl
other_kind kinds.Float16 (truth b) is = refl
other_kind _ (truth b) is = refl
other_kind _ (text content) is = refl
other_kind _ (bytes content) is = refl
other_kind _ (items inner) is = refl
other_kind _ (fields inner) is = refl
other_kind _ _ is = absurd (false≢true is)

pub truth_of_kind : (kind : PrimitiveType) (slot : Slot) (b : Bool) → slot ≡ truth b → is_of_kind kind slot ≡ false
truth_of_kind kind slot b is = ap (is_of_kind kind) is ∙ other_kind kind (truth b) refl

pub text_of_kind : (kind : PrimitiveType) (slot : Slot) (content : List ℕ) → slot ≡ text content → is_of_kind kind slot ≡ false
text_of_kind kind slot content is = ap (is_of_kind kind) is ∙ other_kind kind (text content) refl

pub bytes_of_kind : (kind : PrimitiveType) (slot : Slot) (content : List ℕ) → slot ≡ bytes content → is_of_kind kind slot ≡ false
bytes_of_kind kind slot content is = ap (is_of_kind kind) is ∙ other_kind kind (bytes content) refl

nested_number : (kind : PrimitiveType) (slot : Slot) → is_nested slot ≡ true → no_number kind slot ≡ true
nested_number kind (items inner) is = refl
nested_number kind (fields inner) is = refl
nested_number kind _ is = absurd (false≢true is)

pub nested_of_kind : (kind : PrimitiveType) (slot : Slot) → is_nested slot ≡ true → is_of_kind kind slot ≡ false
nested_of_kind kind slot is = other_kind kind slot (nested_number kind slot is)

-- a whole number of another kind
whole_other : (kind own : PrimitiveType) (n : ℤ) → same_kind kind own ≡ false → is_of_kind kind (number own n) ≡ false
whole_other kinds.DaysMs own n other = refl
whole_other kinds.MonthDayNano own n other = refl
whole_other kinds.Float16 own n other = refl
whole_other kinds.Float32 own n other = refl
whole_other kinds.Float64 own n other = refl
whole_other kinds.Int8 own n other = ap (λ b. b && in_kind own n) other
whole_other kinds.Int16 own n other = ap (λ b. b && in_kind own n) other
whole_other kinds.Int32 own n other = ap (λ b. b && in_kind own n) other
whole_other kinds.Int64 own n other = ap (λ b. b && in_kind own n) other
whole_other kinds.Int128 own n other = ap (λ b. b && in_kind own n) other
whole_other kinds.Int256 own n other = ap (λ b. b && in_kind own n) other
whole_other kinds.UInt8 own n other = ap (λ b. b && in_kind own n) other
whole_other kinds.UInt16 own n other = ap (λ b. b && in_kind own n) other
whole_other kinds.UInt32 own n other = ap (λ b. b && in_kind own n) other
whole_other kinds.UInt64 own n other = ap (λ b. b && in_kind own n) other

pair_other : (kind : PrimitiveType) (a b : ℤ) → same_kind kind kinds.DaysMs ≡ false → is_of_kind kind (pair kinds.DaysMs a b) ≡ false
pair_other kinds.DaysMs a b other = absurd (false≢true (sym other))
pair_other kinds.MonthDayNano a b other = refl
pair_other kinds.Float16 a b other = refl
pair_other kinds.Float32 a b other = refl
pair_other kinds.Float64 a b other = refl
pair_other _ a b other = refl

triple_other : (kind : PrimitiveType) (a b c : ℤ) → same_kind kind kinds.MonthDayNano ≡ false
    → is_of_kind kind (triple kinds.MonthDayNano a b c) ≡ false
triple_other kinds.MonthDayNano a b c other = absurd (false≢true (sym other))
triple_other kinds.DaysMs a b c other = refl
triple_other kinds.Float16 a b c other = refl
triple_other kinds.Float32 a b c other = refl
triple_other kinds.Float64 a b c other = refl
triple_other _ a b c other = refl

pub number_other_kind : (kind : PrimitiveType) (n : AnyNumber) → same_kind kind (kind_of_number n) ≡ false → is_of_kind kind (slot_of_number n) ≡
    false
number_other_kind kind (variant.Int8 n) other = whole_other kind kinds.Int8 n other
number_other_kind kind (variant.Int16 n) other = whole_other kind kinds.Int16 n other
number_other_kind kind (variant.Int32 n) other = whole_other kind kinds.Int32 n other
number_other_kind kind (variant.Int64 n) other = whole_other kind kinds.Int64 n other
number_other_kind kind (variant.Int128 n) other = whole_other kind kinds.Int128 n other
number_other_kind kind (variant.Int256 n) other = whole_other kind kinds.Int256 n other
number_other_kind kind (variant.UInt8 n) other = whole_other kind kinds.UInt8 (pos n) other
number_other_kind kind (variant.UInt16 n) other = whole_other kind kinds.UInt16 (pos n) other
number_other_kind kind (variant.UInt32 n) other = whole_other kind kinds.UInt32 (pos n) other
number_other_kind kind (variant.UInt64 n) other = whole_other kind kinds.UInt64 (pos n) other
number_other_kind kind (variant.DaysMs n) other = pair_other kind n.0 n.1 other
number_other_kind kind (variant.MonthsDaysNs n) other = triple_other kind n.0 n.1 n.2 other

-- a number of its own kind, within its range
in_own : (n : AnyNumber) → is_native (kind_of_number n) (numbers_of_number n) ≡ true → is_of_kind (kind_of_number n) (slot_of_number n) ≡ true
in_own (variant.Int8 n) h = h
in_own (variant.Int16 n) h = h
in_own (variant.Int32 n) h = h
in_own (variant.Int64 n) h = h
in_own (variant.Int128 n) h = h
in_own (variant.Int256 n) h = h
in_own (variant.UInt8 n) h = h
in_own (variant.UInt16 n) h = h
in_own (variant.UInt32 n) h = h
in_own (variant.UInt64 n) h = h
in_own (variant.DaysMs n) h = h
in_own (variant.MonthsDaysNs n) h = h

own_numbers : (n : AnyNumber) → numbers_of_number n ≡ numbers_for (kind_of_number n) (slot_of_number n)
own_numbers (variant.Int8 n) = refl
own_numbers (variant.Int16 n) = refl
own_numbers (variant.Int32 n) = refl
own_numbers (variant.Int64 n) = refl
own_numbers (variant.Int128 n) = refl
own_numbers (variant.Int256 n) = refl
own_numbers (variant.UInt8 n) = refl
own_numbers (variant.UInt16 n) = refl
own_numbers (variant.UInt32 n) = refl
own_numbers (variant.UInt64 n) = refl
own_numbers (variant.DaysMs n) = refl
own_numbers (variant.MonthsDaysNs n) = refl

pub number_own_kind : (kind : PrimitiveType) (n : AnyNumber) (value : Numbers) → kind_of_number n ≡ kind → numbers_of_number n ≡ value
    → IsNative kind value → is_of_kind kind (slot_of_number n) ≡ true
number_own_kind kind n value own is native =
    let there : is_native (kind_of_number n) (numbers_of_number n) ≡ true = ap₂ is_native own is ∙ native_in_range kind value native in
    ap (λ k. is_of_kind k (slot_of_number n)) (sym own) ∙ in_own n there

pub number_own_value : (kind : PrimitiveType) (n : AnyNumber) (value : Numbers) → kind_of_number n ≡ kind → numbers_of_number n ≡ value
    → value ≡ numbers_for kind (slot_of_number n)
number_own_value kind n value own is = sym is ∙ own_numbers n ∙ ap (λ k. numbers_for k (slot_of_number n)) own

pub ruleset truths = (number_no_truth, nested_no_truth)

pub ruleset texts = (number_no_text, nested_no_text)

pub ruleset byte_strings = (number_no_bytes, nested_no_bytes)

pub ruleset nulls = (number_no_null, nested_no_null)

pub ruleset numbers = (
  null_of_kind,
  zeros_for,
  truth_of_kind,
  text_of_kind,
  bytes_of_kind,
  nested_of_kind,
  number_other_kind,
  number_own_kind,
  number_own_value,
)
