-- What columns without children store, by its form.
use Rattle.std.proofs.Common.{◌≡◌, ◌∙◌, ◌<◌, ◌+◌, ℕ, List, refl, sym, ap, arith}
use Rattle.std.specs.Prelude.{Some, slice_get, slice_range}
use Rattle.nested_arrays_flat.specs.columnar_memory.Spans.{offsets_of, offset_at}
use Rattle.nested_arrays_flat.proofs.flat_arrays_lemmas.bytes_lemmas.Places.{value_between}
use Rattle.nested_arrays_flat.specs.flat_arrays.ByteStrings.{ByteStrings, len_of, values_of}
use Rattle.nested_arrays_flat.specs.columns.Slots.{bytes, text}
use Rattle.nested_arrays_flat.specs.columns.StoredColumns.{column_len, slot_at, string_at}
use Rattle.nested_arrays_parts.specs.Forms.{bare, column_form}
use Rattle.nested_arrays_flat.proofs.Offsets.{get_or-offsets_of}
use Rattle.nested_arrays_flat.proofs.SoundStrings.{strings_len, texts_len}
use Rattle.nested_arrays_flat.specs.FlatColumns.{binary_column, text_column}
use Rattle.nested_arrays_flat.specs.Primitives.{column_of}
use Rattle.nested_arrays_flat.specs.declared.primitive.PrimitiveNode.{PrimitiveNode}
use Rattle.nested_arrays_flat.specs.declared.primitive.PrimitiveNode.TheVariants as variant

-- numbers of any kind have one form
pub numbers_form : (node : PrimitiveNode) → column_form (column_of node) ≡ 2
numbers_form (variant.Int8 array) = refl
numbers_form (variant.Int16 array) = refl
numbers_form (variant.Int32 array) = refl
numbers_form (variant.Int64 array) = refl
numbers_form (variant.Int128 array) = refl
numbers_form (variant.Int256 array) = refl
numbers_form (variant.UInt8 array) = refl
numbers_form (variant.UInt16 array) = refl
numbers_form (variant.UInt32 array) = refl
numbers_form (variant.UInt64 array) = refl
numbers_form (variant.DaysMs array) = refl
numbers_form (variant.MonthsDaysNs array) = refl

-- a stored string stands between its offsets
string_stored : (a : ByteStrings) (i : ℕ) (value : List ℕ) → i < len_of a → slice_get (values_of a) i ≡ Some value
    → string_at (offsets_of a.offsets) a.bytes i ≡ value
string_stored a i value h is =
    let from = get_or-offsets_of a.offsets i (omega arith) in
    let to = get_or-offsets_of a.offsets (i + 1) (omega arith) in
    let there : Some (slice_range a.bytes (offset_at a.offsets i) (offset_at a.offsets (i + 1))) ≡ Some value = sym (value_between a i h) ∙ is in
    (λ j. slice_range a.bytes (from j) (to j)) ∙ cc

pub text_there : (a : ByteStrings) (i : ℕ) (value : List ℕ) → i < column_len (text_column a) → slice_get (values_of a) i ≡ Some value
    → slot_at (bare (text_column a)) i ≡ text value
text_there a i value h is = ap text (string_stored a i value (omega (arith, h, texts_len a)) is)

pub bytes_there : (a : ByteStrings) (i : ℕ) (value : List ℕ) → i < column_len (binary_column a) → slice_get (values_of a) i ≡ Some value
    → slot_at (bare (binary_column a)) i ≡ bytes value
bytes_there a i value h is = ap bytes (string_stored a i value (omega (arith, h, strings_len a)) is)

pub ruleset text_stored = (text_there, texts_len)

pub ruleset bytes_stored = (bytes_there, strings_len)
