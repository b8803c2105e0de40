-- What the readers of byte strings and of texts answer.
use Rattle.std.proofs.Common.{◌≡◌, ◌∙◌, ◌≤◌, ◌⊎◌, ℕ, List, Bool, length, drop, refl, sym, ap, inl, inr}
use Rattle.std.specs.Prelude.{Option, Some, None, Result, Ok, Err}
use Rattle.std.specs.Str.{is_utf8}
use Rattle.ipc_format_column_bytes.specs.flat_arrays.ByteStrings.{ByteStrings}
use Rattle.ipc_format_column_bytes.specs.flat_arrays.Fits as strings
use Rattle.ipc_format_column_bytes.specs.flat_arrays.Fits.{Fits, IsChecked, IsText, text_layout}
use Rattle.ipc_format_column_bytes.specs.flat_arrays.Flat.{IsMaskOf}
use Rattle.ipc_format_column_bytes.specs.streams.columnar_memory.declared.DataType.{DataType}
use Rattle.ipc_format_column_bytes.specs.streams.columnar_memory.declared.Error.{Error}
use Rattle.ipc_format_column_bytes.specs.streams.columnar_memory.Error.{IsOutOfSpec}
use Rattle.ipc_format_column_bytes.specs.streams.columns.Slots.{Slot, text}
use Rattle.ipc_format_column_bytes.specs.streams.columns.StoredColumns.{Column, slots}
use Rattle.ipc_format_column_bytes.specs.streams.flatbuffers.Reading.{◌>>=◌}
use Rattle.ipc_format_column_reading.specs.FlatColumns.{text_column}
use Rattle.ipc_format_column_reading.specs.Queues.{TakesOff}
use Rattle.ipc_format_column_reading.specs.Reads.{ReadsColumn, Strings}
use Rattle.ipc_format_column_reading.specs.Rooms.{Told, ForBytes, ReadsAs}
use Rattle.ipc_format_column_reading.proofs.Readings.{made_none, out_of_spec, reads_made, reads_refused}
use Rattle.ipc_format_column_reading.proofs.StringColumns.{no_texts, parts_of, strings_made, text_made}

-- the two words for a mask of so many marks say the same
pub same_mask : (n : ℕ) (mask : Option (List Bool)) → IsMaskOf n mask → strings.IsMaskOf n mask
same_mask n None h = tt
same_mask n (Some marks) h = h marks refl

-- the array of parts that are texts, or a refusal where they are none
pub texts_checked : {X Y : Type 0} (IsOfKind : Type 0) (is_compressed : Bool) (old new : Told) (t : DataType) (is_large : Bool)
    (given : List ℕ → Option Strings) (whole : List ℕ → Option (List Slot)) (a : ByteStrings) (n b : ℕ) (nodes nodes_after : List X)
    (buffers buffers_after : List Y) (r : Result ByteStrings Error) → IsOfKind → a.data_type ≡ t → Fits (text_layout is_large) a
    → ((room : List ℕ) → whole room ≡ (given room >>= strings_made is_utf8 text))
    → ReadsAs is_compressed old new (λ (s : Strings). s) given (Ok (parts_of a))
    → (n ≤ length nodes) × (nodes_after ≡ drop n nodes) → (b ≤ length buffers) × (buffers_after ≡ drop b buffers)
    → IsChecked (IsText is_large) a r
    → ReadsColumn IsOfKind is_compressed old new text_column t whole n b nodes nodes_after buffers buffers_after r
texts_checked IsOfKind is_compressed old new t is_large given whole a n b nodes nodes_after buffers buffers_after (Ok array) kind typed fits is read
    off taken checked = (
      kind,
      ap (λ (made : ByteStrings). made.data_type) checked.0 ∙ typed,
      reads_made is_compressed old new (λ (s : Strings). s) given (parts_of a) (λ (made : ByteStrings). slots (text_column made))
          (λ s room. strings_made is_utf8 text s) whole array is read
          (λ room. text_made a checked.1.1 ∙ ap (λ (made : ByteStrings). Some (slots (text_column made))) (sym checked.0)),
      off,
      taken,
    )
texts_checked IsOfKind is_compressed old new t is_large given whole a n b nodes nodes_after buffers buffers_after (Err error) kind typed fits is read
    off taken checked = inl (
      kind,
      out_of_spec old new (ForBytes old (λ room. whole room ≡ None)) is_compressed error checked.0 read.0
          (made_none is_compressed old new (λ (s : Strings). s) given (parts_of a) (λ s room. strings_made is_utf8 text s) whole is read
          (λ room. no_texts a (λ all. checked.1 (fits, all)))),
      (n, off.1),
      (b, taken.1),
    )

-- parts were read, so their type was not refused
pub only : {P K R S : Type 0} → P ⊎ (K × ⊥ × R × S) → P
only (inl there) = there
only (inr other) = absurd other.1

-- the parts of a column of a kind are refused, or its type is of another kind
pub parts_refused : {A B X Y : Type 0} (IsOfKind : Type 0) (is_compressed : Bool) (old new : Told) (column : B → Column) (t : DataType)
    (view : A → Strings) (given : List ℕ → Option Strings) (made : Strings → Option (List Slot)) (whole : List ℕ → Option (List Slot))
    (n b : ℕ) (nodes nodes_after : List X) (buffers buffers_after : List Y) (error : Error)
    → (IsOfKind → (room : List ℕ) → whole room ≡ (given room >>= made))
    → (IsOfKind × ReadsAs is_compressed old new view given (Err error) × TakesOff {X = A} n nodes nodes_after (Err error)
    × TakesOff {X = A} b buffers buffers_after (Err error))
    ⊎ (¬ IsOfKind × IsOutOfSpec error × (nodes_after ≡ nodes) × (buffers_after ≡ buffers))
    → ReadsColumn IsOfKind is_compressed old new column t whole n b nodes nodes_after buffers buffers_after (Err error)
parts_refused {B = B} IsOfKind is_compressed old new column t view given made whole n b nodes nodes_after buffers buffers_after error is (inl there) =
    inl (
      there.0,
      reads_refused is_compressed old new view given (λ (array : B). slots (column array)) (λ s room. made s) whole error (is there.0) there.1,
      there.2,
      there.3,
    )
parts_refused IsOfKind is_compressed old new column t view given made whole n b nodes nodes_after buffers buffers_after error is (inr other) =
    inr other
