-- Ranges of stored columns: what is written of each of several, the slots that they have, and how a column is read by its layer.
use Rattle.std.proofs.Common.{◌≡◌, ◌∙◌, ℕ, zero, suc, ◌+◌, ◌≤◌, ◌<◌, true, List, [], ◌∷◌, length, get_or, take, refl, sym, ap, arith, add-zero}
use Rattle.std.specs.Prelude.{Option, Some, min, replicate, ◌==◌}
use Rattle.std.proofs.Math.Nat.{min-eq_left}
use Rattle.std.proofs.lemmas.Bool.{and_from, eq-eqb}
use Rattle.ipc_format_laws.specs.columnar_memory.declared.DataType.{DataType}
use Rattle.ipc_format_laws.specs.columnar_memory.Equality.{same_type, same_type-Decides}
use Rattle.ipc_format_laws.specs.columns.Slots.{Slot, null, window}
use Rattle.ipc_format_laws.specs.columns.StoredColumns.{Column, Columns, no_column, column_then, column_len, type_layer, slot_at}
use Rattle.ipc_format_laws.proofs.columns_lemmas.Windows.{length-window}
use Rattle.ipc_format_laws.specs.grammar.Columns.{Place, Reader, slots_in, taken_of, have_length}
use Rattle.ipc_format_laws.specs.grammar.Encoding.{Encoded}
use Rattle.ipc_format_laws.specs.grammar.StoredEncoding.{encode_range, encode_ranges, encode_wholes}
use Rattle.ipc_format_reading_laws.specs.StoredColumns.{RangeReadsBack}
use Rattle.ipc_format_reading_laws.proofs.StoredLayers.{read_layer, layer_reads}

-- what a type's layer reads, the type reads
pub by_layer : (t : DataType) (at : Place) (slots : List Slot) → read_layer (type_layer t) at ≡ Some slots → slots_in t at ≡ Some slots
by_layer t at slots h = ap (λ (reader : Reader). reader at) (layer_reads t) ∙ h

-- types that are found to be the same are
pub type_is : (a b : DataType) → same_type a b ≡ true → a ≡ b
type_is a b h = (same_type-Decides a b).0 h

pub min_itself : (n : ℕ) → min n n ≡ n
min_itself n = min-eq_left (omega arith)

-- ---- several columns, of each the slots from slot o on, as many as a function of the column says

abbrev pub encode_each : ℕ → (Column → ℕ) → Columns → List Encoded
encode_each o len no_column = []
encode_each o len (column_then column columns) = encode_range true column o (len column) ∷ encode_each o len columns

pub same_ranges : (columns : Columns) (o n : ℕ) → encode_ranges true columns o n ≡ encode_each o (λ column. n) columns
same_ranges no_column o n = refl
same_ranges (column_then column columns) o n = ap (λ others. encode_range true column o n ∷ others) (same_ranges columns o n)

pub same_wholes : (columns : Columns) → encode_wholes true columns ≡ encode_each 0 column_len columns
same_wholes no_column = refl
same_wholes (column_then column columns) = ap (λ others. encode_range true column 0 (column_len column) ∷ others) (same_wholes columns)

-- their slots
abbrev pub windows_of : ℕ → (Column → ℕ) → Columns → List (List Slot)
windows_of o len no_column = []
windows_of o len (column_then column columns) = window (slot_at column) o (len column) ∷ windows_of o len columns

-- each lies within its column, and no limit cuts it
abbrev pub RangesFit : ℕ → (Column → ℕ) → Option ℕ → Columns → Type 0
RangesFit o len limit no_column = Unit {0}
RangesFit o len limit (column_then column columns) =
    (o + len column ≤ column_len column) × (taken_of limit (len column) ≡ len column) × RangesFit o len limit columns

-- each reads back
abbrev pub RangesReadBack : Columns → Type 0
RangesReadBack no_column = Unit {0}
RangesReadBack (column_then column columns) = RangeReadsBack column × RangesReadBack columns

-- of each as many slots
pub windows_long : (o n : ℕ) (columns : Columns) → have_length n (windows_of o (λ column. n) columns) ≡ true
windows_long o n no_column = refl
windows_long o n (column_then column columns) =
    and_from (length (window (slot_at column) o n) == n) (have_length n (windows_of o (λ column. n) columns))
    (eq-eqb (length (window (slot_at column) o n)) n (length-window (slot_at column) o n)) (windows_long o n columns)

-- ---- windows

place_after : (a i : ℕ) → a + 1 + i ≡ a + suc i
place_after a i = omega arith

-- what stands at a place of a window
pub at_window : {A : Type 0} (f : ℕ → A) (o n i : ℕ) (d : A) → i < n → get_or (window f o n) i d ≡ f (o + i)
at_window f o zero i d inside = absurd (omega arith)
at_window f o (suc n) zero d inside = ap f (sym (add-zero o))
at_window f o (suc n) (suc i) d inside = at_window f (o + 1) n i d (omega arith) ∙ ap f (place_after o i)

pub whole_window : {A : Type 0} (f : ℕ → A) (o n : ℕ) → take n (window f o n) ≡ window f o n
whole_window f o zero = refl
whole_window f o (suc n) = ap (λ xs. f o ∷ xs) (whole_window f (o + 1) n)

pub nulls_window : (o n : ℕ) → replicate n null ≡ window (λ i. null) o n
nulls_window o zero = refl
nulls_window o (suc n) = ap (λ (xs : List Slot). null ∷ xs) (nulls_window (o + 1) n)
