-- Arrays of one length, as the columns of a batch of rows (Arrow IPC, "RecordBatch message").
use Rattle.std.specs.Prelude.{◌≡◌, ℕ, Bool, List, [], ◌∷◌, slice_get, Some, Result, Ok, Err}
use Rattle.std.specs.Bool.{Decides}
use Rattle.nested_arrays_core.specs.columnar_memory.declared.Error.{Error}
use Rattle.nested_arrays_core.specs.columnar_memory.Error.{IsInvalidArgument}
use Rattle.nested_arrays_core.specs.StoredColumns.{Column, column_len, column_type, slots}

-- how many rows some arrays have: as many as the first has slots, and without an array none
abbrev pub rows_of : {A : Type 0} → (A → Column) → List A → ℕ
rows_of column [] = 0
rows_of column (array ∷ arrays) = column_len (column array)

-- each array has so many slots
abbrev pub HaveLength : {A : Type 0} → (A → Column) → ℕ → List A → Type 0
HaveLength {A} column count arrays = (k : ℕ) (array : A) → slice_get arrays k ≡ Some array → column_len (column array) ≡ count

-- all arrays are as long as the first
abbrev pub AreAsLong : {A : Type 0} → (A → Column) → List A → Type 0
AreAsLong column arrays = HaveLength column (rows_of column arrays) arrays

-- arrays that are all as long as the first are the columns of a chunk; others are an invalid argument
abbrev pub MakesChunk : {A : Type 0} → (A → Column) → List A → Result (List A) Error → Type 0
MakesChunk column arrays (Ok chunk) = (chunk ≡ arrays) × AreAsLong column arrays
MakesChunk column arrays (Err error) = IsInvalidArgument error × (AreAsLong column arrays → ⊥)

-- two arrays have one data type and the same slots
pub record AreSame (a b : Column) : Type 0 where
  pub types : column_type a ≡ column_type b
  pub same_slots : slots a ≡ slots b

-- a test of two arrays tells whether they are the same
abbrev pub TellsSame : {A : Type 0} → (A → Column) → (A → A → Bool) → Type 0
TellsSame {A} column test = (x y : A) → Decides (test x y) (AreSame (column x) (column y))

-- as many arrays, each the same as the other at its place
abbrev pub AreSameEach : {A : Type 0} → (A → Column) → List A → List A → Type 0
AreSameEach column [] [] = Unit {0}
AreSameEach column (x ∷ xs) (y ∷ ys) = AreSame (column x) (column y) × AreSameEach column xs ys
AreSameEach column _ _ = ⊥
