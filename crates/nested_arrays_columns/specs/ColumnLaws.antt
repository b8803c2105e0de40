-- What holds of every cut of a column.
use Rattle.std.specs.Prelude.{◌≡◌, ℕ, ◌+◌, ◌≤◌, true, length, slice_range}
use Rattle.nested_arrays_columns.specs.StoredColumns.{Column, column_len, column_size, slots, cut}
use Rattle.nested_arrays_columns.specs.SoundColumns.{is_sound}

-- the slots of a cut are a range of the column's slots, at every depth
abbrev pub CutsSlots : Type 0
CutsSlots = (c : Column) (o n : ℕ) → is_sound c ≡ true → o + n ≤ column_len c → slots (cut c o n) ≡ slice_range (slots c) o (o + n)

-- a cut has as many slots as were asked for
abbrev pub CutsLengths : Type 0
CutsLengths = (c : Column) (o n : ℕ) → is_sound c ≡ true → o + n ≤ column_len c → column_len (cut c o n) ≡ n

-- a cut of a sound column is sound
abbrev pub CutsStaySound : Type 0
CutsStaySound = (c : Column) (o n : ℕ) → is_sound c ≡ true → o + n ≤ column_len c → is_sound (cut c o n) ≡ true

-- a cut of a cut is one cut, at the sum of the places
abbrev pub CutsJoin : Type 0
CutsJoin = (c : Column) (o n p q : ℕ) → p + q ≤ n → cut (cut c o n) p q ≡ cut c (o + p) q

-- there are as many slots as the column's length
abbrev pub SlotsLengths : Type 0
SlotsLengths = (c : Column) → length (slots c) ≡ column_len c

-- a cut is made of as many columns
abbrev pub CutsSizes : Type 0
CutsSizes = (c : Column) (o n : ℕ) → column_size (cut c o n) ≡ column_size c

-- a column is made of one column at least
abbrev pub SizesCount : Type 0
SizesCount = (c : Column) → 1 ≤ column_size c
