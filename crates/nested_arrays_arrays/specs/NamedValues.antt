-- Which keys name values.
use Rattle.std.specs.Prelude.{ℕ, ℤ, pos, Bool, ◌&&◌, List, map, int_le, nat_lt}
use Rattle.nested_arrays_parts.specs.columnar_memory.Numbers.{Numbers, first_number}
use Rattle.nested_arrays_parts.specs.columns.StoredColumns.{place_of}

-- whether a key is the place of one of so many values
abbrev pub names_value : ℕ → ℤ → Bool
names_value count key = int_le (pos 0) key && nat_lt (place_of key) count

-- the whole numbers of values
abbrev pub firsts : {K : Type 0} → (K → Numbers) → List K → List ℤ
firsts numbers values = map first_number (map numbers values)
