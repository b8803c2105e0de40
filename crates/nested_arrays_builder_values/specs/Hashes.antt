-- The hash of a cell.
use Rattle.std.specs.Prelude.{ℕ, ◌+◌, ◌*◌, ◌%◌, ◌^◌, if◌then◌else◌, List, [], ◌∷◌, unsigned_abs}
use Rattle.nested_arrays_scalars.specs.declared.scalars.AnyScalar.{AnyScalar}
use Rattle.nested_arrays_scalars.specs.declared.scalars.AnyScalar.TheOpen as layer
use Rattle.nested_arrays_scalars.specs.declared.scalars.AnyScalar.TheFolds.{fold-AnyScalar}

-- a hash with one more number
abbrev pub mixed : ℕ → ℕ → ℕ
mixed hash n = ((hash + n) % 2 ^ 64 * 1099511628211) % 2 ^ 64

-- a hash with more numbers, one after another
abbrev pub mixed_all : ℕ → List ℕ → ℕ
mixed_all hash [] = hash
mixed_all hash (n ∷ ns) = mixed_all (mixed hash n) ns

-- one layer of a cell, where each inside stands as its hash
abbrev pub hash_step : layer.AnyScalar-F ℕ → ℕ
hash_step layer.Null = 0
hash_step (layer.Boolean b) = if b then 1 else 0
hash_step (layer.Int8 n) = unsigned_abs n
hash_step (layer.Int16 n) = unsigned_abs n
hash_step (layer.Int32 n) = unsigned_abs n
hash_step (layer.Int64 n) = unsigned_abs n
hash_step (layer.Int128 n) = unsigned_abs n % 2 ^ 64
hash_step (layer.Int256 n) = 0
hash_step (layer.UInt8 n) = n
hash_step (layer.UInt16 n) = n
hash_step (layer.UInt32 n) = n
hash_step (layer.UInt64 n) = n
hash_step (layer.DaysMs value) = mixed (unsigned_abs value.0) (unsigned_abs value.1)
hash_step (layer.MonthsDaysNs value) = mixed (unsigned_abs value.1) (unsigned_abs value.2)
hash_step (layer.Text content) = mixed_all 0 content
hash_step (layer.Bytes content) = mixed_all 0 content
hash_step (layer.List hashes) = mixed_all 1 hashes
hash_step (layer.Record hashes) = mixed_all 2 hashes

-- the hash of a cell
abbrev pub cell_hash : AnyScalar → ℕ
cell_hash = fold-AnyScalar ℕ hash_step
