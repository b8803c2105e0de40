use Rattle.std.proofs.Common.{◌≡◌, drop, map}
use Rattle.nested_arrays_builder_values.specs.Hashes.{cell_hash, mixed_all}
use Rattle.nested_arrays_builder_values.proofs.hashes.+hashing.Given as goal

-- the others go on as all would
abbrev pub invariant-hash_of_each-loop-cell : goal.invariant-hash_of_each-loop-cell
invariant-hash_of_each-loop-cell l = mixed_all l.hash (map cell_hash (drop l.cell-index l.cells)) ≡ mixed_all l.first (map cell_hash l.cells)
