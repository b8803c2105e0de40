-- The arrays that are left decide.
use Rattle.std.proofs.Common.{◌≡◌, drop}
use Rattle.tables_chunks.specs.StoredTables.{is_of_fields}
use Rattle.tables_chunks.proofs.batches.have_their_types.Given as goal

abbrev pub invariant-loop-k : goal.invariant-loop-k
invariant-loop-k l = is_of_fields l.fields l.arrays ≡ is_of_fields (drop l.k l.fields) (drop l.k l.arrays)
