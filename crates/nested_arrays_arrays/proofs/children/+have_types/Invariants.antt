use Rattle.std.proofs.Common.{length}
use Rattle.nested_arrays_arrays.proofs.children.+have_types.Given as goal

abbrev pub decreases-have_types : goal.decreases-have_types
decreases-have_types l = length l.arrays.now
