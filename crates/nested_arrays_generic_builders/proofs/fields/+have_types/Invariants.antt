use Rattle.std.proofs.Common.{length}
use Rattle.nested_arrays_generic_builders.proofs.fields.+have_types.Given as goal

abbrev pub decreases-have_types : goal.decreases-have_types
decreases-have_types l = length l.builders.now
