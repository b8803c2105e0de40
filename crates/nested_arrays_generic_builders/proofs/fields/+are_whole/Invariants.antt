use Rattle.std.proofs.Common.{length}
use Rattle.nested_arrays_generic_builders.proofs.fields.+are_whole.Given as goal

abbrev pub decreases-are_whole : goal.decreases-are_whole
decreases-are_whole l = length l.builders.now
