use Rattle.std.proofs.Common.{length}
use Rattle.nested_arrays_generic_builders.proofs.fields.+have_len.Given as goal

abbrev pub decreases-have_len : goal.decreases-have_len
decreases-have_len l = length l.builders.now
