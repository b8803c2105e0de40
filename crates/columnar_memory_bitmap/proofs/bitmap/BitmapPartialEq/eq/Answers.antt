use Rattle.columnar_memory_bitmap.proofs.SameWords.{equal_by_test}
use Rattle.columnar_memory_bitmap.proofs.bitmap.BitmapPartialEq.eq.Goals as goal

pub returns-clause-value : goal.returns-clause-value
returns-clause-value c = equal_by_test c.has_bits_of.result c.args.self.now c.args.other.now c.has_bits_of.ensures
