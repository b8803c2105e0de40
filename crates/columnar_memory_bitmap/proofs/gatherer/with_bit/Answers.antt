use Rattle.std.proofs.Common.{refl}
use Rattle.columnar_memory_bitmap.proofs.Gathering.{bits_with_more}
use Rattle.columnar_memory_bitmap.proofs.gatherer.with_bit.Goals as goal

pub returns-clause-bits : goal.returns-clause-bits
returns-clause-bits c = bits_with_more c.args.word c.args.count _ c.from.result c.args.value c.from.ensures c.requires.few c.requires.small refl
