use Rattle.columnar_memory_bitmap.proofs.Combining.{bit-and, bit-or, bit-xor}
use Rattle.columnar_memory_bitmap.proofs.operators.combined.Goals as goal

pub returns-in-And : goal.returns-in-And
returns-in-And c = rw c.in-And.is (λ i. bit-and c.args.left c.args.right i)

pub returns-in-Or : goal.returns-in-Or
returns-in-Or c = rw c.in-Or.is (λ i. bit-or c.args.left c.args.right i)

pub returns-in-Xor : goal.returns-in-Xor
returns-in-Xor c = rw c.in-Xor.is (λ i. bit-xor c.args.left c.args.right i)
