use Rattle.std.proofs.Common.{◌≡◌, ◌∙◌, ◌%◌, ◌^◌, ap, sym, arith}
use Rattle.columnar_memory_bits.proofs.Loads.{mask_is}
use Rattle.columnar_memory_bits.proofs.load.low_bits.Goals as goal

pub returns-then-len-eq0 : goal.returns-then-len-eq0
returns-then-len-eq0 c =
    let one : 0 ≡ c.args.word % 1 = omega arith in
    one ∙ ap (λ n. c.args.word % 2 ^ n) (sym c.if-len-eq0.true)

pub returns-else-len-eq0 : goal.returns-else-len-eq0
returns-else-len-eq0 c = mask_is c.args.word c.args.len c.requires
