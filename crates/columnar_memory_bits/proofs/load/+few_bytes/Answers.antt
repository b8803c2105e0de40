use Rattle.columnar_memory_bits.proofs.Loads.{number_of_few}
use Rattle.columnar_memory_bits.proofs.load.+few_bytes.Goals as goal

pub returns-in-len1-up : goal.returns-in-len1-up
returns-in-len1-up t c =
    number_of_few c.args.bytes.now c.few_bytes.result c.from.result (λ k.
    (c.type_inv.bytes k).fits) c.in-len1-up.len_at_least c.requires c.few_bytes.ensures c.from.ensures
