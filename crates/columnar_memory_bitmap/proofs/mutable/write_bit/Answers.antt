use Rattle.std.proofs.Common.{◌≡◌, ◌∙◌, length, ap, if◌then◌else◌, ◌==◌}
use Rattle.std.proofs.lemmas.List.{with_items_is}
use Rattle.std.specs.Vec.{with_items}
use Rattle.columnar_memory_bits.specs.Bits.{bit_at}
use Rattle.columnar_memory_bitmap.proofs.mutable.write_bit.Goals as goal

pub returns-clause-written : goal.returns-clause-written
returns-clause-written c =
    let long : length c.set_bit.new.bytes ≡ c.args.to.now.len = c.set_bit.auto.bytes ∙ c.deref_mut.ensures.len in
    let same : (with_items c.args.to.now c.set_bit.new.bytes).items ≡ c.set_bit.new.bytes = with_items_is c.args.to.now c.set_bit.new.bytes long in
    λ j. ap (λ xs. bit_at xs j) same ∙ c.set_bit.ensures j
    ∙ ap (λ xs. if j == c.args.i then c.args.value else bit_at xs j) c.deref_mut.ensures.value
