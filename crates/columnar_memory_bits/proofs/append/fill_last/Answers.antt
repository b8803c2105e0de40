use Rattle.std.proofs.Common.{◌≡◌, ◌∙◌, ◌*◌, ◌/◌, ◌%◌, ◌^◌, ◌<◌, ap, arith, get_or, set, bit_or, length}
use Rattle.std.proofs.lemmas.Grind.{get_or_default_zero}
use Rattle.columnar_memory_bits.proofs.LastBytes.{fills}
use Rattle.columnar_memory_bits.proofs.append.fill_last.Goals as goal

pub returns-clause-added : goal.returns-clause-added
returns-clause-added c =
    let old = c.args.to.now.items in
    let held = c.args.held in
    let within : held / 8 < length old = omega (arith, c.requires.packed.counted) in
    let byte : c.index.result.now ≡ get_or old (held / 8) 0 = c.index.ensures ∙ get_or_default_zero old (held / 8) c.index.result.now within in
    fills old _ held c.args.len c.args.word c.requires.packed c.requires.begun c.requires.room c.requires.small
    (ap (λ b. set old (held / 8) (bit_or b (c.args.word * 2 ^ (held % 8) % 256))) byte)
