use Rattle.std.proofs.Common.{◌≡◌, ◌∙◌, ◌/◌, ap, arith, rules, get_or, take, length, bit_and, set, ◌^◌, ◌-◌, ◌%◌, ◌<◌}
use Rattle.std.proofs.lemmas.Grind.{get_or_default_zero}
use Rattle.columnar_memory_bits.specs.Bits.{bytes_for}
use Rattle.columnar_memory_bits.proofs.LastBytes.{keeps_whole, keeps_part}
use Rattle.columnar_memory_bits.proofs.append.cut_bits.Goals as goal

pub returns-then-len-gt0 : goal.returns-then-len-gt0
returns-then-len-gt0 c =
    let old = c.args.to.now.items in
    let n = c.args.len in
    let cut : c.truncate.new.self.items ≡ take (bytes_for n) old = search rules in
    let within : n / 8 < length c.truncate.new.self.items = search rules in
    let byte : c.index.result.now ≡ get_or (take (bytes_for n) old) (n / 8) 0 =
    c.index.ensures ∙ get_or_default_zero c.truncate.new.self.items (n / 8) c.index.result.now within ∙ ap (λ bs. get_or bs (n / 8) 0) cut in
    keeps_part old _ n c.requires (omega arith)
    (ap (λ bs. set bs (n / 8) (bit_and c.index.result.now (255 / 2 ^ (8 - n % 8)))) cut
    ∙ ap (λ b. set (take (bytes_for n) old) (n / 8) (bit_and b (255 / 2 ^ (8 - n % 8)))) byte)

pub returns-else-len-gt0 : goal.returns-else-len-gt0
returns-else-len-gt0 c =
    let old = c.args.to.now.items in
    let cut : c.truncate.new.self.items ≡ take (bytes_for c.args.len) old = search rules in
    keeps_whole old c.truncate.new.self.items c.args.len c.requires c.if-len-gt0.false cut
