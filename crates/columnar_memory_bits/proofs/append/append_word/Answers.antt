use Rattle.std.proofs.Common.{◌≡◌, ◌∙◌, ◌*◌, ◌%◌, ◌^◌, ap, arith, rules, refl, length, vec_len}
use Rattle.std.proofs.lemmas.Nat.{mod_below, pow_pos}
use Rattle.columnar_memory_bits.specs.Bits.{bit}
use Rattle.columnar_memory_bits.specs.Appends.{AppendsBits}
use Rattle.columnar_memory_bits.proofs.Bits.{bit_same, digit_mod}
use Rattle.columnar_memory_bits.proofs.Appends.{appends_at, appends_as, window_on_ok}
use Rattle.columnar_memory_bits.proofs.append.append_word.Goals as goal

pub extend_word-requires-clause-small : goal.extend_word-requires-clause-small
extend_word-requires-clause-small c = rw c.low_bits.ensures (mod_below c.args.word (2 ^ c.args.len) (pow_pos c.args.len))

pub returns-clause-ok : goal.returns-clause-ok
returns-clause-ok c =
    let old = c.args.to.now.items in
    let new = c.extend_word.new.to.items in
    let n = c.args.len in
    let word = c.args.word in
    let count : length old ≡ vec_len c.reserve.new.self = search rules in
    let place : 8 * vec_len c.reserve.new.self ≡ c.args.held = omega (arith, c.requires.packed.counted) in
    let one = appends_at c.reserve.new.self.items new (bit c.low_bits.result)
    (8 * vec_len c.reserve.new.self) c.args.held n n place refl c.extend_word.ensures.added in
    let two : AppendsBits old new c.args.held (bit c.low_bits.result) n = rw c.reserve.ensures.items at one in
    let all = appends_as old new c.args.held n (bit c.low_bits.result) (bit word) two
    (λ i h. ap (λ x. bit x i) c.low_bits.ensures ∙ bit_same (word % 2 ^ n) word i i (digit_mod word n i h)) in
    window_on_ok c.extend_word.result old new c.args.held n (bit word) c.extend_word.ensures.ok all
