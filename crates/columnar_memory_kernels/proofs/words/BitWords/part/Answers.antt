use Rattle.std.proofs.Common.{◌∙◌, ◌+◌, ◌≤◌, ap, sym, length, take, drop, arith, List, Bool}
use Rattle.columnar_memory_bitmap.specs.bits.Bits.{bit_at}
use Rattle.columnar_memory_bitmap.specs.bits.Words.{word}
use Rattle.columnar_memory_bitmap.proofs.bits_lemmas.Windows.{length_window, part_of_window}
use Rattle.columnar_memory_kernels.proofs.words.BitWords.part.Goals as goal

pub overflow_add-self-inside : goal.overflow_add-self-inside
overflow_add-self-inside c =
    let it = c.self.inside in
    omega (arith, c.requires.within, ap length c.self.view_is, length_window (bit_at it.bytes.now) it.offset it.len, c.self.invariant)

pub load_word-requires-clause-in_range : goal.load_word-requires-clause-in_range
load_word-requires-clause-in_range c =
    let it = c.self.inside in
    omega (arith, c.requires.within, ap length c.self.view_is, length_window (bit_at it.bytes.now) it.offset it.len, c.self.invariant)

pub returns : goal.returns
returns c =
    let it = c.self.inside in
    let within : c.args.first + c.args.count ≤ it.len =
    omega (arith, c.requires.within, ap length c.self.view_is, length_window (bit_at it.bytes.now) it.offset it.len) in
    c.load_word.ensures ∙ ap word (sym (part_of_window (bit_at it.bytes.now) it.offset c.args.first c.args.count it.len within)
    ∙ ap (λ (bits : List Bool). take c.args.count (drop c.args.first bits)) c.self.view_is)
