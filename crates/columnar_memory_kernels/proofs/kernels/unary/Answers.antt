use Rattle.std.proofs.Common.{◌≡◌, ◌∙◌, ◌-◌, ◌*◌, min, length, ap, rules}
use Rattle.columnar_memory_bitmap.specs.bits.Words.{word_at}
use Rattle.columnar_memory_kernels.specs.Kernels.{part}
use Rattle.columnar_memory_kernels.proofs.Wordwise.{part_is_word, words_answered}
use Rattle.columnar_memory_kernels.proofs.Pairwise.{turned_or_none}
use Rattle.columnar_memory_kernels.proofs.kernels.unary.Goals as goal

pub returns-clause-words : goal.returns-clause-words
returns-clause-words g c =
    let bits = c.args.lhs.now in
    let n = c.len-len.result in
    let size : n ≡ length bits = c.len-len.ensures ∙ ap length c.of-bits.ensures in
    words_answered _ (λ k y. g.F.Fn.post c.args.op (word_at 64 bits k, tt) y) n bits _ c.from_u8_vec.result size
    c.in_ok-answered_words.ensures.answers c.from_u8_vec.ensures
    (λ k y h. let count = min 64 (n - 64 * k) in
    let said : g.F.Fn.post c.args.op (part bits (64 * k) count, tt) y = search rules in
    rw (part_is_word bits n k size) at said)

pub returns-clause-bits : goal.returns-clause-bits
returns-clause-bits g c = λ table acts.
    turned_or_none table (λ k y. g.F.Fn.post c.args.op (word_at 64 c.args.lhs.now k, tt) y) c.args.lhs.now _ (returns-clause-words g c)
    (λ k y i small said low. acts (word_at 64 c.args.lhs.now k) y i small said low)
