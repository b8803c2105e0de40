use Rattle.std.proofs.Common.{◌≡◌, ◌∙◌, ◌-◌, ◌*◌, min, length, ap, rules}
use Rattle.columnar_memory_bitmap.specs.bits.Words.{word_at}
use Rattle.columnar_memory_kernels.specs.Kernels.{part}
use Rattle.columnar_memory_kernels.proofs.Wordwise.{part_is_word, words_answered}
use Rattle.columnar_memory_kernels.proofs.Pairwise.{combined_or_none}
use Rattle.columnar_memory_kernels.proofs.kernels.binary.Goals as goal

pub returns-clause-words : goal.returns-clause-words
returns-clause-words g c =
    let left = c.args.lhs.now in
    let right = c.args.rhs.now in
    let n = c.len-len.result in
    let size : n ≡ length left = c.len-len.ensures ∙ ap length c.of-left.ensures in
    words_answered _ (λ k y. g.F.Fn.post c.args.op (word_at 64 left k, (word_at 64 right k, tt)) y) n left _ c.from_u8_vec.result size
    c.in_ok-answered_words.ensures.answers c.from_u8_vec.ensures
    (λ k y h. let count = min 64 (n - 64 * k) in
    let said : g.F.Fn.post c.args.op (part left (64 * k) count, (part right (64 * k) count, tt)) y = search rules in
    rw (part_is_word left n k size, part_is_word right n k (size ∙ c.requires.lengths)) at said)

pub returns-clause-bits : goal.returns-clause-bits
returns-clause-bits g c = λ table acts.
    combined_or_none table (λ k y. g.F.Fn.post c.args.op (word_at 64 c.args.lhs.now k, (word_at 64 c.args.rhs.now k, tt)) y)
    c.args.lhs.now c.args.rhs.now _ (returns-clause-words g c) c.requires.lengths
    (λ k y i small other said low. acts (word_at 64 c.args.lhs.now k) (word_at 64 c.args.rhs.now k) y i small other said low)
