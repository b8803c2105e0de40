use Rattle.std.proofs.Common.{◌≡◌, ◌∙◌, ◌-◌, ◌*◌, min, length, ap, rules}
use Rattle.columnar_memory_bitmap.specs.bits.Words.{word_at}
use Rattle.columnar_memory_kernels.specs.Kernels.{part}
use Rattle.columnar_memory_kernels.proofs.Wordwise.{part_is_word, words_answered}
use Rattle.columnar_memory_kernels.proofs.Pairwise.{fourwise_or_none}
use Rattle.columnar_memory_kernels.proofs.kernels.quaternary.Goals as goal

pub returns-clause-words : goal.returns-clause-words
returns-clause-words g c =
    let one = c.args.a1.now in
    let two = c.args.a2.now in
    let three = c.args.a3.now in
    let four = c.args.a4.now in
    let n = c.len-len.result in
    let size : n ≡ length one = c.len-len.ensures ∙ ap length c.of-one.ensures in
    words_answered _ (λ k y. g.F.Fn.post c.args.op (word_at 64 one k, (word_at 64 two k, (word_at 64 three k, (word_at 64 four k, tt)))) y) n one _
    c.from_u8_vec.result size c.in_ok-answered_words.ensures.answers c.from_u8_vec.ensures
    (λ k y h. let count = min 64 (n - 64 * k) in
    let first = 64 * k in
    let said : g.F.Fn.post c.args.op (part one first count, (part two first count, (part three first count, (part four first count, tt)))) y =
    search rules in
    rw (
      part_is_word one n k size,
      part_is_word two n k (size ∙ c.requires.second),
      part_is_word three n k (size ∙ c.requires.third),
      part_is_word four n k (size ∙ c.requires.fourth),
    ) at said)

pub returns-clause-bits : goal.returns-clause-bits
returns-clause-bits g c = λ table acts.
    let one = c.args.a1.now in
    let two = c.args.a2.now in
    let three = c.args.a3.now in
    let four = c.args.a4.now in
    fourwise_or_none table (λ k y. g.F.Fn.post c.args.op (word_at 64 one k, (word_at 64 two k, (word_at 64 three k, (word_at 64 four k, tt)))) y)
    one two three four _ (returns-clause-words g c)
    (λ k y i small1 small2 small3 small4 said low.
    acts (word_at 64 one k) (word_at 64 two k) (word_at 64 three k) (word_at 64 four k) y i small1 small2 small3 small4 said low)
