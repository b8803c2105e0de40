use Rattle.std.proofs.Common.{◌≡◌, ◌∙◌, ◌+◌, ◌-◌, ◌*◌, ◌/◌, ℕ, min, ap, sym, subst, arith}
use Rattle.columnar_memory_bitmap.specs.bits.Bits.{bit, bits_of}
use Rattle.columnar_memory_bitmap.proofs.bits_lemmas.Appends.{appended_bits, appended_packed}
use Rattle.columnar_memory_kernels.proofs.Wordwise.{IsAnswered, packed_none, none_answered, next_answered, all_answered, last_answered, word_appended}
use Rattle.columnar_memory_kernels.proofs.words.answered_words.Goals as goal
use Rattle.columnar_memory_kernels.proofs.words.answered_words.Goals.{then-rest-gt0+in_ok-append_word, else-rest-gt0}

pub loop-k-init : goal.loop-k-init
loop-k-init g c = record {
  room = omega (arith, c.in_ok-out.ensures.capacity, c.bytes_for.ensures);
  packed = packed_none _ c.in_ok-out.ensures.items;
  answered = none_answered _;
}

pub push_word-requires : goal.push_word-requires
push_word-requires g c = omega (arith, c.loop-k.invariant.room, c.loop-k.invariant.packed.counted)

pub answer-requires : goal.answer-requires
answer-requires g c = c.requires _ _ (omega arith) (omega arith)

pub answer-last-requires : goal.answer-last-requires
answer-last-requires g c = c.requires _ _ (omega arith) (omega arith)

pub loop-k-preserved : goal.loop-k-preserved
loop-k-preserved g c =
    let k = c.loop-k.k in
    let next : 64 * k + 64 ≡ 64 * (k + 1) = omega arith in
    let whole : 64 ≡ min 64 (c.args.len - 64 * k) = omega arith in
    let here = subst (λ count. g.F.Fn.post c.args.answer (64 * k, (count, tt)) c.answer.result) whole c.answer.ensures in
    let old = c.loop-k.out.items in
    let new = c.push_word.new.to.items in
    let added = word_appended old new k c.answer.result c.loop-k.invariant.packed (omega arith) c.push_word.ensures.items in
    record {
      room = omega (arith, c.loop-k.invariant.room, c.push_word.ensures.room);
      packed = rw next at (appended_packed old new (64 * k) (bit c.answer.result) 64 added);
      answered = next_answered (λ j y. g.F.Fn.post c.args.answer (64 * j, (min 64 (c.args.len - 64 * j), tt)) y) k c.answer.result _ _
          c.loop-k.invariant.answered here
          (ap (bits_of new 0) (sym next) ∙ appended_bits old new (64 * k) (bit c.answer.result) 64 added);
    }

pub returns-clause-answers : goal.returns-clause-answers
returns-clause-answers g c =
    let words = c.args.len / 64 in
    let rest = c.args.len - 64 * words in
    let last : c.loop-k.k ≡ words = omega arith in
    let answers : ℕ → ℕ → Type 0 = λ j y. g.F.Fn.post c.args.answer (64 * j, (min 64 (c.args.len - 64 * j), tt)) y in
    let so_far : IsAnswered answers words (bits_of c.loop-k.out.items 0 (64 * words)) =
    subst (λ n. IsAnswered answers n (bits_of c.loop-k.out.items 0 (64 * n))) last c.loop-k.invariant.answered in
    elim c.if-rest-gt0.branch [
      | then-rest-gt0+in_ok-append_word w ↦
          (let part : rest ≡ min 64 (c.args.len - 64 * words) = omega arith in
          let here = subst (λ count. g.F.Fn.post c.args.answer (64 * words, (count, tt)) w.answer-last.result) part w.answer-last.ensures in
          let whole : c.args.len ≡ 64 * words + rest = omega arith in
          rw w.out-is (last_answered answers words rest w.answer-last.result c.args.len (bits_of c.loop-k.out.items 0 (64 * words)) _ so_far here
          (omega arith) (omega arith) whole (ap (bits_of w.append_word.new.to.items 0) whole ∙ w.in_ok-append_word.ensures.ok)))
      | else-rest-gt0 w ↦
          (let whole : c.args.len ≡ 64 * words = omega arith in
          rw w.out-is (all_answered answers words c.args.len _ (subst (λ n. IsAnswered answers words (bits_of c.loop-k.out.items 0 n))
          (sym whole) so_far) whole))
    ]
