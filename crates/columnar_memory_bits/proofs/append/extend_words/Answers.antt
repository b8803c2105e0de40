use Rattle.std.proofs.Common.{◌≡◌, ℕ, Bool, ◌+◌, ◌*◌, ◌-◌, ◌/◌, arith, rules, length, vec_len, refl}
use Rattle.columnar_memory_bits.specs.Bits.{bit, bit_at}
use Rattle.columnar_memory_bits.proofs.Words.{word_small}
use Rattle.columnar_memory_bits.proofs.Appends.{appends_next, appends_none, appends_at, bit_at_beyond}
use Rattle.columnar_memory_bits.proofs.append.extend_words.Goals as goal

pub loop-k-init : goal.loop-k-init
loop-k-init c =
    let old = c.args.to.now.items in
    let count : length old ≡ vec_len c.args.to.now = search rules in
    record {
      added = appends_none old (8 * vec_len c.args.to.now) (λ i. bit_at c.args.bytes.now (c.args.offset + i))
          (record { counted = omega arith; zeros = λ i h. bit_at_beyond old i (omega arith) });
      room = omega arith;
    }

pub loop-k-preserved : goal.loop-k-preserved
loop-k-preserved c =
    let old = c.args.to.now.items in
    let mid = c.loop-k.to.items in
    let new = c.extend_word.new.to.items in
    let held = 8 * vec_len c.args.to.now in
    let count : length mid ≡ vec_len c.loop-k.to = search rules in
    let place : 8 * vec_len c.loop-k.to ≡ held + 64 * c.loop-k.k = omega (arith, c.loop-k.invariant.added.counted) in
    let next : 64 * c.loop-k.k + 64 ≡ 64 * (c.loop-k.k + 1) = omega arith in
    let two = appends_at mid new (bit c.load_word.result) (8 * vec_len c.loop-k.to)
    (held + 64 * c.loop-k.k) 64 64 place refl c.extend_word.ensures.added in
    let all = appends_next old mid new c.args.bytes.now c.args.offset held
    (64 * c.loop-k.k) 64 c.load_word.result c.loop-k.invariant.added two c.load_word.ensures in
    record {
      added = appends_at old new (λ i. bit_at c.args.bytes.now (c.args.offset + i)) held held (64 * c.loop-k.k + 64) (64 *
          (c.loop-k.k + 1)) refl next all;
      room = omega arith;
    }

pub extend_word-requires-2-clause-small : goal.extend_word-requires-2-clause-small
extend_word-requires-2-clause-small c = word_small c.args.bytes.now _ _ c.load_word-2.result c.load_word-2.ensures

pub returns-clause-added : goal.returns-clause-added
returns-clause-added c =
    let old = c.args.to.now.items in
    let mid = c.loop-k.to.items in
    let new = c.extend_word-2.new.to.items in
    let held = 8 * vec_len c.args.to.now in
    let words = c.args.len / 64 in
    let rest = c.args.len - 64 * words in
    let f : ℕ → Bool = λ i. bit_at c.args.bytes.now (c.args.offset + i) in
    let count : length mid ≡ vec_len c.loop-k.to = search rules in
    let last : 64 * c.loop-k.k ≡ 64 * words = omega arith in
    let place : 8 * vec_len c.loop-k.to ≡ held + 64 * words = omega (arith, c.loop-k.invariant.added.counted) in
    let whole : 64 * words + rest ≡ c.args.len = omega arith in
    let one = appends_at old mid f held held (64 * c.loop-k.k) (64 * words) refl last c.loop-k.invariant.added in
    let two = appends_at mid new (bit c.load_word-2.result) (8 * vec_len c.loop-k.to)
    (held + 64 * words) rest rest place refl c.extend_word-2.ensures.added in
    let all = appends_next old mid new c.args.bytes.now c.args.offset held (64 * words) rest c.load_word-2.result one two c.load_word-2.ensures in
    appends_at old new f held held (64 * words + rest) c.args.len refl whole all
