use Rattle.std.proofs.Common.{◌≡◌, ◌∙◌, ◌++◌, ◌+◌, ◌%◌, ◌≤◌, ℕ, Bool, List, ap, arith, rules, refl, length, vec_len}
use Rattle.columnar_memory_bits.specs.Bits.{bit, bit_at, bits_of}
use Rattle.columnar_memory_bits.specs.Appends.{AppendsBits}
use Rattle.columnar_memory_bits.specs.Words.{word}
use Rattle.columnar_memory_bits.proofs.Words.{word_small}
use Rattle.columnar_memory_bits.proofs.Appends.{appends_at, appends_none, appends_rest, appends_bits, appended_on_ok, appended_bits, appended_window}
use Rattle.columnar_memory_bits.proofs.append.append_bits.Goals as goal
use Rattle.columnar_memory_bits.proofs.append.append_bits.Goals.{After-extend_bits, then-held-gt0+else-done-len, else-held-gt0}

pub fill_last-requires-clause-small : goal.fill_last-requires-clause-small
fill_last-requires-clause-small c = word_small c.args.bytes.now c.args.offset c.min-done.result c.load_word.result c.load_word.ensures

-- what the first step adds
filled : (old reserved new bytes : List ℕ) (held offset n x : ℕ) → reserved ≡ old → AppendsBits reserved new held (bit x) n →
    x ≡ word (bits_of bytes offset n) →
    AppendsBits old new held (λ i. bit_at bytes (offset + i)) n
filled old reserved new bytes held offset n x same added e = appends_bits old new bytes held offset n x (rw same at added) e

pub returns-then-done-len-clause-ok : goal.returns-then-done-len-clause-ok
returns-then-done-len-clause-ok c =
    let old = c.args.to.now.items in
    let new = c.fill_last.new.to.items in
    let f : ℕ → Bool = λ i. bit_at c.args.bytes.now (c.args.offset + i) in
    let one = filled old c.reserve.new.self.items new c.args.bytes.now c.args.held c.args.offset c.min-done.result c.load_word.result
    c.reserve.ensures.items c.fill_last.ensures.added c.load_word.ensures in
    appended_bits old new c.args.held f c.args.len
    (appends_at old new f c.args.held c.args.held c.min-done.result c.args.len refl c.if-done-len.true one)
    ∙ ap (λ (xs : List Bool). bits_of old 0 c.args.held ++ xs) (appended_window c.args.bytes.now c.args.offset c.args.len)

-- what stands before the last step
begun : (c : After-extend_bits) →
    (AppendsBits c.args.to.now.items c.if-held-gt0.to.items c.args.held (λ i. bit_at c.args.bytes.now (c.args.offset + i)) c.if-held-gt0.done)
    × ((c.args.held + c.if-held-gt0.done) % 8 ≡ 0) × (c.if-held-gt0.done ≤ c.args.len)
begun c = elim c.if-held-gt0.branch [
  | then-held-gt0+else-done-len w ↦ (
    let one = filled c.args.to.now.items c.reserve.new.self.items w.fill_last.new.to.items c.args.bytes.now c.args.held c.args.offset
        w.min-done.result w.load_word.result c.reserve.ensures.items w.fill_last.ensures.added w.load_word.ensures in
        rw (w.to-is, w.done-is) one,
    omega arith,
    omega arith,
  )
  | else-held-gt0 w ↦ (
    rw (w.to-is, w.done-is, c.reserve.ensures.items) (appends_none c.args.to.now.items c.args.held (λ i. bit_at c.args.bytes.now
        (c.args.offset + i)) c.requires.packed),
    omega arith,
    omega arith,
  )
]

pub returns-clause-ok : goal.returns-clause-ok
returns-clause-ok c =
    let done = c.if-held-gt0.done in
    let first = begun c in
    let count : length c.if-held-gt0.to.items ≡ vec_len c.if-held-gt0.to = search rules in
    appended_on_ok c.extend_bits.result c.args.to.now.items c.extend_bits.new.to.items c.args.bytes.now c.args.held c.args.offset c.args.len
    c.extend_bits.ensures.ok (appends_rest c.args.to.now.items c.if-held-gt0.to.items c.extend_bits.new.to.items
    (λ i. bit_at c.args.bytes.now (c.args.offset + i)) (λ i. bit_at c.args.bytes.now (c.args.offset + done + i)) c.args.held done c.args.len
    (vec_len c.if-held-gt0.to) first.0 first.1 first.2 count c.extend_bits.ensures.added
    (λ i h. let same : c.args.offset + done + i ≡ c.args.offset + (done + i) = omega arith in ap (bit_at c.args.bytes.now) same))
