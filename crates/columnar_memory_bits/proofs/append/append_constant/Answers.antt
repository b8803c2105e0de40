use Rattle.std.proofs.Common.{◌≡◌, ◌+◌, ◌%◌, ◌<◌, ◌≤◌, ℕ, Bool, List, arith, rules, refl, length, vec_len}
use Rattle.columnar_memory_bits.specs.Bits.{bit}
use Rattle.columnar_memory_bits.specs.Appends.{AppendsBits}
use Rattle.columnar_memory_bits.proofs.Appends.{appends_at, appends_none, appends_rest, appends_constant, appended_constant, constant_on_ok}
use Rattle.columnar_memory_bits.proofs.append.append_constant.Goals as goal
use Rattle.columnar_memory_bits.proofs.append.append_constant.Goals.{After-extend_constant, then-held-gt0+else-done-len, else-held-gt0}

-- what the first step adds
filled : (old reserved new : List ℕ) (held n x : ℕ) (value : Bool) → reserved ≡ old → AppendsBits reserved new held (bit x) n →
    ((i : ℕ) → i < n → bit x i ≡ value) → AppendsBits old new held (λ _. value) n
filled old reserved new held n x value same added e = appends_constant old new held n x value (rw same at added) e

pub returns-then-done-len-clause-ok : goal.returns-then-done-len-clause-ok
returns-then-done-len-clause-ok c =
    let old = c.args.to.now.items in
    let new = c.fill_last.new.to.items in
    let one = filled old c.reserve.new.self.items new c.args.held c.min-done.result c.constant_word.result c.args.value
    c.reserve.ensures.items c.fill_last.ensures.added c.constant_word.ensures.bits in
    appended_constant old new c.args.held c.args.len c.args.value
    (appends_at old new (λ _. c.args.value) c.args.held c.args.held c.min-done.result c.args.len refl c.if-done-len.true one)

-- what stands before the last step
begun : (c : After-extend_constant) → (AppendsBits c.args.to.now.items c.if-held-gt0.to.items c.args.held (λ _. c.args.value) c.if-held-gt0.done)
    × ((c.args.held + c.if-held-gt0.done) % 8 ≡ 0) × (c.if-held-gt0.done ≤ c.args.len)
begun c = elim c.if-held-gt0.branch [
  | then-held-gt0+else-done-len w ↦ (
    let one = filled c.args.to.now.items c.reserve.new.self.items w.fill_last.new.to.items c.args.held w.min-done.result
        w.constant_word.result c.args.value c.reserve.ensures.items w.fill_last.ensures.added w.constant_word.ensures.bits in
        rw (w.to-is, w.done-is) one,
    omega arith,
    omega arith,
  )
  | else-held-gt0 w ↦ (
    rw (w.to-is, w.done-is, c.reserve.ensures.items) (appends_none c.args.to.now.items c.args.held (λ _. c.args.value) c.requires.packed),
    omega arith,
    omega arith,
  )
]

pub returns-clause-ok : goal.returns-clause-ok
returns-clause-ok c =
    let first = begun c in
    let count : length c.if-held-gt0.to.items ≡ vec_len c.if-held-gt0.to = search rules in
    constant_on_ok c.extend_constant.result c.args.to.now.items c.extend_constant.new.to.items c.args.held c.args.len c.args.value
    c.extend_constant.ensures.ok (appends_rest c.args.to.now.items c.if-held-gt0.to.items c.extend_constant.new.to.items (λ _. c.args.value)
    (λ _. c.args.value) c.args.held c.if-held-gt0.done c.args.len (vec_len c.if-held-gt0.to) first.0 first.1 first.2 count
    c.extend_constant.ensures.added (λ i h. refl))
