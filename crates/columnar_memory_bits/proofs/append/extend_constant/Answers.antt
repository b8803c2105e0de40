use Rattle.std.proofs.Common.{◌≡◌, ◌∙◌, ◌++◌, ◌*◌, ◌+◌, ◌-◌, ◌<◌, ℕ, ap, ap₂, sym, arith, rules, refl, take, replicate, length, vec_len}
use Rattle.std.proofs.lemmas.List.{take_all}
use Rattle.columnar_memory_bits.specs.Bits.{bit, bytes_for}
use Rattle.columnar_memory_bits.specs.Appends.{KeepsBits}
use Rattle.columnar_memory_bits.proofs.Appends.{appends_at}
use Rattle.columnar_memory_bits.proofs.LastBytes.{extends_constant, ones_set, zero_unset}
use Rattle.columnar_memory_bits.proofs.append.extend_constant.Goals as goal
use Rattle.columnar_memory_bits.proofs.append.extend_constant.Goals.{then-value, else-value}

pub returns-clause-added : goal.returns-clause-added
returns-clause-added c =
    let old = c.args.to.now.items in
    let mid = c.resize.new.self.items in
    let new = c.cut_bits.new.to.items in
    let byte = c.if-value.byte in
    let more = bytes_for c.args.len in
    let size : length old ≡ vec_len c.args.to.now = search rules in
    let grown : mid ≡ take (vec_len c.args.to.now + more) old ++ replicate
    (vec_len c.args.to.now + more - vec_len c.args.to.now) byte = search rules in
    let all : take (vec_len c.args.to.now + more) old ≡ old = take_all (vec_len c.args.to.now + more) old (omega arith) in
    let added : vec_len c.args.to.now + more - vec_len c.args.to.now ≡ more = omega arith in
    let e : mid ≡ old ++ replicate more byte = grown ∙ ap₂ (λ xs n. xs ++ replicate n byte) all added in
    let count : 8 * length old ≡ 8 * vec_len c.args.to.now = omega arith in
    let whole : 8 * c.len-held.result + c.args.len ≡ 8 * length old + c.args.len = omega arith in
    let kept : KeepsBits mid new (8 * length old + c.args.len) = rw whole at c.cut_bits.ensures in
    let same : (r : ℕ) → r < 8 → bit byte r ≡ c.args.value = elim c.if-value.branch [
      | then-value w ↦ λ r h. ap (λ b. bit b r) w.byte-is ∙ ones_set 8 r h ∙ sym w.if-value.true
      | else-value w ↦ λ r h. ap (λ b. bit b r) w.byte-is ∙ zero_unset r ∙ sym w.if-value.false
    ] in
    appends_at old new (λ _. c.args.value) (8 * length old) (8 * vec_len c.args.to.now) c.args.len c.args.len count refl
    (extends_constant old mid new byte c.args.len c.args.value e same kept)
