use Rattle.std.proofs.Common.{◌≡◌, ◌<◌, ℕ, ◌+◌, ◌%◌, ◌/◌, ◌-◌, ◌∙◌, ap, arith, length, take, drop}
use Rattle.std.specs.Int as number
use Rattle.columnar_memory_bits.proofs.Bits.{digit}
use Rattle.columnar_memory_bits.proofs.Loads.{word_cut, digits_in_eight, digits_in_nine}
use Rattle.columnar_memory_bits.proofs.load.load_word.Goals as goal
use Rattle.columnar_memory_bits.proofs.load.load_word.Goals.{then-shift-len-le64, else-shift-len-le64}

pub returns : goal.returns
returns c =
    let offset = c.args.offset in
    let bytes = c.args.bytes.now in
    let part = take (length bytes - offset / 8) (drop (offset / 8) bytes) in
    let found = c.if-shift-len-le64.found in
    let digits : (i : ℕ) → i < c.args.len → number.bit_at found i ≡ digit part (offset % 8 + i) =
    elim c.if-shift-len-le64.branch [
      | then-shift-len-le64 w ↦ λ i h. ap (λ n. number.bit_at n i) w.found-is
          ∙ digits_in_eight part c.first_bytes.result (offset % 8) c.first_bytes.type_inv (omega arith) c.first_bytes.ensures i (omega arith)
      | else-shift-len-le64 w ↦ λ i h. ap (λ n. number.bit_at n i) w.found-is
          ∙ digits_in_nine part c.first_bytes.result (offset % 8) c.first_bytes.type_inv (omega arith) c.first_bytes.ensures w.from.result i
          (omega arith) w.from.ensures
    ] in
    word_cut bytes offset c.args.len found c.requires.few c.if-len-eq0.false digits
