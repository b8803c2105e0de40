use Rattle.std.proofs.Common.{◌≡◌, ◌∙◌, ◌<◌, ◌++◌, ℕ, List, [], ◌∷◌, ap, arith, get_or, length}
use Rattle.std.specs.Int.{w64, to_le_bytes}
use Rattle.columnar_memory_kernels.proofs.Wordwise.{one_byte_more}
use Rattle.columnar_memory_kernels.proofs.words.push_word.Goals as goal

pub loop-byte-preserved : goal.loop-byte-preserved
loop-byte-preserved c =
    let bytes = to_le_bytes w64 c.args.word in
    let k = c.loop-byte.byte-index in
    let spelled : c.as_slice-byte-items.result.now ≡ bytes = c.as_slice-byte-items.ensures ∙ c.to_le_bytes.ensures in
    let size : length c.as_slice-byte-items.result.now ≡ 8 = ap length spelled in
    let inside : k < 8 = omega (arith, size, c.loop-byte-test.true) in (
      one_byte_more bytes k 0 c.args.to.now.items c.loop-byte.to.items c.push_reserved.new.self.items inside c.loop-byte.invariant.0
          (c.push_reserved.ensures.items ∙ ap (λ (all : List ℕ). c.loop-byte.to.items ++ get_or all k 0 ∷ []) spelled),
      omega (arith, c.loop-byte.invariant.1, c.push_reserved.ensures.len),
      c.push_reserved.ensures.capacity ∙ c.loop-byte.invariant.2,
    )
