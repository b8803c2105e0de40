use Rattle.std.proofs.Common.{◌≡◌, ◌∙◌, ◌+◌, ◌-◌, ◌^◌, ◌<◌, ◌++◌, ◌∷◌, [], length, drop, ap, arith}
use Rattle.std.specs.Prelude.{ℤ, pos}
use Rattle.std.specs.Int.{w64, cast_signed, cast_unsigned}
use Rattle.std.proofs.lemmas.List.{length-drop}
use Rattle.ipc_format_column_bytes.proofs.Bodies.{ended, small_signed}
use Rattle.ipc_format_column_bytes.proofs.body.Body.end_buffer.Goals as goal

pub returns : goal.returns
returns c =
    let old = c.args.self.now.bytes.items in
    let o = c.args.self.now.offset in
    let start = c.args.start in
    let size : c.len.result - start ≡ length (drop start old) = omega (arith, length-drop start old) in
    let is : c.in-Some.end ≡ o + (length c.pad.new.to.items - start) = omega (arith, c.in-Some.ensures) in
    let padded = c.in_ok-pad.ensures in
    let small : o < 2 ^ 63 = omega (arith, c.in-Some.ensures) in
    let short : c.len.result - start < 2 ^ 63 = omega (arith, c.in-Some.ensures, is) in
    let few : length (drop start old) < 2 ^ 63 = omega (arith, short, size) in
    let again : ℤ → ℤ = λ z. cast_signed w64 (cast_unsigned w64 z) in
    let offset = ap again (c.cast_signed-offset.ensures ∙ small_signed o small) ∙ small_signed o small in
    let length_is = ap again (c.cast_signed-length.ensures ∙ small_signed (c.len.result - start) short ∙ ap pos size)
    ∙ small_signed (length (drop start old)) few in
    ended c.args.self.now.nodes.items c.args.self.now.buffers.items c.push.new.self.items old c.pad.new.to.items start o c.in-Some.end c.requires
    padded
    (c.in_ok-push.ensures.items ∙ (λ i. c.args.self.now.buffers.items ++ record { offset = offset i; length = length_is i } ∷ []))
    is
