use Rattle.std.proofs.Common.{rules}
use Rattle.std.proofs.Output.{has_written_append, has_written_of_eq}
use Rattle.columnar_memory_bits.specs.Text.{byte_text}
use Rattle.columnar_memory_bits.proofs.Texts.{text_next}
use Rattle.columnar_memory_bits.proofs.text.write_bytes.Goals as goal

pub loop-k-preserved : goal.loop-k-preserved
loop-k-preserved g c =
    let a = c.args in
    λ plain. has_written_of_eq _ _ _ _ _ (text_next (byte_text a.bytes.now a.offset a.len) c.loop-k.k)
    (has_written_append _ _ _ _ _ _ (c.loop-k.invariant plain) (search rules))
