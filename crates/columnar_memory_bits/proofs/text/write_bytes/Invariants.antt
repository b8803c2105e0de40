use Rattle.std.specs.Fmt.{HasWritten, IsPlainFormatter}
use Rattle.columnar_memory_bits.specs.Text.{bytes_text}
use Rattle.columnar_memory_bits.proofs.text.write_bytes.Given as goal

abbrev pub invariant-loop-k : goal.invariant-loop-k
invariant-loop-k g l =
    IsPlainFormatter l.initial.f → HasWritten g.W.Write.write_str_gives l.initial.f (bytes_text l.bytes l.offset l.len l.k) l.f
