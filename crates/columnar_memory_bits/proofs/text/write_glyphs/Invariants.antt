use Rattle.std.specs.Fmt.{HasWritten, IsPlainFormatter}
use Rattle.columnar_memory_bits.specs.Text.{glyphs}
use Rattle.columnar_memory_bits.proofs.text.write_glyphs.Given as goal

abbrev pub invariant-loop-j : goal.invariant-loop-j
invariant-loop-j g l =
    IsPlainFormatter l.initial.f → HasWritten g.W.Write.write_str_gives l.initial.f (glyphs l.bytes l.offset l.len l.k l.j) l.f
