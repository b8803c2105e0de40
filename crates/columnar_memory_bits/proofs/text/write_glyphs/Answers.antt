use Rattle.std.proofs.Common.{◌∙◌, ◌+◌, ◌-◌, ◌*◌, ◌++◌, ℕ, List, ap, rules}
use Rattle.std.proofs.Output.{has_written_append, has_written_of_eq}
use Rattle.columnar_memory_bits.specs.Text.{glyph, glyphs}
use Rattle.columnar_memory_bits.proofs.Texts.{text_next}
use Rattle.columnar_memory_bits.proofs.text.write_glyphs.Goals as goal

pub loop-j-preserved : goal.loop-j-preserved
loop-j-preserved g c =
    let a = c.args in
    let before : List ℕ = glyphs a.bytes.now a.offset a.len a.k c.loop-j.j in
    let place : ℕ → List ℕ = λ j. glyph a.bytes.now a.offset a.len (8 * a.k + (7 - j)) in
    λ plain. has_written_of_eq _ _ _ _ _ (ap (λ (text : List ℕ). before ++ text) c.glyph.ensures ∙ text_next place c.loop-j.j)
    (has_written_append _ _ _ _ _ _ (c.loop-j.invariant plain) (search rules))
