use Rattle.std.proofs.Common.{◌∙◌, ap, sym, length, Some}
use Rattle.columnar_memory_native.specs.Ranges.{length-integers}
use Rattle.columnar_memory_native.proofs.range.IndexRangeIterator.size_hint.Goals as goal

pub returns : goal.returns
returns g c =
    let size = sym (length-integers (g.I.Number.value c.self.inside.start) c.self.inside.left) ∙ ap length c.self.view_is in
    λ i. (size i, Some (size i))
