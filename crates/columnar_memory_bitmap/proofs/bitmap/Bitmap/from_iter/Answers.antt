use Rattle.std.proofs.Common.{◌∙◌}
use Rattle.std.proofs.lemmas.Result.{MatchResult-weaker}
use Rattle.columnar_memory_bitmap.proofs.bitmap.Bitmap.from_iter.Goals as goal

pub returns : goal.returns
returns g c =
    let run = c.in_ok-from_iter.ensures in
    MatchResult-weaker c.freeze.result c.freeze.ensures (λ b same. (run.0, run.1, run.2, same ∙ run.3)) (λ e q. q)
