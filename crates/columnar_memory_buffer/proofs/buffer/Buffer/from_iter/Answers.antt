use Rattle.std.proofs.Common.{◌∙◌}
use Rattle.std.proofs.lemmas.Result.{MatchResult-weaker}
use Rattle.columnar_memory_buffer.proofs.buffer.Buffer.from_iter.Goals as goal

pub returns : goal.returns
returns g c =
    let run = c.in_ok-vec.ensures.runs tt in
    MatchResult-weaker c.from_vec.result c.from_vec.ensures (λ b e. (run.0, run.1, run.2, e ∙ run.3.0)) (λ e h. h)
