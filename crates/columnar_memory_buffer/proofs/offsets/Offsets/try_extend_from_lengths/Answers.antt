use Rattle.std.proofs.Common.{[], ◌∷◌, ◌++◌, ◌∙◌, ap}
use Rattle.std.proofs.iter.Next.{Yields-more}
use Rattle.std.proofs.lemmas.Result.{err_from_is_err_and}
use Rattle.columnar_memory_buffer.specs.Spans.{extended}
use Rattle.columnar_memory_buffer.proofs.Faults.{fault-unchanged, yields-from}
use Rattle.columnar_memory_buffer.proofs.offsets.Offsets.try_extend_from_lengths.Goals as goal

pub returns-in_err-last : goal.returns-in_err-last
returns-in_err-last g c =
    let p = err_from_is_err_and c.from_residual.result c.from_residual.ensures.1 in
    let more =
    Yields-more g.I.Iterator.next_gives c.into_iter-length-iterator.result c.loop-length.yielded c.loop-length.length-iterator c.in-Some.length
    c.next.new.self c.loop-length.yielded_by c.in-Some.ensures.steps in
    rw (p.1, p.2) (
      c.loop-length.yielded,
      c.in-Some.length,
      (
        c.next.new.self,
        yields-from g.I.Iterator.next_gives c.args.lengths c.into_iter-length-iterator.result (c.loop-length.yielded ++ c.in-Some.length ∷ [])
            c.next.new.self c.into_iter-length-iterator.ensures.into_iter_gives more,
      ),
      c.in_err-last.ensures.grows.0 ∙ c.loop-length.invariant.grown ∙ ap (λ spans. extended spans c.loop-length.yielded) c.reserve.ensures.same,
      fault-unchanged g.O.Index.greatest c.in-Some.length c.loop-length.self c.push_behind.new.self c.in_err-last.field-0.0
          c.in_err-last.ensures.grows.0 c.in_err-last.ensures.grows.1,
    )
