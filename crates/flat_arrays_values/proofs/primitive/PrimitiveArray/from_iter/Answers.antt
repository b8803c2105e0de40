use Rattle.std.proofs.Common.{◌∙◌}
use Rattle.std.proofs.lemmas.Result.{MatchResult-weaker}
use Rattle.std.proofs.iter.runs.Made.{run_of_exit}
use Rattle.columnar_memory_core.specs.Conversions.{type_of_primitive}
use Rattle.flat_arrays_values.proofs.MarkPlaces.{gathered_slots}
use Rattle.flat_arrays_values.proofs.primitive.PrimitiveArray.from_iter.Goals as goal

pub returns : goal.returns
returns g c =
    let given = c.into_iter-slot-iterator in
    let zero = c.default-zero in
    let loop = c.loop-slot in
    let run = run_of_exit g.I.Iterator.next_gives given.result loop.yielded loop.slot-iterator loop.yielded_by
    c.next.new.self c.in-None.ensures.steps in
    MatchResult-weaker c.from_gathered.result c.from_gathered.ensures
    (λ array same. (
      zero.result,
      g.met.T.NativeType.default_law zero.result zero.ensures,
      (
        run.0,
        run.1 ∙ given.ensures.into_iter_gives,
        run.2,
        same ∙ gathered_slots (type_of_primitive g.T.NativeType.PRIMITIVE) zero.result
            loop.values.items c.in_ok-finish.field-0 loop.yielded run.0.items
            (loop.invariant.0, c.in_ok-finish.ensures ∙ loop.invariant.1) run.3.0,
      ),
    )) (λ e refused. refused)
