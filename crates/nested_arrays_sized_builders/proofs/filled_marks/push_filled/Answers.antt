use Rattle.std.proofs.Common.{◌∙◌, ◌<◌, ◌++◌, ◌∷◌, [], List, Bool, take, length, false, arith, ap, sym}
use Rattle.std.proofs.lemmas.List.{append_assoc, take_all, take_more}
use Rattle.nested_arrays_sized_builders.specs.FixedListBuilders.{missing_and}
use Rattle.nested_arrays_sized_builders.proofs.FilledMarks.{missing_many}
use Rattle.nested_arrays_sized_builders.proofs.filled_marks.push_filled.Goals as goal

pub loop-i-preserved : goal.loop-i-preserved
loop-i-preserved c =
    let held = c.args.marks.now in
    let more = missing_and c.args.missing c.args.more.now c.args.count in
    let i = c.loop-i.i in
    let mark = c.filled_mark.result in
    let lt : i < length more = omega (arith, c.loop-i-test.true, missing_many c.args.missing c.args.more.now c.args.count) in
    c.in-Ok.ensures.0 ∙ ap (λ (ms : List Bool). ms ++ mark ∷ []) c.loop-i.invariant ∙ append_assoc held (take i more) (mark ∷ [])
    ∙ ap (λ (ms : List Bool). held ++ ms)
    (sym (take_more more i false lt ∙ ap (λ (b : Bool). take i more ++ b ∷ []) c.filled_mark.ensures))

pub returns : goal.returns
returns c =
    let more = missing_and c.args.missing c.args.more.now c.args.count in
    c.loop-i.invariant
    ∙ ap (λ (ms : List Bool). c.args.marks.now ++ ms)
    (take_all c.loop-i.i more (omega (arith, c.loop-i-test.false, missing_many c.args.missing c.args.more.now c.args.count)))
