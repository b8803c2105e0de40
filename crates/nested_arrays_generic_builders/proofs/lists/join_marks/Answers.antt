use Rattle.std.proofs.Common.{◌∙◌, ◌<◌, ◌++◌, ◌∷◌, [], List, Bool, take, length, false, arith, ap, sym}
use Rattle.std.proofs.lemmas.List.{append_assoc, take_more}
use Rattle.std.proofs.lemmas.Option.{get_or_from_slice_get}
use Rattle.nested_arrays_generic_builders.proofs.lists.join_marks.Goals as goal

pub loop-i-preserved : goal.loop-i-preserved
loop-i-preserved c =
    let held = c.args.marks.now in
    let more = c.args.more.now in
    let i = c.loop-i.i in
    let mark = c.is_valid.result in
    let lt : i < length more = omega (arith, c.loop-i-test.true, c.len-i-end.ensures.value) in
    c.in-Ok.ensures.0 ∙ ap (λ (ms : List Bool). ms ++ mark ∷ []) c.loop-i.invariant ∙ append_assoc held (take i more) (mark ∷ [])
    ∙ ap (λ (ms : List Bool). held ++ ms)
    (sym (take_more more i false lt ∙ ap (λ (b : Bool). take i more ++ b ∷ []) (get_or_from_slice_get more i mark false c.is_valid.ensures)))
