use Rattle.std.proofs.Common.{◌≡◌, ◌∙◌, ◌++◌, ap, refl, arith, ◌∷◌, length}
use Rattle.std.specs.Option.{option_to_list}
use Rattle.std.specs.Vec.Iter.{into_iter_items, into_iter_len}
use Rattle.std.proofs.lemmas.Grind.{common_steps}
use Rattle.columnar_memory_types.proofs.KeptLists.{KeptFrom-turn, KeptFrom-end}
use Rattle.columnar_memory_types.proofs.schema.Schema.filter.Goals as goal
use Rattle.columnar_memory_types.proofs.schema.Schema.filter.Goals.{in-Some+in_ok-keep_if, in_default}

pub loop-index-preserved : goal.loop-index-preserved
loop-index-preserved g c =
    elim c.match-next.branch [
      | in-Some+in_ok-keep_if w ↦
          let is : into_iter_items c.loop-index.rest ≡ w.in-Some.field ∷ into_iter_items c.next.new.self =
          c.next.ensures.items ∙ ap (λ o. option_to_list o ++ into_iter_items c.next.new.self) w.in-Some.is in
          let size = ap length is in
          let wanted = w.predicate-is_wanted.ensures in
          (omega arith, KeptFrom-turn _ _ _ _ _ _ _ _ _ is (_, refl, wanted) (w.kept-is ∙ w.in_ok-keep_if.ensures) c.loop-index.invariant.1)
      | in_default w ↦
          let none = w.in_default.ensures.cases in
          let size : into_iter_len c.loop-index.rest ≡ length (into_iter_items c.loop-index.rest) = c.loop-index.rest.rest.ok.0 in
          absurd (omega arith)
    ]

pub returns-clause-fields : goal.returns-clause-fields
returns-clause-fields g c =
    let none : length (into_iter_items c.loop-index.rest) ≡ 0 = omega arith in
    KeptFrom-end _ _ _ _ _ (grind (arith, common_steps, none)) c.loop-index.invariant.1
