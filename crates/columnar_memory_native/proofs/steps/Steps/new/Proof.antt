-- The first value, whose count is zero.
use mathlib.Core.Path.{refl}
use mathlib.Core.List.{List, [], ◌∷◌}
use seplogic.Ra.Ura.{Ura}
use mir.Syntax.{Fn}
use mir.Val.{Val, vstruct, vcons, vnil}
use base.Logic.{SProp, ent, emp}
use base.Fml.{Fml, ftrue}
use prog.Wp.{WpFn}
use prog.Model.{Model}
use types.Logic.{Logic, sem}
use contract.Monad.{fact, fact_i}
use contract.Running.{Running, MachineTables, tables, tables_of}
use sound.WpLaws.{WpFn-mono}
use types.Kit.{Item, Seq, prop, ‵, raw, ◌⊛◌, ◌$◌, ◌∵◌, !, qed, by, keep, join, fjoin, suffices, frame, use0}
use types.Run.{no_more, and_then, returns, enter}
use types.ByLocal.{alloc_all, pass_all, free_all, look_at, get, sets}
use types.Part.{agg}
use denote.Builtin.{unit}
use denote.RattleType.{RattleType, owns}
use denote.Shadow.{makes_shadow}
use denote.Signature.{types_at}
use denote.Steps.{nothing}
use denote.Struct.Struct.{Struct}
use denote.Triple.Clauses.{Clauses, closing}
use denote.Triple.Spec.{Meets, triple_of}
use denote.Triple.Table.{entered}
use denote.Triple.Walked.{Stays, walk_of, ends_at, walk_Meets}
use contract.CodeStep
use Rattle.std.specs.contracts.marker.PhantomData as marker
use Rattle.columnar_memory_native.specs.contracts.steps.Steps as steps
use Rattle.columnar_memory_native.specs.contracts.steps.Steps.new.{ended, clauses}
use Rattle.columnar_memory_native.specs.contracts.steps.Steps.new.Key.{name as #self}
use Rattle.columnar_memory_native.proofs.steps.Steps.new.Statement as stated
use Rattle.columnar_memory_native.proofs.steps.Steps.new.Code as code

-- the fields of the value, which are a marker alone
abbrev Fields : RattleType
Fields = Struct (record { name = (steps.the_type).name; args = []; types = []; fields = (marker.the_field unit).row ∷ [] })

abbrev empty : Val
empty = vstruct (vcons (vstruct vnil) vnil)

made : {M : Type 1} {𝓤 : Ura M} (𝓛 : Logic 𝓤) → ent 𝓤 (emp 𝓤) (sem 𝓛 (Fields.own_val (tt, tt) (empty ∷ [])))
made 𝓛 = makes_shadow 𝓛 (Fields.own_val (tt, tt) (empty ∷ [])) (λ vss. (tt, ((λ uss. (tt, tt)), tt))) (
  (vstruct vnil ∷ [], tt),
  (
    refl,
    (
      (
        tt,
        (refl, tt),
      ),
      tt,
    ),
  ),
)

module _ {M : Type 1} {𝓤 : Ura M} {𝓛 : Logic 𝓤} {K : Type 0} {Γ : List (Item 𝓤)} where
  ends_in : K → {φ : Type 0} → φ → Seq K 𝓛 Γ (prop (fact 𝓤 φ))
  ends_in t {φ} x = by t (fact_i 𝓤 φ _ x)

module _ {M : Type 1} {𝓤 : Ura M} (𝓛 : Logic 𝓤) (𝓜 : Model 𝓤 𝓛.H) (𝓡 : Running 𝓤 𝓛.H 𝓜) where
  open 𝓛 use {H}

  abbrev function : Fn
  function = code.function

  abbrev stayed : Stays ended.signature.params ended.kept
  stayed = tt

  abbrev 𝓣 : MachineTables 𝓤 H 𝓜
  𝓣 = tables 𝓤 H 𝓜 𝓡 𝓡.env

  abbrev held : Clauses 𝓤 ended
  held = clauses 𝓛 𝓜.mem 𝓡.returns

  module _ (z : (walk_of 𝓛 ended stayed held).Ghost) where
    abbrev Goes : Type 1
    Goes = ent 𝓤 ((walk_of 𝓛 ended stayed held).pre z) (WpFn 𝓤 H 𝓣.C 𝓣.Λ function ((walk_of 𝓛 ended stayed held).args z)
        ((walk_of 𝓛 ended stayed held).post z))

    abbrev args : Fml
    args = owns (types_at ended.signature.params z.0.0) z.0.3 z.0.4

    abbrev asked : SProp 𝓤
    asked = (held z.0.0 z.0.3).requires z.1

    walks : Goes
    walks =
        qed 𝓛 ((‵ ftrue ⊛ ‵ args) ∷ raw asked ∷ []) ∵ keep ! [] $ enter ! 𝓣.C 𝓣.Λ function [] _ $ alloc_all ! (λ l. pass_all ! refl tt $
        sets ! (agg ! (no_more !)) refl (tt, tt) $ sets ! (agg ! (and_then ! (get ! refl) (no_more !))) refl (tt, (tt, tt)) $
        returns ! (look_at ! 0 refl) $ free_all ! refl $ suffices ! _
        (ends_at 𝓛 ended stayed held z empty record { marker = record {}; count = 0 } tt tt) $
        nothing ! $ use0 𝓛 (‵ (Fields.own_val (tt, tt) (empty ∷ []))) (made 𝓛) $ fjoin ! $ nothing ! $ join ! $ nothing ! $ join ! $
        frame ! $ ends_in ! refl)

  meets : Meets 𝓛 ended.signature (WpFn 𝓤 H 𝓣.C 𝓣.Λ function) (closing 𝓛 ended held)
  unfolding tables_of contract.CodeStep.c_Tables
  meets =
      walk_Meets 𝓛 ended stayed tt held
      (WpFn 𝓤 H 𝓣.C 𝓣.Λ function) (WpFn-mono 𝓤 H 𝓛.laws (tables_of 𝓤 H 𝓜 𝓣) function) walks

pub new_spec : {M : Type 1} → stated.statement M
new_spec 𝓤 𝓛 𝓜 𝓡 wired = let 𝓣' = tables 𝓤 𝓛.H 𝓜 𝓡 𝓡.env in
    entered 𝓤 𝓛.H (triple_of 𝓛 ended.signature (closing 𝓛 ended (held 𝓛 𝓜 𝓡))) 𝓣'.C 𝓣'.Λ #self (function 𝓛 𝓜 𝓡)
    (code.unfolded 𝓤 𝓛.H 𝓜 𝓡 wired) (meets 𝓛 𝓜 𝓡)
