-- The first place is the item's, or a later one's, or there is none.
use Rattle.std.proofs.Common.{ℕ, ◌-◌, ◌^◌, List, sym, subst, arith}
use Rattle.std.specs.Prelude.{true}
use Rattle.ipc_format_batch_reading.specs.Projections.{IsBehind}
use Rattle.ipc_format_batch_reading.proofs.ItemPlaces.{none_behind, passed_behind, rest_is, selected_behind}
use Rattle.ipc_format_batch_reading.proofs.projection.behind.Goals as goal
use Rattle.ipc_format_batch_reading.proofs.projection.behind.Goals.{in_default, in-len1-up+else-first-place}

pub returns-then-first-place : goal.returns-then-first-place
returns-then-first-place c =
    let ks = c.args.projection.now in
    let next = c.saturating_add-next.result in
    subst (λ (after : List ℕ). IsBehind c.args.place ks true after next) (sym (rest_is ks))
    (selected_behind c.args.place next (2 ^ 64 - 1) ks c.requires c.saturating_add-next.ensures (omega (arith, c.type_inv.projection 1))
    c.in-len1-up.len_at_least c.if-first-place.true)

pub returns : goal.returns
returns c =
    let ks = c.args.projection.now in
    let next = c.saturating_add-next.result in
    elim c.if-projection-lt1.branch [
      | in_default w ↦ none_behind c.args.place next ks (omega arith)
      | in-len1-up+else-first-place w ↦ passed_behind c.args.place next (2 ^ 64 - 1) ks c.requires c.saturating_add-next.ensures
          (omega (arith, c.type_inv.projection 0)) w.if-first-place.false
    ]
