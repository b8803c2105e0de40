-- Each column is found among those that rise, and has its place from then on.
use Rattle.std.proofs.Common.{◌≡◌, ◌+◌, get_or, sym, subst, rules, arith}
use Rattle.std.specs.BTreeMap.{insert_entry}
use Rattle.std.specs.Ordering.{nat_cmp}
use Rattle.std.proofs.lemmas.List.Elements.{Contains-get_or}
use Rattle.std.proofs.lemmas.List.Sorted.{Contains-permutation}
use Rattle.std.proofs.lemmas.Option.{slice_get-get_or}
use Rattle.ipc_format_batch_reading.proofs.PutBackPlaces.{IsPlaced, placed_back, placed_fit, placed_more}
use Rattle.ipc_format_batch_reading.proofs.projection.places_of.Goals as goal

pub place_of-requires-clause-found : goal.place_of-requires-clause-found
place_of-requires-clause-found c =
    let columns = c.args.columns.now in
    let k = c.loop-asked.asked in
    Contains-permutation columns c.args.rising.now (get_or columns k 0) c.requires.same (Contains-get_or columns k 0 c.loop-asked-test.true)

pub loop-asked-preserved : goal.loop-asked-preserved
loop-asked-preserved c =
    let columns = c.args.columns.now in
    let rising = c.args.rising.now in
    let k = c.loop-asked.asked in
    let old = c.place_of.result in
    let is : c.insert.new.self.entries ≡ insert_entry nat_cmp c.loop-asked.places.entries old k = search rules in (
      omega arith,
      subst (IsPlaced rising columns (k + 1)) (sym is)
          (placed_more rising columns k old (get_or columns k 0) c.loop-asked.places.entries c.requires.distinct c.place_of.ensures
          (slice_get-get_or columns k 0 c.loop-asked-test.true) c.loop-asked.invariant.1),
    )

pub returns-clause-back : goal.returns-clause-back
returns-clause-back c =
    placed_back c.args.rising.now c.args.columns.now c.loop-asked.asked c.loop-asked.places.entries c.requires.same c.loop-asked-test.false
    c.loop-asked.invariant.1

pub returns-clause-fit : goal.returns-clause-fit
returns-clause-fit c =
    placed_fit c.args.rising.now c.args.columns.now c.loop-asked.asked c.loop-asked.places.entries c.requires.same (omega arith)
    c.loop-asked.invariant.1
