use Rattle.std.proofs.Common.{◌∙◌, ◌-◌, ◌<◌, List, length, get_or, sym, ap, arith}
use Rattle.std.specs.List.{count_by}
use Rattle.std.proofs.lemmas.Bool.{false≢true}
use Rattle.std.proofs.lemmas.List.{take_all}
use Rattle.nested_arrays_sized_builders.specs.nulls.columns.Slots.{Slot}
use Rattle.nested_arrays_sized_builders.specs.nulls.columns.StoredColumns.{slots}
use Rattle.nested_arrays_sized_builders.proofs.nulls_lemmas.arrays_lemmas.columns_lemmas.ColumnSizes.{slots_lengths}
use Rattle.nested_arrays_dictionary_builders.specs.SlotHashes.{hashes_as}
use Rattle.nested_arrays_dictionary_builders.proofs.FoundPlaces.{few_between, many, newer_differ, older_differ, one_alike}
use Rattle.nested_arrays_dictionary_builders.proofs.places.place_of.Goals as goal

pub walk-init : goal.walk-init
walk-init g c =
    let child = g.M.MutableArray.column c.args.values.now in
    let places = c.args.places.now in
    let s = g.M.TryPush.slot c.args.item.now in
    let long = many child places s c.requires in
    record {
      within = omega (arith, c.newest-place.ensures.within, long);
      here = λ some. c.newest-place.ensures.here some ∙ c.hash_of-hash.ensures;
      none = λ k behind within. newer_differ child places s c.requires (length places) c.newest-place.result c.hash_of-hash.result
          c.hash_of-hash.ensures c.newest-place.ensures k behind (omega (arith, within, long)) within;
      counted =
          let whole = take_all (length places) (slots child) (omega (arith, long, slots_lengths child)) in
          let all = ap (λ (xs : List Slot). count_by (hashes_as s) xs) whole in
          let few = few_between child places s c.requires (length places) c.newest-place.result c.hash_of-hash.result c.hash_of-hash.ensures
          c.newest-place.ensures (omega (arith, long)) in omega (arith, all, few);
    }

pub walk-preserved : goal.walk-preserved
walk-preserved g c =
    let child = g.M.MutableArray.column c.args.values.now in
    let places = c.args.places.now in
    let s = g.M.TryPush.slot c.args.item.now in
    let place = c.walk.place in
    let some : 0 < place = omega (arith, c.walk-test.true) in
    let long = many child places s c.requires in
    record {
      within = omega (arith, c.older-place.ensures.within, c.walk.invariant.within);
      here = λ more. c.older-place.ensures.here more ∙ c.walk.invariant.here some;
      none = older_differ child places s c.requires place c.older-place.result some (c.walk.invariant.here some)
          (λ e. false≢true (sym c.if-slot_is.false ∙ c.slot_is.ensures.1 e)) c.older-place.ensures c.walk.invariant.none;
      counted =
          let one = one_alike child places s c.requires place some c.walk.invariant.within (c.walk.invariant.here some) in
          let few = few_between child places s c.requires (place - 1) c.older-place.result (get_or places (place - 1) 0) (c.walk.invariant.here some)
          c.older-place.ensures (omega (arith, c.walk.invariant.within)) in omega (arith, one, few, c.walk.invariant.counted, c.tick.ensures);
    }

pub older-place-requires : goal.older-place-requires
older-place-requires g c =
    omega (
      arith,
      c.walk.invariant.within,
      c.walk-test.true,
      many (g.M.MutableArray.column c.args.values.now) c.args.places.now (g.M.TryPush.slot c.args.item.now) c.requires,
    )

pub returns-then-slot_is-clause-counted : goal.returns-then-slot_is-clause-counted
returns-then-slot_is-clause-counted g c =
    let child = g.M.MutableArray.column c.args.values.now in
    let s = g.M.TryPush.slot c.args.item.now in
    let some : 0 < c.walk.place = omega (arith, c.walk-test.true) in
    let one = one_alike child c.args.places.now s c.requires c.walk.place some c.walk.invariant.within (c.walk.invariant.here some) in
    omega (arith, one, c.walk.invariant.counted, c.tick.ensures)
