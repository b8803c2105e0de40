use Rattle.std.proofs.Common.{◌≡◌, ◌∙◌, ◌<◌, length, sym, ap, arith}
use Rattle.std.proofs.lemmas.Bool.{false≢true}
use Rattle.std.proofs.lemmas.List.{length-map}
use Rattle.nested_arrays_builder_values.specs.Hashes.{cell_hash}
use Rattle.nested_arrays_builder_values.proofs.Looked.{newer_differ, older_differ}
use Rattle.nested_arrays_builder_values.proofs.values.place_of.Goals as goal

pub walk-init : goal.walk-init
walk-init c =
    let cells = c.args.cells.now in
    let places = c.args.places.now in
    let long : length places ≡ length cells = ap length c.requires ∙ length-map cells cell_hash in
    record {
      within = omega (arith, c.newest-place.ensures.within, long);
      here = λ some. c.newest-place.ensures.here some ∙ c.hash_of-hash.ensures;
      none = λ k behind within. newer_differ cells c.args.cell.now places (length places) c.newest-place.result c.hash_of-hash.result c.requires
          c.hash_of-hash.ensures c.newest-place.ensures k behind (omega (arith, within, long)) within;
    }

pub walk-preserved : goal.walk-preserved
walk-preserved c =
    let cells = c.args.cells.now in
    let places = c.args.places.now in
    let place = c.walk.place in
    let some : 0 < place = omega (arith, c.walk-test.true) in
    record {
      within = omega (arith, c.older-place.ensures.within, c.walk.invariant.within);
      here = λ more. c.older-place.ensures.here more ∙ c.walk.invariant.here some;
      none = older_differ cells c.args.cell.now c.index-cells-place.result places place c.older-place.result c.requires some
          c.walk.invariant.within (c.walk.invariant.here some) c.index-cells-place.is
          (λ e. false≢true (sym c.if-same_cell.false ∙ c.same_cell.ensures.1 e)) c.older-place.ensures c.walk.invariant.none;
    }
