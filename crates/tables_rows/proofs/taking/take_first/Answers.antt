-- One column more is taken, or there was no memory for it.
use Rattle.std.proofs.Common.{rules, ◌≡◌, ◌∙◌, ◌<◌, ◌+◌, length, map, ap, arith}
use Rattle.std.specs.Prelude.{slice_set}
use Rattle.columnar_memory_types.specs.Error.{IsOutOfMemory}
use Rattle.tables_rows.specs.Columns.{cut_back, emptied}
use Rattle.tables_rows.proofs.CutBack.{column_there, emptied_again, one_more_cut}
use Rattle.tables_rows.proofs.PushedCells.{any_column}
use Rattle.tables_rows.proofs.TakenColumns.{one_more_taken}
use Rattle.tables_rows.proofs.taking.take_first.Goals as goal

pub returns-in_err-array : goal.returns-in_err-array
returns-in_err-array c =
    let columns = c.args.columns.now.items in
    let k = c.loop-place.place in
    let inside : k < length columns = omega (arith, c.loop-place-test.true, c.len-count.ensures) in
    let left : slice_set c.loop-place.columns.items k c.as_box.new.self ≡ cut_back (k + 1) 0 columns =
    one_more_cut k 0 columns c.loop-place.columns.items c.index_mut.result.now inside c.loop-place.invariant.left c.index_mut.ensures.value
    c.as_box.new.self c.in_err-array.ensures.taken.0 in
    let again : map emptied (slice_set c.loop-place.columns.items k c.as_box.new.self) ≡ map emptied columns =
    ap (map emptied) left ∙ emptied_again (k + 1) columns in
    let out : IsOutOfMemory c.in_err-array.field-0.0 = c.in_err-array.ensures.taken.1 in
    search (rules, again, out)

pub returns-in_err-push : goal.returns-in_err-push
returns-in_err-push c =
    let columns = c.args.columns.now.items in
    let k = c.loop-place.place in
    let inside : k < length columns = omega (arith, c.loop-place-test.true, c.len-count.ensures) in
    let left : slice_set c.loop-place.columns.items k c.as_box.new.self ≡ cut_back (k + 1) 0 columns =
    one_more_cut k 0 columns c.loop-place.columns.items c.index_mut.result.now inside c.loop-place.invariant.left c.index_mut.ensures.value
    c.as_box.new.self c.in_ok-array.ensures.taken.0 in
    let again : map emptied (slice_set c.loop-place.columns.items k c.as_box.new.self) ≡ map emptied columns =
    ap (map emptied) left ∙ emptied_again (k + 1) columns in
    search (rules, again)

pub loop-place-preserved : goal.loop-place-preserved
loop-place-preserved c =
    let columns = c.args.columns.now.items in
    let k = c.loop-place.place in
    let inside : k < length columns = omega (arith, c.loop-place-test.true, c.len-count.ensures) in
    let own = column_there k 0 columns c.loop-place.columns.items c.index_mut.result.now inside c.loop-place.invariant.left
    c.index_mut.ensures.value any_column in
    record {
      left = one_more_cut k 0 columns c.loop-place.columns.items c.index_mut.result.now inside c.loop-place.invariant.left c.index_mut.ensures.value
          c.as_box.new.self c.in_ok-array.ensures.taken.0;
      taken = c.in_ok-push.ensures.items
          ∙ one_more_taken columns c.loop-place.arrays.items k any_column c.index_mut.result.now c.in_ok-array.array inside
          c.loop-place.invariant.taken own c.in_ok-array.ensures.taken.1;
    }
