-- One column more is taken.
use Rattle.std.proofs.Common.{◌<◌, ◌≤◌, ◌∙◌, length, map, ap, arith}
use Rattle.std.proofs.lemmas.List.{take_all}
use Rattle.nested_arrays_cells.specs.parts.Open.{column_of}
use Rattle.tables_rows.proofs.PushedSlots.{all_emptied, one_emptied, one_taken}
use Rattle.tables_rows.proofs.groups.take_columns.Goals as goal

pub loop-k-preserved : goal.loop-k-preserved
loop-k-preserved c =
    let os = c.args.columns.now.items in
    let inside : c.loop-k.k < length os = omega (arith, c.loop-k-test.true, c.len-k-end.ensures) in
    record {
      emptied = one_emptied os c.loop-k.columns.items c.loop-k.k c.index_mut.result.now c.loop-k.invariant.emptied inside
          c.index_mut.ensures.value c.as_box.new.self c.as_box.ensures.taken.0;
      taken = one_taken os c.loop-k.columns.items c.loop-k.k c.index_mut.result.now c.loop-k.invariant.emptied inside
          c.index_mut.ensures.value c.loop-k.arrays.items c.push.new.self.items c.in_ok-as_box.field-0 c.loop-k.invariant.taken
          c.in_ok-as_box.ensures.taken.1 c.in_ok-push.ensures.items;
    }

pub returns : goal.returns
returns c =
    let os = c.args.columns.now.items in
    let done : length os ≤ c.loop-k.k = omega (arith, c.loop-k-test.false, c.len-k-end.ensures) in (
      c.loop-k.invariant.taken ∙ ap (map column_of) (take_all c.loop-k.k os done),
      c.loop-k.invariant.emptied ∙ all_emptied c.loop-k.k os done,
    )
