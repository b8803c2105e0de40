use Rattle.std.proofs.Common.{◌≡◌, ◌<◌, ◌≤◌, ◌+◌, ◌++◌, ap, arith, length, replicate}
use Rattle.std.proofs.lemmas.List.{length-append}
use Rattle.nested_arrays_generic_builders.specs.nulls.columns.Slots.{null}
use Rattle.nested_arrays_generic_builders.specs.nulls.columns.StoredColumns.{column_len, slots}
use Rattle.nested_arrays_sized_builders.proofs.GrownColumns.{null_behind, nulls_begun, nulls_counted, nulls_held, nulls_stopped}
use Rattle.nested_arrays_sized_builders.proofs.fixed_lists.push_nulls.Goals as goal

pub loop-init : goal.loop-init
loop-init g c = nulls_begun (g.M.MutableArray.column c.args.values.now)

pub truncate-requires : goal.truncate-requires
truncate-requires g c =
    let column = g.M.MutableArray.column in
    nulls_held (column c.args.values.now) (column c.loop.values) (column c.push_null.new.self) c.loop.counter c.len-held.result c.len-held.ensures
    c.loop.invariant c.in-Err.ensures.0

pub returns-in-Err : goal.returns-in-Err
returns-in-Err g c =
    let column = g.M.MutableArray.column in
    nulls_stopped (column c.args.values.now) (column c.loop.values) (column c.push_null.new.self) (column c.truncate.new.self) c.loop.counter
    c.args.count c.len-held.result c.in-Err.error c.loop.invariant c.loop-test.true c.in-Err.ensures.0 c.in-Err.ensures.1
    c.len-held.ensures c.truncate.ensures

pub loop-preserved : goal.loop-preserved
loop-preserved g c =
    let column = g.M.MutableArray.column in
    null_behind (column c.args.values.now) (column c.loop.values) c.loop.counter c.loop.invariant (column c.push_null.new.self) c.in-Ok.ensures

pub returns : goal.returns
returns g c =
    let column = g.M.MutableArray.column in
    nulls_counted (column c.args.values.now) (column c.loop.values) c.loop.counter c.args.count (omega (arith, c.loop-test.false)) c.loop.invariant
