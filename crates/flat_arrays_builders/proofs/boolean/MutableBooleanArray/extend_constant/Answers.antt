use Rattle.std.proofs.Common.{false}
use Rattle.flat_arrays_values.specs.Growth.{grown, with_slots}
use Rattle.std.proofs.Common.{replicate}
use Rattle.flat_arrays_builders.proofs.Along.{changes_to}
use Rattle.flat_arrays_values.proofs.Marked.{equal_slots}
use Rattle.flat_arrays_builders.proofs.boolean.MutableBooleanArray.extend_constant.Goals as goal

pub returns : goal.returns
returns c =
    let old = c.args.self.now in
    let n = c.args.additional in
    let value = c.unwrap_or.result in
    let mark = c.is_some.result in
    let slot = c.args.slot in
    let changes =
    changes_to c.extend_equal.result old c.extend_equal.new.self (grown old (replicate n value) (replicate n mark))
    (with_slots false old (replicate n slot))
    (equal_slots false old n slot value mark c.unwrap_or.ensures c.is_some.ensures) c.extend_equal.ensures in
    changes
