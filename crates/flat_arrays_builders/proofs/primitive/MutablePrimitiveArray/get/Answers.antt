use Rattle.std.proofs.Common.{◌∙◌, ap, true}
use Rattle.std.specs.Prelude.{Some}
use Rattle.flat_arrays_values.specs.Flat.{marks_of}
use Rattle.flat_arrays_values.proofs.MarkPlaces.{slot-get, null-get}
use Rattle.flat_arrays_builders.proofs.primitive.MutablePrimitiveArray.get.Goals as goal

pub returns-then-is_valid : goal.returns-then-is_valid
returns-then-is_valid g c =
    let array = c.args.self.now in
    slot-get array.values (marks_of array) c.args.i c.value.result true c.value.ensures (c.is_valid.ensures ∙ ap Some c.if-is_valid.true)

pub returns-else-is_valid : goal.returns-else-is_valid
returns-else-is_valid g c =
    let array = c.args.self.now in
    null-get array.values (marks_of array) c.args.i c.requires (c.is_valid.ensures ∙ ap Some c.if-is_valid.false)
