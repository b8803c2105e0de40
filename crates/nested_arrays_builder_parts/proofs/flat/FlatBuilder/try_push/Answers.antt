use Rattle.std.proofs.Common.{◌≡◌, subst}
use Rattle.nested_arrays_builder_parts.specs.Open.{Open, IsPushed}
use Rattle.nested_arrays_builder_parts.specs.KeptValues.{open_of}
use Rattle.nested_arrays_builder_parts.specs.Scalars.{scalar_slot}
use Rattle.nested_arrays_builder_parts.proofs.KeptSlots.{kept_all, pushed_kept, pushed_open}
use Rattle.nested_arrays_builder_parts.proofs.flat.FlatBuilder.try_push.Goals as goal

pub invariant_of-self : goal.invariant_of-self
invariant_of-self c =
    let old = c.self.inside in
    let push = c.push_parts in
    pushed_kept old.data_type old.marks old.values c.self.invariant (scalar_slot c.args.cell.now) push.new.marks push.new.values push.result
    push.ensures

pub returns : goal.returns
returns c =
    let old = c.self.inside in
    let push = c.push_parts in
    let slot = scalar_slot c.args.cell.now in
    subst (λ (o : Open). IsPushed o slot (open_of old.data_type push.new.marks push.new.values) push.result) c.self.view_is
    (pushed_open old.data_type old.marks old.values c.self.invariant slot push.new.marks push.new.values push.result push.ensures)

pub push_parts-requires : goal.push_parts-requires
push_parts-requires c = kept_all c.self.inside.data_type c.self.inside.marks c.self.inside.values c.self.invariant
