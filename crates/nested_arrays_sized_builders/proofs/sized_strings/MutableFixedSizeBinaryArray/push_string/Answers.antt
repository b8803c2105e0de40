use Rattle.std.proofs.Common.{◌≡◌, arith, length, refl, true}
use Rattle.std.specs.Prelude.{Some}
use mathlib.Core.Logic.{inl, inr}
use Rattle.nested_arrays_generic_builders.specs.nulls.flat.FlatColumns.{byte_width}
use Rattle.nested_arrays_sized_builders.specs.SizedStrings.{sized_parts}
use Rattle.nested_arrays_sized_builders.proofs.SizedPushes.{other_sized, pushed_sized, some_added, string_unfit}
use Rattle.nested_arrays_sized_builders.proofs.sized_strings.MutableFixedSizeBinaryArray.push_string.Goals as goal

pub returns-then-bytes-self-clause-column : goal.returns-then-bytes-self-clause-column
returns-then-bytes-self-clause-column c =
    let own = c.self.inside in
    let other = other_sized (byte_width own.data_type) c.args.bytes.now (λ same. omega (
      arith,
      same,
      c.self.invariant.wide,
      c.if-bytes-self.true,
    )) in
    rw (← c.self.view_is) (
      refl,
      inr (inl (
        tt,
        string_unfit (sized_parts own.data_type own.marks own.values.items) (Some c.args.bytes.now) c.self.invariant other,
      )),
    )

pub invariant_of-self : goal.invariant_of-self
invariant_of-self c =
    let own = c.self.inside in
    let push = c.push_bytes in
    let long : length c.args.bytes.now ≡ own.size = omega (arith, c.if-bytes-self.false) in
    pushed_sized c.self.invariant true c.args.bytes.now long c.read_bytes.ensures push.new.marks push.new.values.items push.result push.ensures

pub returns-clause-column : goal.returns-clause-column
returns-clause-column c =
    let own = c.self.inside in
    let push = c.push_bytes in
    let long : length c.args.bytes.now ≡ own.size = omega (arith, c.if-bytes-self.false) in
    rw (← c.self.view_is)
    (some_added (sized_parts own.data_type own.marks own.values.items) c.self.invariant c.args.bytes.now long c.read_bytes.ensures
    push.new.marks push.new.values.items push.result push.ensures)
