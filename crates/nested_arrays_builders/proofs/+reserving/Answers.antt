use Rattle.std.proofs.Common.{rules, ◌<◌, ◌≤◌, List, length, get_or, ap, arith}
use Rattle.nested_arrays_builder_values.specs.parts.Open.{Open}
use Rattle.nested_arrays_builders.specs.Parts.{type_size, types_size}
use Rattle.nested_arrays_builders.proofs.CutParts.{one_child}
use Rattle.nested_arrays_builders.proofs.HeldNodes.{leaf_held, nested_size}
use Rattle.nested_arrays_builders.proofs.SameNodes.{leaf_same, nested_same_held, nested_same_seen}
use Rattle.nested_arrays_builders.proofs.+reserving.Goals as goal
use Rattle.nested_arrays_builders.proofs.+reserving.Goals.{any::AnyMutableArray::reserve-in-Flat, any::AnyMutableArray::reserve-in-Nested}

pub any::AnyMutableArray::reserve-reserve_nested-requires : goal.any::AnyMutableArray::reserve-reserve_nested-requires
any::AnyMutableArray::reserve-reserve_nested-requires t c =
    let size = nested_size c.self.inside.node c.in-Nested.head c.in-Nested.children c.args.self.now c.in-Nested.is c.self.view_is c.self.invariant in
    (search (rules, size), tt)

pub any::AnyMutableArray::reserve-invariant_of-self : goal.any::AnyMutableArray::reserve-invariant_of-self
any::AnyMutableArray::reserve-invariant_of-self t c =
    elim c.match-self.branch [
      | any::AnyMutableArray::reserve-in-Flat w ↦ leaf_held c.match-self.self-inside.node _ (ap (λ i. i.node) w.self-inside-is)
      | any::AnyMutableArray::reserve-in-Nested w ↦ nested_same_held c.self.inside.node c.match-self.self-inside.node w.in-Nested.head
          w.in-Nested.children _ _ c.args.self.now w.in-Nested.is (ap (λ i. i.node) w.self-inside-is)
          w.reserve_nested.ensures.marks w.reserve_nested.ensures.parts c.self.invariant
    ]

pub any::AnyMutableArray::reserve-returns-clause-same : goal.any::AnyMutableArray::reserve-returns-clause-same
any::AnyMutableArray::reserve-returns-clause-same t c =
    elim c.match-self.branch [
      | any::AnyMutableArray::reserve-in-Flat w ↦ leaf_same c.self.inside.node c.match-self.self-inside.node _ _ c.args.self.now w.in-Flat.is
          c.self.view_is (ap (λ i. i.node) w.self-inside-is) w.reserve.ensures.same
      | any::AnyMutableArray::reserve-in-Nested w ↦ nested_same_seen c.self.inside.node c.match-self.self-inside.node w.in-Nested.head
          w.in-Nested.children _ _ c.args.self.now w.in-Nested.is (ap (λ i. i.node) w.self-inside-is) w.reserve_nested.ensures.marks
          w.reserve_nested.ensures.parts c.self.view_is
    ]

pub room::reserve_each-reserve-requires : goal.room::reserve_each-reserve-requires
room::reserve_each-reserve-requires t c =
    let os = c.args.children.now.items in
    let now = c.loop-child.child-items in
    let k = c.loop-child.child-index in
    let small : k < length os = omega (arith, c.loop-child-test.true, ap length c.loop-child.invariant) in
    let size : type_size (get_or now k c.child-item.result).data_type ≤ types_size os =
    omega (
      arith,
      one_child os k c.child-item.result small,
      ap (λ (zs : List Open). type_size (get_or zs k c.child-item.result).data_type) c.loop-child.invariant,
    ) in
    (search (rules, size), tt)
