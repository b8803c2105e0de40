use Rattle.std.proofs.Common.{rules, ◌∙◌, ◌<◌, ◌≤◌, length, ap, sym, arith}
use Rattle.std.specs.Prelude.{slice_set}
use Rattle.std.proofs.lemmas.List.{get_or_default}
use Rattle.std.proofs.lemmas.List.Edits.{map_over_more}
use Rattle.nested_arrays_builder_values.specs.parts.Open.{Open, first_slots}
use Rattle.nested_arrays_builders.proofs.CutParts.{size_over, long_over, length_over, named_few}
use Rattle.nested_arrays_builders.proofs.HeldNodes.{leaf_held, leaf_cut, nested_size, nested_count, nested_length, nested_cut_held, nested_cut_seen}
use Rattle.nested_arrays_builders.proofs.+truncating.Goals as goal
use Rattle.nested_arrays_builders.proofs.+truncating.Goals.{any::AnyMutableArray::truncate-in-Flat, any::AnyMutableArray::truncate-in-Nested}

pub any::AnyMutableArray::truncate-truncate_nested-requires : goal.any::AnyMutableArray::truncate-truncate_nested-requires
any::AnyMutableArray::truncate-truncate_nested-requires t c =
    let node = c.self.inside.node in
    let size = nested_size node c.in-Nested.head c.in-Nested.children c.args.self.now c.in-Nested.is c.self.view_is c.self.invariant in
    let long = nested_length node c.in-Nested.head c.in-Nested.children c.args.self.now c.in-Nested.is c.self.view_is c.self.invariant in (
      search (rules, size),
      (
        nested_count node c.in-Nested.head c.in-Nested.children c.args.self.now c.in-Nested.is c.self.view_is c.self.invariant,
        omega (arith, long, c.requires),
      ),
    )

pub any::AnyMutableArray::truncate-invariant_of-self : goal.any::AnyMutableArray::truncate-invariant_of-self
any::AnyMutableArray::truncate-invariant_of-self t c =
    elim c.match-self.branch [
      | any::AnyMutableArray::truncate-in-Flat w ↦ leaf_held c.match-self.self-inside.node _ (ap (λ i. i.node) w.self-inside-is)
      | any::AnyMutableArray::truncate-in-Nested w ↦ nested_cut_held c.self.inside.node w.in-Nested.head w.in-Nested.children c.args.self.now
          w.in-Nested.is c.self.view_is c.self.invariant c.match-self.self-inside.node _ _ (ap (λ i. i.node) w.self-inside-is) c.args.len c.requires
          w.truncate_nested.ensures.marks w.truncate_nested.ensures.parts
    ]

pub any::AnyMutableArray::truncate-returns : goal.any::AnyMutableArray::truncate-returns
any::AnyMutableArray::truncate-returns t c =
    elim c.match-self.branch [
      | any::AnyMutableArray::truncate-in-Flat w ↦ leaf_cut c.self.inside.node c.match-self.self-inside.node _ _ c.args.self.now c.args.len
          w.in-Flat.is c.self.view_is (ap (λ i. i.node) w.self-inside-is) w.truncate.ensures
      | any::AnyMutableArray::truncate-in-Nested w ↦ nested_cut_seen c.self.inside.node w.in-Nested.head w.in-Nested.children c.args.self.now
          w.in-Nested.is c.self.view_is c.self.invariant c.match-self.self-inside.node _ _ (ap (λ i. i.node) w.self-inside-is) c.args.len c.requires
          w.truncate_nested.ensures.marks w.truncate_nested.ensures.parts
    ]

pub children::truncate_each-truncate-requires : goal.children::truncate_each-truncate-requires
children::truncate_each-truncate-requires t c =
    let f = λ (o : Open). first_slots o c.args.len in
    let os = c.args.children.now.items in
    let small : c.loop-child.child-index < length os =
    omega (arith, c.loop-child-test.true, length_over f os c.loop-child.child-items c.loop-child.child-index c.loop-child.invariant) in
    let size = size_over f os c.loop-child.child-items c.loop-child.child-index c.child-item.result small c.loop-child.invariant in (
      search (rules, size),
      long_over f os c.loop-child.child-items c.loop-child.child-index c.args.len c.child-item.result small c.loop-child.invariant c.requires,
    )

pub children::truncate_each-loop-child-preserved : goal.children::truncate_each-loop-child-preserved
children::truncate_each-loop-child-preserved t c =
    let f = λ (o : Open). first_slots o c.args.len in
    let os = c.args.children.now.items in
    let now = c.loop-child.child-items in
    let k = c.loop-child.child-index in
    let small : k < length os = omega (arith, c.loop-child-test.true, length_over f os now k c.loop-child.invariant) in
    let inside : k < length now = omega (arith, small, length_over f os now k c.loop-child.invariant) in
    ap (slice_set now k) c.truncate.ensures
    ∙ map_over_more f os now k _ small c.loop-child.invariant (get_or_default now k c.child-item.result _ inside)

pub keyed::truncate_keyed-truncate-requires : goal.keyed::truncate_keyed-truncate-requires
keyed::truncate_keyed-truncate-requires t c =
    named_few c.args.keys.now.uses c.args.keys.now.known c.args.len c.truncate-named.result c.truncate-named.ensures.need
    (c.requires.named ∙ ap length (sym c.requires.known))

pub keyed::truncate_keyed-truncate-requires-2 : goal.keyed::truncate_keyed-truncate-requires-2
keyed::truncate_keyed-truncate-requires-2 t c =
    let few : c.truncate-named.result ≤ length c.args.values.now.slots =
    named_few c.args.keys.now.uses c.args.values.now.slots c.args.len c.truncate-named.result c.truncate-named.ensures.need c.requires.named in
    search (rules, few)
