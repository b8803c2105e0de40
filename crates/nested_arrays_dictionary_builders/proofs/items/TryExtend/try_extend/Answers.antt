use Rattle.std.proofs.Common.{◌≡◌, ◌∙◌, ◌<◌, ◌≤◌, length, map, get_or, ap, arith, sym}
use Rattle.std.proofs.lemmas.List.{length-map}
use Rattle.nested_arrays_sized_builders.proofs.values_lemmas.Looked.{mapped_at}
use Rattle.nested_arrays_sized_builders.specs.nulls.columns.Slots.{null}
use Rattle.nested_arrays_dictionary_builders.proofs.SeveralSlots.{all_pushed, none_pushed, one_pushed, one_refused}
use Rattle.nested_arrays_dictionary_builders.proofs.items.TryExtend.try_extend.Goals as goal

pub loop-item-init : goal.loop-item-init
loop-item-init g c = none_pushed (g.Self.MutableArray.column c.args.self.now) (map g.Self.TryPush.slot c.args.items.now)

pub loop-item-preserved : goal.loop-item-preserved
loop-item-preserved g c =
    let column = g.Self.MutableArray.column in
    let slot = g.Self.TryPush.slot in
    let items = c.args.items.now in
    let i = c.loop-item.item-index in
    let item = c.item-item.result in
    let lt : i < length (map slot items) = omega (arith, c.loop-item-test.true, length-map items slot) in
    let is : get_or (map slot items) i null ≡ slot item = mapped_at slot items i item null c.loop-item-test.true ∙ ap slot (sym c.item-item.is) in
    one_pushed (column c.args.self.now) (column c.loop-item.self) (map slot items) i lt (slot item) is c.loop-item.invariant
    (column c.try_push.new.self) c.in-Ok.ensures

pub returns-in-Err : goal.returns-in-Err
returns-in-Err g c =
    let column = g.Self.MutableArray.column in
    let slot = g.Self.TryPush.slot in
    let items = c.args.items.now in
    let i = c.loop-item.item-index in
    let item = c.item-item.result in
    let lt : i < length (map slot items) = omega (arith, c.loop-item-test.true, length-map items slot) in
    let is : get_or (map slot items) i null ≡ slot item = mapped_at slot items i item null c.loop-item-test.true ∙ ap slot (sym c.item-item.is) in
    one_refused (column c.args.self.now) (column c.loop-item.self) (map slot items) i lt (slot item) is c.loop-item.invariant
    (column c.try_push.new.self) c.in-Err.error c.in-Err.ensures.0 c.in-Err.ensures.1

pub returns : goal.returns
returns g c =
    let column = g.Self.MutableArray.column in
    let slot = g.Self.TryPush.slot in
    let items = c.args.items.now in
    let all : length (map slot items) ≤ c.loop-item.item-index = omega (arith, c.loop-item-test.false, length-map items slot) in
    all_pushed (column c.args.self.now) (column c.loop-item.self) (map slot items) c.loop-item.item-index all c.loop-item.invariant
