use Rattle.std.proofs.Common.{◌≡◌, ◌∙◌, ◌++◌, ◌∷◌, ◌-◌, [], map, ap, arith, rules}
use Rattle.std.proofs.lemmas.List.{map-append}
use Rattle.std.specs.Prelude.{Some, None, Err}
use Rattle.ipc_format_grammar.specs.flatbuffers.Reading.{◌>>=◌}
use Rattle.ipc_format_grammar.specs.flatbuffers.FlatBuffers.{element_at}
use Rattle.ipc_format_grammar.specs.flatbuffers.Views.{table_of, vector_of}
use Rattle.ipc_format_grammar.specs.Schemas.{field_in}
use Rattle.ipc_format_grammar.specs.Refusals.{IsFloat}
use Rattle.ipc_format_metadata.specs.Views.{ids_view}
use Rattle.ipc_format_metadata.specs.Parts as parts
use Rattle.ipc_format_metadata.specs.LayerViews.{over_field, over_fields}
use Rattle.ipc_format_metadata.specs.ReadViews.{head_view, field_view, type_view}
use Rattle.ipc_format_metadata.specs.Steps.{
  type_found,
  head_in,
  completed,
  fields_in,
  layer_in,
  first_child,
  children,
  over_one,
  over_each,
  FloatBelow,
  FloatAmong,
}
use Rattle.ipc_format_metadata.proofs.Options.{refuses-first, reads-more}
use Rattle.ipc_format_metadata.proofs.FieldSteps.{field-no-level, field-no-visit}
use Rattle.ipc_format_metadata.proofs.FieldReads.{field-no-head, field-type}
use Rattle.ipc_format_metadata.proofs.FieldLists.{fields-next, fields-no-element, fields-refused, fields-done}
use Rattle.ipc_format_metadata.proofs.TypeReads.{
  type-float,
  float-here,
  type-no-layer,
  type-flat,
  type-no-child,
  type-over,
  type-no-children,
  type-over-all,
  float-among,
  float-child,
}
use Rattle.ipc_format_metadata.proofs.schemas.+reading.Goals as goal

pub each_in-returns-in_default-clause-value : goal.each_in-returns-in_default-clause-value
each_in-returns-in_default-clause-value t c =
    let read = field_in None c.args.bytes.now c.args.levels in
    let v = vector_of c.args.vector.now in
    let none : element_at c.args.bytes.now v c.loop-k.k ≡ None = search rules in
    fields-no-element read c.args.bytes.now v (fields_in read c.args.bytes.now v c.args.left) c.loop-k.fields (map ids_view c.loop-k.below)
    c.loop-k.k c.loop-k.still c.loop-k-test.true none c.loop-k.invariant.given

pub each_in-returns-in_err-found-clause-value : goal.each_in-returns-in_err-found-clause-value
each_in-returns-in_err-found-clause-value t c =
    let read = field_in None c.args.bytes.now c.args.levels in
    let v = vector_of c.args.vector.now in
    let element : element_at c.args.bytes.now v c.loop-k.k ≡ Some (table_of c.in-Some.table) = search rules in
    let is : c.from_residual.result ≡ Err c.in_err-found.field-0.0 = search rules in
    rw is (fields-refused c.in_err-found.field-0.0 read c.args.bytes.now v (fields_in read c.args.bytes.now v c.args.left) c.loop-k.fields
    (map ids_view c.loop-k.below) c.loop-k.k c.loop-k.still (table_of c.in-Some.table) c.loop-k-test.true element c.loop-k.invariant.given
    c.in_err-found.ensures.value)

pub each_in-loop-k-preserved : goal.each_in-loop-k-preserved
each_in-loop-k-preserved t c =
    let read = field_in None c.args.bytes.now c.args.levels in
    let v = vector_of c.args.vector.now in
    let element : element_at c.args.bytes.now v c.loop-k.k ≡ Some (table_of c.in-Some.table) = search rules in
    let fields : c.push.new.self ≡ c.loop-k.fields ++ c.in_ok-found.found.field ∷ [] = search rules in
    let below : c.push-in-loop-k.new.self ≡ c.loop-k.below ++ c.in_ok-found.found.ids ∷ [] = search rules in
    let views : map ids_view c.push-in-loop-k.new.self ≡ map ids_view c.loop-k.below ++ ids_view c.in_ok-found.found.ids ∷ [] =
    ap (map ids_view) below ∙ map-append ids_view c.loop-k.below (c.in_ok-found.found.ids ∷ []) in
    record {
      given = rw (fields, views) (fields-next read c.args.bytes.now v (fields_in read c.args.bytes.now v c.args.left) c.loop-k.fields
          (map ids_view c.loop-k.below) c.loop-k.k c.loop-k.still (table_of c.in-Some.table)
          (field_view c.in_ok-found.found).0 c.in_ok-found.found.left element c.in_ok-found.ensures.value c.loop-k.invariant.given);
      visits = omega (arith, c.in_ok-found.ensures.visits, c.loop-k.invariant.visits);
    }

pub each_in-returns-clause-value : goal.each_in-returns-clause-value
each_in-returns-clause-value t c =
    let read = field_in None c.args.bytes.now c.args.levels in
    let v = vector_of c.args.vector.now in
    fields-done read c.args.bytes.now v (fields_in read c.args.bytes.now v c.args.left) c.loop-k.fields (map ids_view c.loop-k.below) c.loop-k.k
    c.loop-k.still (omega arith) c.loop-k.invariant.given

pub type_in-returns-then-is_float-clause-value : goal.type_in-returns-then-is_float-clause-value
type_in-returns-then-is_float-clause-value t c =
    let float : IsFloat c.args.bytes.now (table_of c.args.field.now) = search rules in (
      type-float (field_in None c.args.bytes.now c.args.levels) c.args.bytes.now (table_of c.args.field.now) c.args.left float,
      float-here
          c.args.bytes.now (table_of c.args.field.now) float,
    )

pub type_in-returns-in_default-clause-value : goal.type_in-returns-in_default-clause-value
type_in-returns-in_default-clause-value t c =
    let none : layer_in c.args.bytes.now (table_of c.args.field.now) ≡ None = search rules in
    type-no-layer (field_in None c.args.bytes.now c.args.levels) c.args.bytes.now (table_of c.args.field.now) c.args.left none

pub type_in-returns-in_default-first_child-clause-value : goal.type_in-returns-in_default-first_child-clause-value
type_in-returns-in_default-first_child-clause-value t c =
    let layer : layer_in c.args.bytes.now (table_of c.args.field.now) ≡ Some (parts.over (over_field c.in-Over.over)) = search rules in
    let none : first_child c.args.bytes.now (table_of c.args.field.now) ≡ None = search rules in
    type-no-child (field_in None c.args.bytes.now c.args.levels) c.args.bytes.now (table_of c.args.field.now) c.args.left
    (over_field c.in-Over.over) layer none

pub type_in-returns-in_err-found-in-Over-clause-value : goal.type_in-returns-in_err-found-in-Over-clause-value
type_in-returns-in_err-found-in-Over-clause-value t c =
    let read = field_in None c.args.bytes.now c.args.levels in
    let child = table_of c.in-Some-first_child.child in
    let layer : layer_in c.args.bytes.now (table_of c.args.field.now) ≡ Some (parts.over (over_field c.in-Over.over)) = search rules in
    let first : first_child c.args.bytes.now (table_of c.args.field.now) ≡ Some child = search rules in
    let is : c.from_residual-in_err-found-in-Over.result ≡ Err c.in_err-found-in-Over.field-0.0 = search rules in
    rw (is, type-over read c.args.bytes.now (table_of c.args.field.now) c.args.left (over_field c.in-Over.over) child layer first)
    (refuses-first c.in_err-found-in-Over.field-0.0 (FloatBelow c.args.bytes.now child) (read child c.args.left)
    (FloatBelow c.args.bytes.now (table_of c.args.field.now)) (over_one (over_field c.in-Over.over))
    (float-child c.args.bytes.now (table_of c.args.field.now) child first) c.in_err-found-in-Over.ensures.value)

pub type_in-returns-in_default-children-clause-value : goal.type_in-returns-in_default-children-clause-value
type_in-returns-in_default-children-clause-value t c =
    let layer : layer_in c.args.bytes.now (table_of c.args.field.now) ≡ Some (parts.over_all (over_fields c.in-OverAll.over)) = search rules in
    let none : children c.args.bytes.now (table_of c.args.field.now) ≡ None = search rules in
    type-no-children (field_in None c.args.bytes.now c.args.levels) c.args.bytes.now (table_of c.args.field.now) c.args.left
    (over_fields c.in-OverAll.over) layer none

pub type_in-returns-in_err-found-in-OverAll-clause-value : goal.type_in-returns-in_err-found-in-OverAll-clause-value
type_in-returns-in_err-found-in-OverAll-clause-value t c =
    let read = field_in None c.args.bytes.now c.args.levels in
    let v = vector_of c.in-Some-children.vector in
    let layer : layer_in c.args.bytes.now (table_of c.args.field.now) ≡ Some (parts.over_all (over_fields c.in-OverAll.over)) = search rules in
    let all : children c.args.bytes.now (table_of c.args.field.now) ≡ Some v = search rules in
    let is : c.from_residual-in_err-found-in-OverAll.result ≡ Err c.in_err-found-in-OverAll.field-0.0 = search rules in
    rw (is, type-over-all read c.args.bytes.now (table_of c.args.field.now) c.args.left (over_fields c.in-OverAll.over) v layer all)
    (refuses-first c.in_err-found-in-OverAll.field-0.0 (FloatAmong c.args.bytes.now v) (fields_in read c.args.bytes.now v c.args.left)
    (FloatBelow c.args.bytes.now (table_of c.args.field.now)) (over_each (over_fields c.in-OverAll.over))
    (float-among c.args.bytes.now (table_of c.args.field.now) v all) c.in_err-found-in-OverAll.ensures.value)

pub type_in-returns-in-Flat-clause-value : goal.type_in-returns-in-Flat-clause-value
type_in-returns-in-Flat-clause-value t c =
    let layer : layer_in c.args.bytes.now (table_of c.args.field.now) ≡ Some (parts.flat c.in-Flat.data_type) = search rules in
    let empty : c.new.result ≡ [] = search rules in
    rw empty (type-flat (field_in None c.args.bytes.now c.args.levels) c.args.bytes.now (table_of c.args.field.now) c.args.left
    c.in-Flat.data_type layer)

pub type_in-returns-in_ok-with_field-in-Over-clause-value : goal.type_in-returns-in_ok-with_field-in-Over-clause-value
type_in-returns-in_ok-with_field-in-Over-clause-value t c =
    let read = field_in None c.args.bytes.now c.args.levels in
    let child = table_of c.in-Some-first_child.child in
    let layer : layer_in c.args.bytes.now (table_of c.args.field.now) ≡ Some (parts.over (over_field c.in-Over.over)) = search rules in
    let first : first_child c.args.bytes.now (table_of c.args.field.now) ≡ Some child = search rules in
    let made : over_one (over_field c.in-Over.over) (field_view c.in_ok-found-in-Over.found) ≡ Some (type_view c.in_ok-with_field-in-Over.field-0)
    = search rules in
    type-over read c.args.bytes.now (table_of c.args.field.now) c.args.left (over_field c.in-Over.over) child layer first
    ∙ ap (λ o. o >>= over_one (over_field c.in-Over.over)) c.in_ok-found-in-Over.ensures.value ∙ made

pub type_in-returns-in_ok-found-in-OverAll-clause-value : goal.type_in-returns-in_ok-found-in-OverAll-clause-value
type_in-returns-in_ok-found-in-OverAll-clause-value t c =
    let read = field_in None c.args.bytes.now c.args.levels in
    let v = vector_of c.in-Some-children.vector in
    let layer : layer_in c.args.bytes.now (table_of c.args.field.now) ≡ Some (parts.over_all (over_fields c.in-OverAll.over)) = search rules in
    let all : children c.args.bytes.now (table_of c.args.field.now) ≡ Some v = search rules in
    type-over-all read c.args.bytes.now (table_of c.args.field.now) c.args.left (over_fields c.in-OverAll.over) v layer all
    ∙ ap (λ o. o >>= over_each (over_fields c.in-OverAll.over)) c.in_ok-found-in-OverAll.ensures.value ∙ c.with_fields.ensures.value

pub field_in-returns-then-levels-eq0-clause-value : goal.field_in-returns-then-levels-eq0-clause-value
field_in-returns-then-levels-eq0-clause-value t c = rw c.if-levels-eq0.true (field-no-level c.args.bytes.now (table_of c.args.table.now) c.args.left)

pub field_in-returns-then-left-eq0-clause-value : goal.field_in-returns-then-left-eq0-clause-value
field_in-returns-then-left-eq0-clause-value t c = rw c.if-left-eq0.true (field-no-visit c.args.bytes.now c.args.levels (table_of c.args.table.now))

pub field_in-returns-in_default-clause-value : goal.field_in-returns-in_default-clause-value
field_in-returns-in_default-clause-value t c =
    let none : head_in c.args.bytes.now (table_of c.args.table.now) ≡ None = search rules in
    field-no-head c.args.bytes.now c.args.levels (table_of c.args.table.now) c.args.left c.if-levels-eq0.false c.if-left-eq0.false none

pub field_in-returns-in_err-found-clause-value : goal.field_in-returns-in_err-found-clause-value
field_in-returns-in_err-found-clause-value t c =
    let head : head_in c.args.bytes.now (table_of c.args.table.now) ≡ Some (head_view c.in-Some.head) = search rules in
    let is : c.from_residual.result ≡ Err c.in_err-found.field-0.0 = search rules in
    rw (
      is,
      field-type c.args.bytes.now c.args.levels (table_of c.args.table.now) c.args.left (head_view c.in-Some.head) c.if-levels-eq0.false
          c.if-left-eq0.false head,
    )
    (refuses-first c.in_err-found.field-0.0 (FloatBelow c.args.bytes.now (table_of c.args.table.now))
    (type_found (field_in None c.args.bytes.now (c.args.levels - 1)) c.args.bytes.now (table_of c.args.table.now) (c.args.left - 1))
    (FloatBelow c.args.bytes.now (table_of c.args.table.now)) (completed c.args.bytes.now (table_of c.args.table.now) (head_view c.in-Some.head))
    (λ float. float) c.in_err-found.ensures.value)

pub field_in-returns-clause-value : goal.field_in-returns-clause-value
field_in-returns-clause-value t c =
    let head : head_in c.args.bytes.now (table_of c.args.table.now) ≡ Some (head_view c.in-Some.head) = search rules in
    let is : field_in None c.args.bytes.now c.args.levels (table_of c.args.table.now) c.args.left ≡ completed c.args.bytes.now
    (table_of c.args.table.now) (head_view c.in-Some.head) (type_view c.in_ok-found.found) =
    field-type c.args.bytes.now c.args.levels (table_of c.args.table.now) c.args.left (head_view c.in-Some.head) c.if-levels-eq0.false
    c.if-left-eq0.false head
    ∙ ap (λ o. o >>= completed c.args.bytes.now (table_of c.args.table.now) (head_view c.in-Some.head)) c.in_ok-found.ensures.value in
    rw is (reads-more field_view c.completed.result (FloatBelow c.args.bytes.now (table_of c.args.table.now))
    (completed c.args.bytes.now (table_of c.args.table.now) (head_view c.in-Some.head) (type_view c.in_ok-found.found)) c.completed.ensures.value)
