use Rattle.std.proofs.Common.{◌≡◌, ◌∙◌, ◌++◌, ◌∷◌, ◌-◌, [], ap, arith, rules}
use Rattle.std.specs.Prelude.{Some, None}
use Rattle.std.specs.Option.{option_map}
use Rattle.ipc_format_writing.specs.messages.SchemaRefs.{field_view, fields_view}
use Rattle.ipc_format_writing.specs.messages.SchemaSlots.{field_children}
use Rattle.ipc_format_values.specs.Owned.{table_at}
use Rattle.ipc_format_values.specs.OwnedFields.{parts_in, field_over, field_in, fields_if, fields_in}
use Rattle.ipc_format_values.proofs.FieldsTaken.{
  field_no_level,
  field_no_visit,
  field_no_parts,
  field_no_children,
  field_no_fields,
  field_is,
}
use Rattle.ipc_format_values.proofs.Gathered.{fields_next, fields_no_table, fields_none, fields_done}
use Rattle.ipc_format_values.proofs.taken_fields.+taking.Goals as goal

pub field_in-returns-then-levels-eq0-clause-value : goal.field_in-returns-then-levels-eq0-clause-value
field_in-returns-then-levels-eq0-clause-value t c = rw c.if-levels-eq0.true (field_no_level (field_view c.args.field.now) c.args.left)

pub field_in-returns-then-left-eq0-clause-value : goal.field_in-returns-then-left-eq0-clause-value
field_in-returns-then-left-eq0-clause-value t c = rw c.if-left-eq0.true (field_no_visit c.args.levels (field_view c.args.field.now))

pub field_in-returns-in_default-clause-value : goal.field_in-returns-in_default-clause-value
field_in-returns-in_default-clause-value t c =
    let none : parts_in (field_view c.args.field.now) ≡ None = search rules in
    field_no_parts c.args.levels (field_view c.args.field.now) c.args.left c.if-levels-eq0.false c.if-left-eq0.false none

pub field_in-returns-in_default-children-clause-value : goal.field_in-returns-in_default-children-clause-value
field_in-returns-in_default-children-clause-value t c =
    let parts : parts_in (field_view c.args.field.now) ≡ Some c.in-Some.parts = search rules in
    let none : field_children (field_view c.args.field.now) ≡ None = search rules in
    field_no_children c.args.levels (field_view c.args.field.now) c.args.left c.in-Some.parts c.if-levels-eq0.false c.if-left-eq0.false parts none

pub field_in-returns-in-Some-2-clause-value : goal.field_in-returns-in-Some-2-clause-value
field_in-returns-in-Some-2-clause-value t c =
    let parts : parts_in (field_view c.args.field.now) ≡ Some c.in-Some.parts = search rules in
    let children : field_children (field_view c.args.field.now) ≡ Some (option_map fields_view c.in-Ok.children) = search rules in
    let below : fields_if (field_in (c.args.levels - 1)) (option_map fields_view c.in-Ok.children) (c.args.left - 1)
    ≡ Some (c.in-Some-2.below.fields, c.in-Some-2.below.left) = search rules in
    let made : c.field_over.result ≡ field_over c.in-Some.parts c.in-Some-2.below.fields = search rules in
    ap (λ field. Some (field, c.in-Some-2.below.left)) made
    ∙ field_is c.args.levels (field_view c.args.field.now) c.args.left c.in-Some.parts (option_map fields_view c.in-Ok.children)
    c.in-Some-2.below.fields c.in-Some-2.below.left c.if-levels-eq0.false c.if-left-eq0.false parts children below

pub field_in-returns-in-None-clause-value : goal.field_in-returns-in-None-clause-value
field_in-returns-in-None-clause-value t c =
    let parts : parts_in (field_view c.args.field.now) ≡ Some c.in-Some.parts = search rules in
    let children : field_children (field_view c.args.field.now) ≡ Some (option_map fields_view c.in-Ok.children) = search rules in
    let below : fields_if (field_in (c.args.levels - 1)) (option_map fields_view c.in-Ok.children) (c.args.left - 1) ≡ None = search rules in
    field_no_fields c.args.levels (field_view c.args.field.now) c.args.left c.in-Some.parts (option_map fields_view c.in-Ok.children)
    c.if-levels-eq0.false c.if-left-eq0.false parts children below

pub fields_in-returns-in_default-clause-value : goal.fields_in-returns-in_default-clause-value
fields_in-returns-in_default-clause-value t c =
    let read = field_in c.args.levels in
    let from = fields_view c.args.fields.now in
    let none : table_at from c.loop-k.k ≡ None = search rules in
    fields_no_table read from (fields_in read from c.args.left) c.loop-k.made c.loop-k.k c.loop-k.still c.loop-k-test.true none
    c.loop-k.invariant.given

pub fields_in-returns-in_default-2-clause-value : goal.fields_in-returns-in_default-2-clause-value
fields_in-returns-in_default-2-clause-value t c =
    let read = field_in c.args.levels in
    let from = fields_view c.args.fields.now in
    let table : table_at from c.loop-k.k ≡ Some (field_view c.in-Some.field) = search rules in
    let none : read (field_view c.in-Some.field) c.loop-k.still ≡ None = search rules in
    fields_none read from (fields_in read from c.args.left) c.loop-k.made c.loop-k.k c.loop-k.still (field_view c.in-Some.field)
    c.loop-k-test.true table none c.loop-k.invariant.given

pub fields_in-loop-k-preserved : goal.fields_in-loop-k-preserved
fields_in-loop-k-preserved t c =
    let read = field_in c.args.levels in
    let from = fields_view c.args.fields.now in
    let table : table_at from c.loop-k.k ≡ Some (field_view c.in-Some.field) = search rules in
    let is : read (field_view c.in-Some.field) c.loop-k.still ≡ Some (c.in-Some-2.found.field, c.in-Some-2.found.left) = search rules in
    let made : c.push.new.self ≡ c.loop-k.made ++ c.in-Some-2.found.field ∷ [] = search rules in
    let used = c.in_ok-found.ensures.used in
    record {
      given = fields_next read from (fields_in read from c.args.left) c.loop-k.made c.push.new.self c.loop-k.k c.loop-k.still
          (field_view c.in-Some.field) c.in-Some-2.found.field c.in-Some-2.found.left table is made c.loop-k.invariant.given;
      visits = search (rules, arith);
    }

pub fields_in-returns-clause-value : goal.fields_in-returns-clause-value
fields_in-returns-clause-value t c =
    let read = field_in c.args.levels in
    let from = fields_view c.args.fields.now in
    fields_done read from (fields_in read from c.args.left) c.loop-k.made c.loop-k.k c.loop-k.still (omega arith) c.loop-k.invariant.given
