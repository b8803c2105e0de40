-- A field, step by step.
use Rattle.std.proofs.Common.{◌≡◌, ◌∙◌, ℕ, zero, suc, ◌-◌, ◌≢◌, List, refl, sym, arith}
use Rattle.std.specs.Prelude.{Option, Some, None}
use Rattle.ipc_format_writing.specs.flatbuffers.Reading.{◌>>=◌}
use Rattle.ipc_format_writing.specs.grammar.Schemas.{Visits}
use Rattle.ipc_format_writing.specs.messages.MessageSlots.{TableIn, VectorIn}
use Rattle.ipc_format_writing.specs.messages.SchemaSlots.{field_children}
use Rattle.ipc_format_values.specs.declared.fields.Field.{Field}
use Rattle.ipc_format_values.specs.declared.taken_fields.FieldParts.{FieldParts}
use Rattle.ipc_format_values.specs.OwnedFields.{parts_in, field_over, fields_if, field_in}

pub field_no_level : (field : TableIn) (left : ℕ) → None ≡ field_in zero field left
unfolding field_in
field_no_level field left = refl

pub field_no_visit : (levels : ℕ) (field : TableIn) → None ≡ field_in levels field zero
unfolding field_in
field_no_visit zero field = refl
field_no_visit (suc levels) field = refl

-- a visited field
abbrev pub visited : (TableIn → Visits Field) → TableIn → Visits Field
visited read field left = do
  parts ← parts_in field
  found ← field_children field
  children ← fields_if read found left
  Some (field_over parts children.0, children.1)

field_by : (levels : ℕ) (field : TableIn) (left : ℕ) → levels ≢ 0 → left ≢ 0
    → field_in levels field left ≡ visited (field_in (levels - 1)) field (left - 1)
unfolding field_in
field_by zero field left l v = absurd (l refl)
field_by (suc levels) field zero l v = absurd (v refl)
field_by (suc levels) field (suc left) l v =
    let one : suc levels - 1 ≡ levels = omega arith in
    let two : suc left - 1 ≡ left = omega arith in
    rw (one, two) refl

pub field_no_parts : (levels : ℕ) (field : TableIn) (left : ℕ) → levels ≢ 0 → left ≢ 0 → parts_in field ≡ None → None ≡ field_in levels field left
field_no_parts levels field left l v parts = sym (field_by levels field left l v ∙ rw parts refl)

pub field_no_children : (levels : ℕ) (field : TableIn) (left : ℕ) (parts : FieldParts) → levels ≢ 0 → left ≢ 0 → parts_in field ≡ Some parts
    → field_children field ≡ None → None ≡ field_in levels field left
field_no_children levels field left parts l v p children = sym (field_by levels field left l v ∙ rw (p, children) refl)

pub field_no_fields : (levels : ℕ) (field : TableIn) (left : ℕ) (parts : FieldParts) (found : Option VectorIn) → levels ≢ 0 → left ≢ 0
    → parts_in field ≡ Some parts → field_children field ≡ Some found → fields_if (field_in (levels - 1)) found (left - 1) ≡ None
    → None ≡ field_in levels field left
field_no_fields levels field left parts found l v p children fields = sym (field_by levels field left l v ∙ rw (p, children, fields) refl)

pub field_is : (levels : ℕ) (field : TableIn) (left : ℕ) (parts : FieldParts) (found : Option VectorIn) (below : List Field) (after : ℕ)
    → levels ≢ 0 → left ≢ 0 → parts_in field ≡ Some parts → field_children field ≡ Some found
    → fields_if (field_in (levels - 1)) found (left - 1) ≡ Some (below, after) → Some (field_over parts below, after) ≡ field_in levels field left
field_is levels field left parts found below after l v p children fields =
    sym (field_by levels field left l v ∙ rw (p, children, fields) refl)
