-- A field, case by case.
use Rattle.std.proofs.Common.{◌≡◌, ◌∙◌, ℕ, zero, suc, ◌-◌, ◌≢◌, List, Bool, refl, ap, arith}
use Rattle.std.specs.Prelude.{Some, None}
use Rattle.ipc_format_grammar.specs.flatbuffers.Reading.{◌>>=◌}
use Rattle.ipc_format_grammar.specs.flatbuffers.FlatBuffers.{TablePlace}
use Rattle.ipc_format_grammar.specs.Schemas.{field_in}
use Rattle.ipc_format_metadata.specs.Steps.{type_found, head_in, completed}
use Rattle.ipc_format_metadata.proofs.FieldSteps.{field-by}

pub field-no-head : (bytes : List ℕ) (levels : ℕ) (table : TablePlace) (left : ℕ) → levels ≢ 0 → left ≢ 0 → head_in bytes table ≡ None → field_in None
    bytes levels table left ≡ None
field-no-head bytes zero table left l v e = absurd (l refl)
field-no-head bytes (suc levels) table zero l v e = absurd (v refl)
field-no-head bytes (suc levels) table (suc left) l v e = field-by bytes levels table left ∙ ap
    (λ o. o >>= (λ head. type_found (field_in None bytes levels) bytes table left >>= completed bytes table head)) e

pub field-type : (bytes : List ℕ) (levels : ℕ) (table : TablePlace) (left : ℕ) (head : List ℕ × Bool) → levels ≢ 0 → left ≢ 0 → head_in bytes table ≡
    Some head
    → field_in None bytes levels table left ≡ (type_found (field_in None bytes (levels - 1)) bytes table (left - 1) >>= completed bytes table head)
field-type bytes zero table left head l v e = absurd (l refl)
field-type bytes (suc levels) table zero head l v e = absurd (v refl)
field-type bytes (suc levels) table (suc left) head l v e =
    let one : suc levels - 1 ≡ levels = omega arith in
    let two : suc left - 1 ≡ left = omega arith in
    rw (one, two) (field-by bytes levels table left ∙ ap (λ o. o >>= (λ head. type_found (field_in None bytes levels) bytes table left >>=
    completed bytes table head)) e)
