-- Whether a schema is that of a table.
use Rattle.std.proofs.Common.{◌≡◌, ◌∙◌, ◌↔◌, Bool, true, false, sym}
use Rattle.std.proofs.lemmas.Bool.{false≢true}
use Rattle.std.specs.Prelude.{IsTrue}
use Rattle.ipc_format.specs.columnar_memory.declared.Schema.{Schema}
use Rattle.ipc_format.specs.Writable.{is_writable, normalised}
use Rattle.tables_chunks.specs.TableSchemas.{IsTableSchema}

-- one that is not written is none
pub not_written : (schema : Schema) → is_writable schema ≡ false → IsTrue false ↔ IsTableSchema schema
not_written schema is = (λ h. absurd (false≢true h), λ form. absurd (false≢true (sym is ∙ form.writable)))

-- of one that is written its one form decides
pub form_decides : (schema normal : Schema) (answer : Bool) → is_writable schema ≡ true → normal ≡ normalised schema
    → IsTrue answer ↔ (normal ≡ schema) → IsTrue answer ↔ IsTableSchema schema
form_decides schema normal answer writable is tells = (
  λ h. record { writable = writable; normal = sym is ∙ tells.0 h },
  λ form. tells.1 (is ∙ form.normal),
)
