-- Seals are canonical.
use Rattle.std.proofs.Common.{◌≡◌, ◌∙◌, ℕ, List, sym, ap}
use Rattle.std.specs.Prelude.{Option, Some, None}
use Rattle.tables_chunks.specs.ipc_format.columns.Tables.{Table}
use Rattle.tables_chunks.specs.ipc_format.Seals.{sealed}
use Rattle.tables_chunks.specs.ipc_format.reading_laws.SealLaws.{SealsTellTablesApart}
use Rattle.tables_rows.specs.SealLaws.{SealsAreCanonical}

abbrev some_of : List ℕ → Option (List ℕ) → List ℕ
some_of other None = other
some_of other (Some x) = x

same_bytes : (x y : List ℕ) → Some x ≡ Some y → x ≡ y
same_bytes x y e = ap (some_of x) e

-- where seals tell tables apart, they are canonical
pub canonical_from : SealsTellTablesApart → SealsAreCanonical
canonical_from law left right n left_bytes right_bytes its_left its_right left_sealed right_sealed = (
  λ same. law left right n n right_bytes its_left its_right
      (left_sealed ∙ ap Some same) right_sealed,
  λ same. same_bytes left_bytes right_bytes
      (sym left_sealed ∙ ap (λ (table : Table). sealed table.schema table.rows n) same ∙ right_sealed),
)
