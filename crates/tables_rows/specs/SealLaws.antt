-- That seals are canonical: with one batch size, as many tables may be told by their seals as by their schemas and rows.
use Rattle.std.specs.Prelude.{◌≡◌, ◌↔◌, ℕ, true, List, length, nat_lt, Option, Some, Result}
use Rattle.std.specs.List.{list_all}
use Rattle.std.specs.Result.{IfErr}
use Rattle.std.specs.declared.alloc.Global.{Global}
use Rattle.std.specs.declared.vec.Vec.{Vec}
use Rattle.tables_chunks.specs.declared.fault.Fault.{Fault}
use Rattle.tables_chunks.specs.declared.fault.Fault.TheVariants as faults
use Rattle.tables_chunks.specs.ipc_format.columns.Tables.{Table, choice_within}
use Rattle.tables_chunks.specs.ipc_format.grammar.Tables.{Form, stream, table_of, choice_of}
use Rattle.tables_chunks.specs.ipc_format.reading_laws.SealLaws.{IsTableOfTexts}
use Rattle.tables_chunks.specs.ipc_format.Seals.{SealableWith, sealed}
use Rattle.tables_rows.specs.Seals.{Seals}

-- Two tables that are sealed in batches of one size have the same bytes exactly where they have the same schema and the same rows.
abbrev pub SealsAreCanonical : Type 0
SealsAreCanonical = (left right : Table) (n : ℕ) (left_bytes right_bytes : List ℕ) → IsTableOfTexts left → IsTableOfTexts right
    → sealed left.schema left.rows n ≡ Some left_bytes → sealed right.schema right.rows n ≡ Some right_bytes
    → (left_bytes ≡ right_bytes) ↔ (left ≡ right)

-- Of a table that may be sealed in batches of n rows, a seal is refused for want of memory alone.
abbrev pub SealableTablesAreSealed : Type 0
SealableTablesAreSealed = (table : Table) (n : ℕ) (result : Result (Vec ℕ Global) Fault) → SealableWith table n → Seals table n result
    → IfErr result (λ fault. fault ≡ faults.Memory)

-- A seal that is read and sealed again in batches of the same size has the same bytes.
abbrev pub SealsAreSealedAgain : Type 0
SealsAreSealedAgain = (table again : Table) (n : ℕ) (bytes : List ℕ) → IsTableOfTexts table → sealed table.schema table.rows n ≡ Some bytes
    → table_of stream bytes ≡ Some again → sealed again.schema again.rows n ≡ Some bytes

-- Where bytes read as a whole, what is read of a choice of their columns under a limit has the seal of that choice of the first rows of the whole.
abbrev pub SealsOfChoicesAreOfTheWhole : Type 0
SealsOfChoicesAreOfTheWhole = (form : Form) (bytes columns : List ℕ) (limit : Option ℕ) (whole chosen : Table) (n : ℕ)
    → table_of form bytes ≡ Some whole → list_all (λ k. nat_lt k (length whole.schema.fields)) columns ≡ true
    → choice_of form bytes columns limit ≡ Some chosen
    → sealed chosen.schema chosen.rows n ≡ sealed (choice_within columns limit whole).schema (choice_within columns limit whole).rows n
