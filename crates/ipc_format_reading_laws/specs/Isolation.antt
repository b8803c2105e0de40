-- What stands outside of the windows of some columns says nothing of a choice of these columns (Arrow IPC, "RecordBatch message").
use Rattle.std.specs.Prelude.{◌≡◌, ℕ, List, Option, Some}
use Rattle.ipc_format_laws.specs.columns.Tables.{Table}
use Rattle.ipc_format_laws.specs.grammar.Tables.{Form, table_of, choice_of}
use Rattle.ipc_format_laws.specs.grammar.Windows.{Agree}

-- Where an input reads as a whole, each input that agrees with it on some columns, whether it reads as a whole or not, has the same choice of
-- these columns under each limit.
abbrev pub ChoicesAreIsolated : Type 0
ChoicesAreIsolated = (form : Form) (columns : List ℕ) (a b : List ℕ) (limit : Option ℕ) (table : Table) → Agree form columns a b
    → table_of form a ≡ Some table → choice_of form b columns limit ≡ choice_of form a columns limit
