-- What is read of a choice of columns under a limit of rows (Arrow IPC, "IPC Streaming Format", "IPC File Format").
use Rattle.std.specs.Prelude.{◌≡◌, ℕ, true, List, length, Option, Some, nat_lt}
use Rattle.std.specs.List.{list_all}
use Rattle.ipc_format_grammar.specs.columns.Tables.{Table, choice_within}
use Rattle.ipc_format_grammar.specs.Tables.{Form, table_of, choice_of}

-- Where bytes read as a whole, what is read of a choice of their columns under a limit is that choice of the first rows.
abbrev pub ChoicesAreOfTheWhole : Type 0
ChoicesAreOfTheWhole = (form : Form) (bytes : List ℕ) (columns : List ℕ) (limit : Option ℕ) (table : Table)
    → table_of form bytes ≡ Some table → list_all (λ k. nat_lt k (length table.schema.fields)) columns ≡ true
    → choice_of form bytes columns limit ≡ Some (choice_within columns limit table)
