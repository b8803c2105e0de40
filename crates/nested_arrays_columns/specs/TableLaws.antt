-- What holds of every part, choice and join of tables.
use Rattle.std.specs.Prelude.{◌≡◌, ℕ, ◌+◌, ◌-◌, ◌≤◌, List, ◌∷◌, length}
use Rattle.nested_arrays_columns.specs.Tables.{Table, part, choice, limit, joined}

-- a part of a part is one part, at the sum of the places
abbrev pub PartsJoin : Type 0
PartsJoin = (table : Table) (o n p q : ℕ) → p + q ≤ n → part p q (part o n table) ≡ part (o + p) q table

-- where a column is chosen, the choice of a part is the part of the choice
abbrev pub ChoiceOfPart : Type 0
ChoiceOfPart = (table : Table) (column : ℕ) (columns : List ℕ) (o n : ℕ)
    → choice (column ∷ columns) (part o n table) ≡ part o n (choice (column ∷ columns) table)

-- it is the same in which order three tables are joined
abbrev pub JoinsAssociate : Type 0
JoinsAssociate = (a b c : Table) → joined (joined a b) c ≡ joined a (joined b c)

-- the first rows are a part
abbrev pub LimitIsPart : Type 0
LimitIsPart = (table : Table) (k : ℕ) → limit k table ≡ part 0 k table

-- a table is its first rows joined with its other rows
abbrev pub PartsMakeWhole : Type 0
PartsMakeWhole = (table : Table) (n : ℕ) → joined (part 0 n table) (part n (length table.rows - n) table) ≡ table
