-- Inputs, what is made of them and outputs, put together to what comes of a command.
use Rattle.std.proofs.Common.{◌≡◌, ◌⊎◌, inl, inr, ℕ, List, [], ◌∷◌, ◌++◌, take, drop, get_or, length, ◌+◌, ◌<◌, ap, refl, sym, subst, ◌∙◌}
use Rattle.std.specs.Prelude.{◌↔◌, IsTrue, Bool, true, false, Option, Some, None, Result, Ok, Err}
use Rattle.std.proofs.lemmas.Bool.{false≢true}
use Rattle.std.proofs.lemmas.List.{take_more, take-append-drop, at_drop_more}
use Rattle.tables_rows.specs.chunks.ipc_format.columnar_memory.declared.Error.TheVariants as errors
use Rattle.tables_rows.specs.chunks.declared.fault.Fault.TheVariants as faults
use Rattle.tables_rows.specs.chunks.StoredTables.{Stored}
use Rattle.tables.specs.Command.{Asked, Cut, Join, Same, Seal, inputs_of}
use Rattle.tables.specs.Contents.{Contents, Holds, Keeps, Sets}
use Rattle.tables.specs.Inputs.{HoldsTable, HoldTables, IsInputFailure, IsReadFailure}
use Rattle.tables.specs.Made.{IsNotMade, MakesCut, MakesJoin, MakesSeal, seal_of, stream_of}
use Rattle.tables.specs.Outcome.{CarriesOut, IsFailure, IsMade, IsTooLong, IsUnmade, PutsBytes, PutsTable}
use Rattle.tables.specs.declared.program.Failure.{Failure}
use Rattle.tables.specs.declared.program.Failure.TheVariants as failures
use Rattle.tables.specs.declared.program.Outcome.{Outcome}
use Rattle.tables.specs.declared.program.Outcome.TheVariants as outcomes

-- ---- contents that are kept

pub holds_before : (old new : Option Contents) (name : List ℕ) (bytes : Option (List ℕ)) → Keeps old new → Holds new name bytes → Holds old name bytes
holds_before None new name bytes kept holds = tt
holds_before (Some m) new name bytes kept holds = subst (λ (contents : Option Contents). Holds contents name bytes) kept holds

pub keeps_both : (old middle new : Option Contents) → Keeps old middle → Keeps middle new → Keeps old new
keeps_both None middle new first second = tt
keeps_both (Some m) middle new first second = subst (λ (contents : Option Contents). Keeps contents new) first second

pub sets_behind : (old middle new : Option Contents) (name bytes : List ℕ) → Keeps old middle → Sets middle new name bytes → Sets old new name bytes
sets_behind None middle new name bytes kept sets = tt
sets_behind (Some m) middle new name bytes kept sets = subst (λ (contents : Option Contents). Sets contents new name bytes) kept sets

pub table_before : (old new : Option Contents) (name : List ℕ) (table : Stored) → Keeps old new → HoldsTable new name table
    → HoldsTable old name table
table_before old new name table kept (bytes, holds, read) = (bytes, holds_before old new name (Some bytes) kept holds, read)

pub tables_before : (old new : Option Contents) (names : List (List ℕ)) (tables : List Stored) → Keeps old new → HoldTables new names tables
    → HoldTables old names tables
tables_before old new [] [] kept held = tt
tables_before old new [] (table ∷ tables) kept held = absurd held
tables_before old new (name ∷ names) [] kept held = absurd held
tables_before old new (name ∷ names) (table ∷ tables) kept held =
    (table_before old new name table kept held.0, tables_before old new names tables kept held.1)

-- ---- failures

pub read_failure_before : (failure : Failure) (old new : Option Contents) (name : List ℕ) → Keeps old new → IsReadFailure failure new name
    → IsReadFailure failure old name
read_failure_before failures.UnreadableInput old new name kept why = holds_before old new name None kept why
read_failure_before failures.UnwritableOutput old new name kept why = absurd why
read_failure_before failures.RangeOutsideRows old new name kept why = absurd why
read_failure_before failures.SchemasDiffer old new name kept why = absurd why
read_failure_before failures.RepeatedColumn old new name kept why = absurd why
read_failure_before (failures.Fault faults.Memory) old new name kept why = tt
read_failure_before (failures.Fault (faults.Ipc error)) old new name kept (bytes, holds, why) =
    (bytes, holds_before old new name (Some bytes) kept holds, why)
read_failure_before (failures.Fault (faults.Lower error)) old new name kept (bytes, holds, why) =
    (bytes, holds_before old new name (Some bytes) kept holds, why)
read_failure_before (failures.Fault faults.Unfinished) old new name kept (bytes, holds, why) =
    (bytes, holds_before old new name (Some bytes) kept holds, why)
read_failure_before (failures.Fault (faults.NotSealable bar)) old new name kept (bytes, holds, why) =
    (bytes, holds_before old new name (Some bytes) kept holds, why)
read_failure_before (failures.Fault faults.RowWidth) old new name kept (bytes, holds, why) =
    (bytes, holds_before old new name (Some bytes) kept holds, why)
read_failure_before (failures.Fault faults.NoColumns) old new name kept (bytes, holds, why) =
    (bytes, holds_before old new name (Some bytes) kept holds, why)
read_failure_before (failures.Fault faults.TooManyRows) old new name kept (bytes, holds, why) =
    (bytes, holds_before old new name (Some bytes) kept holds, why)
read_failure_before (failures.Fault faults.NoSuchColumn) old new name kept (bytes, holds, why) =
    (bytes, holds_before old new name (Some bytes) kept holds, why)

-- a failure but want of memory and an output that can't be put is one of inputs, of what is made, or of its length
by_parts : (failure : Failure) (asked : Asked) (contents : Option Contents) → (failure ≡ failures.UnwritableOutput → ⊥)
    → IsInputFailure failure contents (inputs_of asked) ⊎ (IsUnmade failure asked contents ⊎ IsTooLong failure asked contents)
    → IsFailure failure asked contents
by_parts failures.UnreadableInput asked contents other why = why
by_parts failures.UnwritableOutput asked contents other why = absurd (other refl)
by_parts failures.RangeOutsideRows asked contents other why = why
by_parts failures.SchemasDiffer asked contents other why = why
by_parts failures.RepeatedColumn asked contents other why = why
by_parts (failures.Fault faults.Memory) asked contents other why = tt
by_parts (failures.Fault (faults.Ipc error)) asked contents other why = why
by_parts (failures.Fault (faults.Lower error)) asked contents other why = why
by_parts (failures.Fault faults.Unfinished) asked contents other why = why
by_parts (failures.Fault (faults.NotSealable bar)) asked contents other why = why
by_parts (failures.Fault faults.RowWidth) asked contents other why = why
by_parts (failures.Fault faults.NoColumns) asked contents other why = why
by_parts (failures.Fault faults.TooManyRows) asked contents other why = why
by_parts (failures.Fault faults.NoSuchColumn) asked contents other why = why

not_read : (failure : Failure) (contents : Option Contents) (name : List ℕ) → IsReadFailure failure contents name
    → failure ≡ failures.UnwritableOutput → ⊥
not_read failure contents name why same = subst (λ (f : Failure). IsReadFailure f contents name) same why

pub input_fails : (failure : Failure) (asked : Asked) (contents : Option Contents) → IsInputFailure failure contents (inputs_of asked)
    → IsFailure failure asked contents
input_fails failure asked contents why = by_parts failure asked contents (not_read failure contents why.name why.why) (inl why)

not_made : (failure : Failure) (asked : Asked) (tables : List Stored) → IsNotMade failure asked tables → failure ≡ failures.UnwritableOutput → ⊥
not_made failure asked tables why same = subst (λ (f : Failure). IsNotMade f asked tables) same why

pub unmade_fails : (failure : Failure) (asked : Asked) (contents : Option Contents) (tables : List Stored)
    → HoldTables contents (inputs_of asked) tables
    → IsNotMade failure asked tables → IsFailure failure asked contents
unmade_fails failure asked contents tables held why =
    by_parts failure asked contents (not_made failure asked tables why) (inr (inl (tables, held, why)))

-- ---- inputs one after another

-- one table more is read
pub tables_more : (contents : Option Contents) (names : List (List ℕ)) (tables : List Stored) (name : List ℕ) (table : Stored)
    → HoldTables contents names tables → HoldsTable contents name table → HoldTables contents (names ++ name ∷ []) (tables ++ table ∷ [])
tables_more contents [] [] name table held more = (more, tt)
tables_more contents [] (first ∷ tables) name table held more = absurd held
tables_more contents (first ∷ names) [] name table held more = absurd held
tables_more contents (first ∷ names) (one ∷ tables) name table held more = (held.0, tables_more contents names tables name table held.1 more)

-- the tables of the names up to one, and that of this one
pub tables_next : (contents : Option Contents) (names : List (List ℕ)) (i : ℕ) (tables more : List Stored) (name : List ℕ) (table : Stored)
    → i < length names → name ≡ get_or names i name → HoldTables contents (take i names) tables → HoldsTable contents name table
    → more ≡ tables ++ table ∷ [] → HoldTables contents (take (i + 1) names) more
tables_next contents names i tables more name table inside is held holds pushed =
    let next : take i names ++ name ∷ [] ≡ take (i + 1) names =
    ap (λ (x : List ℕ). take i names ++ x ∷ []) is ∙ sym (take_more names i name inside) in
    subst (λ (xs : List (List ℕ)). HoldTables contents xs more) next
    (subst (λ (ts : List Stored). HoldTables contents (take i names ++ name ∷ []) ts) (sym pushed)
    (tables_more contents (take i names) tables name table held holds))

-- an input that has no table, behind those that were read
pub input_failure_at : (failure : Failure) (contents : Option Contents) (names : List (List ℕ)) (i : ℕ) (tables : List Stored) (name : List ℕ)
    → i < length names → name ≡ get_or names i name → HoldTables contents (take i names) tables → IsReadFailure failure contents name
    → IsInputFailure failure contents names
input_failure_at failure contents names i tables name inside is held why = record {
  before = take i names;
  name = name;
  behind = drop (i + 1) names;
  stand = sym (take-append-drop i names) ∙ at_drop_more (λ (xs : List (List ℕ)). take i names ++ xs) names i name inside
      ∙ ap (λ (x : List ℕ). take i names ++ x ∷ drop (i + 1) names) (sym is);
  tables = tables;
  read = held;
  why = why;
}

-- the first input of a command has no table
pub first_fails : (failure : Failure) (asked : Asked) (contents : Option Contents) (name : List ℕ) (names : List (List ℕ))
    → inputs_of asked ≡ name ∷ names → IsReadFailure failure contents name → IsFailure failure asked contents
first_fails failure asked contents name names are why =
    input_fails failure asked contents
    (record { before = []; name = name; behind = names; stand = are; tables = []; read = tt; why = why })

-- the first has one, and then an input has none
pub later_fails : (failure : Failure) (asked : Asked) (contents : Option Contents) (name : List ℕ) (names : List (List ℕ)) (table : Stored)
    → inputs_of asked ≡ name ∷ names → HoldsTable contents name table → IsInputFailure failure contents names → IsFailure failure asked contents
later_fails failure asked contents name names table are holds why =
    input_fails failure asked contents
    (record {
      before = name ∷ why.before;
      name = why.name;
      behind = why.behind;
      stand = are ∙ ap (λ (xs : List (List ℕ)). name ∷ xs) why.stand;
      tables = table ∷ why.tables;
      read = (holds, why.read);
      why = why.why;
    })

pub second_fails : (failure : Failure) (left right : List ℕ) (contents : Option Contents) (table : Stored) → HoldsTable contents left table
    → IsReadFailure failure contents right → IsFailure failure (Same left right) contents
second_fails failure left right contents table holds why =
    later_fails failure (Same left right) contents left (right ∷ []) table refl holds
    (record { before = []; name = right; behind = []; stand = refl; tables = []; read = tt; why = why })

-- inputs in which known contents stayed as they were fail as they would have at first
pub input_failure_before : (failure : Failure) (old new : Option Contents) (names : List (List ℕ)) → Keeps old new
    → IsInputFailure failure new names → IsInputFailure failure old names
input_failure_before failure old new names kept why = record {
  before = why.before;
  name = why.name;
  behind = why.behind;
  stand = why.stand;
  tables = why.tables;
  read = tables_before old new why.before why.tables kept why.read;
  why = read_failure_before failure old new why.name kept why.why;
}

-- ---- what is made

-- a table that is read has no seal
pub seal_fails : (failure : Failure) (size : ℕ) (input output : List ℕ) (contents : Option Contents) (table : Stored)
    → HoldsTable contents input table → MakesSeal (Err failure) size table → IsFailure failure (Seal size input output) contents
seal_fails (failures.Fault fault) size input output contents table holds why =
    unmade_fails (failures.Fault fault) (Seal size input output) contents (table ∷ []) (holds, tt) why
seal_fails _ size input output contents table holds why = absurd why

pub cut_fails : (failure : Failure) (offset length : ℕ) (input output : List ℕ) (contents : Option Contents) (table : Stored)
    → HoldsTable contents input table → MakesCut (Err failure) offset length table → IsFailure failure (Cut offset length input output) contents
cut_fails failures.RangeOutsideRows offset length input output contents table holds why =
    unmade_fails failures.RangeOutsideRows (Cut offset length input output) contents (table ∷ []) (holds, tt) why
cut_fails (failures.Fault faults.Memory) offset length input output contents table holds why = tt
cut_fails _ offset length input output contents table holds why = absurd why

pub join_fails : (failure : Failure) (output first : List ℕ) (names : List (List ℕ)) (contents : Option Contents) (table : Stored)
    (others : List Stored) → HoldsTable contents first table → HoldTables contents names others → MakesJoin (Err failure) table others
    → IsFailure failure (Join output first names) contents
join_fails failures.SchemasDiffer output first names contents table others holds held why =
    unmade_fails failures.SchemasDiffer (Join output first names) contents (table ∷ others) (holds, held) why
join_fails (failures.Fault faults.TooManyRows) output first names contents table others holds held why =
    unmade_fails (failures.Fault faults.TooManyRows) (Join output first names) contents (table ∷ others) (holds, held) why
join_fails (failures.Fault faults.Memory) output first names contents table others holds held why = tt
join_fails _ output first names contents table others holds held why = absurd why

-- a test that fails tells that something doesn't hold
pub not_same : (answer : Bool) (P : Type 0) → IsTrue answer ↔ P → answer ≡ false → P → ⊥
not_same answer P tells fails holds = false≢true (sym fails ∙ tells.1 holds)

-- ---- outputs

-- the seal of a table that is read is put, or isn't
pub seal_put : (result : Result Outcome Failure) (size : ℕ) (input output : List ℕ) (old middle new : Option Contents) (table : Stored)
    (bytes : List ℕ) → Keeps old middle → HoldsTable old input table → seal_of size table ≡ Some bytes
    → PutsBytes result middle new output bytes → CarriesOut result (Seal size input output) old new
seal_put (Ok outcomes.Done) size input output old middle new table bytes kept holds is put =
    (table, bytes, holds, is, sets_behind old middle new output bytes kept put)
seal_put (Ok outcomes.Different) size input output old middle new table bytes kept holds is put = absurd put
seal_put (Err failures.UnwritableOutput) size input output old middle new table bytes kept holds is put =
    ((table, record { tables = table ∷ []; read = (holds, tt); makes = (refl, (bytes, is)) }), keeps_both old middle new kept put)
seal_put (Err (failures.Fault faults.Memory)) size input output old middle new table bytes kept holds is put =
    (tt, keeps_both old middle new kept put)
seal_put (Err _) size input output old middle new table bytes kept holds is put = absurd put

-- bytes that are put are those of a table's stream
pub stream_put : (result : Result Outcome Failure) (old new : Option Contents) (output bytes : List ℕ) (table : Stored)
    → bytes ≡ stream_of table → PutsBytes result old new output bytes → PutsTable result old new output table
stream_put (Ok outcomes.Done) old new output bytes table is put = subst (λ (its : List ℕ). Sets old new output its) is put
stream_put (Ok outcomes.Different) old new output bytes table is put = put
stream_put (Err failures.UnwritableOutput) old new output bytes table is put = put
stream_put (Err (failures.Fault faults.Memory)) old new output bytes table is put = put
stream_put (Err _) old new output bytes table is put = absurd put

-- what is made isn't put
put_fails : (failure : Failure) (asked : Asked) (old middle new : Option Contents) (output : List ℕ) (made : Stored) → Keeps old middle
    → IsMade asked old made → PutsTable (Err failure) middle new output made → IsFailure failure asked old × Keeps old new
put_fails failures.UnwritableOutput asked old middle new output made kept is why = ((made, is), keeps_both old middle new kept why)
put_fails (failures.Fault faults.Memory) asked old middle new output made kept is why = (tt, keeps_both old middle new kept why)
put_fails (failures.Fault (faults.Ipc errors.Overflow)) asked old middle new output made kept is why =
    (inr (inr (made, is, why.0)), keeps_both old middle new kept why.1)
put_fails _ asked old middle new output made kept is why = absurd why

pub cut_put : (result : Result Outcome Failure) (offset length : ℕ) (input output : List ℕ) (old middle new : Option Contents) (made : Stored)
    → Keeps old middle → IsMade (Cut offset length input output) old made → PutsTable result middle new output made
    → CarriesOut result (Cut offset length input output) old new
cut_put (Ok outcomes.Done) offset length input output old middle new made kept is put =
    (made, is, sets_behind old middle new output _ kept put)
cut_put (Ok outcomes.Different) offset length input output old middle new made kept is put = absurd put
cut_put (Err failure) offset length input output old middle new made kept is put =
    put_fails failure (Cut offset length input output) old middle new output made kept is put

pub join_put : (result : Result Outcome Failure) (output first : List ℕ) (names : List (List ℕ)) (old middle new : Option Contents) (made : Stored)
    → Keeps old middle → IsMade (Join output first names) old made → PutsTable result middle new output made
    → CarriesOut result (Join output first names) old new
join_put (Ok outcomes.Done) output first names old middle new made kept is put =
    (made, is, sets_behind old middle new output _ kept put)
join_put (Ok outcomes.Different) output first names old middle new made kept is put = absurd put
join_put (Err failure) output first names old middle new made kept is put =
    put_fails failure (Join output first names) old middle new output made kept is put
