-- What the inputs of a command hold.
use Rattle.std.specs.Prelude.{◌≡◌, ℕ, List, [], ◌∷◌, ◌++◌, Option, Some, None, Result, Ok, Err}
use Rattle.std.specs.declared.vec.Vec.{Vec}
use Rattle.std.specs.declared.alloc.Global.{Global}
use Rattle.tables_rows.specs.ReadChoices.{ReadsChoice, form_of}
use Rattle.tables_rows.specs.chunks.declared.fault.Fault.{Fault}
use Rattle.tables_rows.specs.chunks.declared.fault.Fault.TheVariants as faults
use Rattle.tables_rows.specs.chunks.ReadTables.{ReadsTable}
use Rattle.tables_rows.specs.chunks.StoredTables.{Stored}
use Rattle.tables.specs.Contents.{Contents, Holds}
use Rattle.tables.specs.Forms.{form_in}
use Rattle.tables.specs.declared.program.Failure.{Failure}
use Rattle.tables.specs.declared.program.Failure.TheVariants as failures

-- what is read of some bytes as a choice of columns under a limit of rows
abbrev pub PicksOf : List ℕ → List ℕ → Option ℕ → Result Stored Fault → Type 0
PicksOf bytes columns limit result = ReadsChoice (λ table. table) (form_of (form_in bytes)) bytes columns limit result

-- the bytes that stand under a name are those of a table
abbrev pub HoldsTable : Option Contents → List ℕ → Stored → Type 0
HoldsTable contents name table = (bytes : List ℕ) × Holds contents name (Some bytes) × ReadsTable (form_in bytes) (Ok table) bytes

-- the same of some names, each with its table
abbrev pub HoldTables : Option Contents → List (List ℕ) → List Stored → Type 0
HoldTables contents [] [] = Unit {0}
HoldTables contents (name ∷ names) (table ∷ tables) = HoldsTable contents name table × HoldTables contents names tables
HoldTables contents _ _ = ⊥

-- why no table is read under a name: nothing stands there; the bytes there are refused so; or memory ran out
abbrev pub IsReadFailure : Failure → Option Contents → List ℕ → Type 0
IsReadFailure failures.UnreadableInput contents name = Holds contents name None
IsReadFailure (failures.Fault faults.Memory) contents name = Unit {0}
IsReadFailure (failures.Fault fault) contents name =
    (bytes : List ℕ) × Holds contents name (Some bytes) × ReadsTable (form_in bytes) (Err fault) bytes
IsReadFailure _ contents name = ⊥

-- what stands under a name; or nothing does, or memory ran out
abbrev pub ReadsBytes : Result (Vec ℕ Global) Failure → Option Contents → List ℕ → Type 0
ReadsBytes (Ok bytes) contents name = Holds contents name (Some bytes.items)
ReadsBytes (Err failures.UnreadableInput) contents name = Holds contents name None
ReadsBytes (Err (failures.Fault faults.Memory)) contents name = Unit {0}
ReadsBytes (Err _) contents name = ⊥

-- the table under a name, or why there is none
abbrev pub ReadsInput : Result Stored Failure → Option Contents → List ℕ → Type 0
ReadsInput (Ok table) contents name = HoldsTable contents name table
ReadsInput (Err failure) contents name = IsReadFailure failure contents name

-- Why the inputs are not read: the first that has no table has none so. Those before it were read.
pub record IsInputFailure (failure : Failure) (contents : Option Contents) (names : List (List ℕ)) : Type 0 where
  pub before : List (List ℕ)
  pub name : List ℕ
  pub behind : List (List ℕ)
  pub stand : names ≡ before ++ name ∷ behind
  pub tables : List Stored
  pub read : HoldTables contents before tables
  pub why : IsReadFailure failure contents name

-- the bytes that stand under a name are read as a choice of columns, and a limit of rows
abbrev pub ReadsPicked : List ℕ → Option ℕ → Result Stored Failure → Option Contents → List ℕ → Type 0
ReadsPicked columns limit (Ok table) contents name =
    (bytes : List ℕ) × Holds contents name (Some bytes) × PicksOf bytes columns limit (Ok table)
ReadsPicked columns limit (Err failures.UnreadableInput) contents name = Holds contents name None
ReadsPicked columns limit (Err (failures.Fault faults.Memory)) contents name = Unit {0}
ReadsPicked columns limit (Err (failures.Fault fault)) contents name =
    (bytes : List ℕ) × Holds contents name (Some bytes) × PicksOf bytes columns limit (Err fault)
ReadsPicked columns limit (Err _) contents name = ⊥

abbrev pub ReadsInputs : Result (Vec Stored Global) Failure → Option Contents → List (List ℕ) → Type 0
ReadsInputs (Ok tables) contents names = HoldTables contents names tables.items
ReadsInputs (Err failure) contents names = IsInputFailure failure contents names
