-- The dictionaries that a tracker holds, and what is answered of one more (Arrow IPC, "Dictionary Messages").
use Rattle.std.specs.Prelude.{◌≡◌, ℤ, Bool, true, false, List, ◌∷◌, map, Some, Result, Ok, Err, if◌then◌else◌}
use Rattle.std.specs.Map.{lookup}
use Rattle.std.specs.Ordering.{int_eq}
use Rattle.columnar_memory_types.specs.Error.{IsOutOfMemory}
use Rattle.ipc_format_batch_reading.specs.columnar_memory.declared.Error.{Error}
use Rattle.ipc_format_batch_reading.specs.columnar_memory.declared.Error.TheVariants.{InvalidArgumentError, OutOfMemory}
use Rattle.ipc_format_batch_reading.specs.columns.StoredColumns.{Column, column_type, slots}
use Rattle.ipc_format_batch_reading.specs.grammar.GivenDictionaries.{Given, last_under, stands_for}
use Rattle.ipc_format_batch_reading.specs.grammar.StoredEncoding.{encode_stored}
use Rattle.ipc_format_batch_reading.specs.grammar.Tables.{Form, stream, file}
use Rattle.ipc_format_batch_reading.specs.grammar.WrittenFiles.{is_first_or_same}
use Rattle.ipc_format_chunk_writing.specs.declared.tracker.DictionaryTracker.{DictionaryTracker}

-- the dictionary that values under an id are
abbrev pub given_of : ℤ → Column → Given
given_of id values = record { id = id; data_type = column_type values; slots = slots values; column = encode_stored true values }

-- the dictionaries that a map from ids to values holds
abbrev pub told_by : List (ℤ × Column) → List Given
told_by entries = map (λ (entry : ℤ × Column). given_of entry.0 entry.1) entries

-- A map tells what was told: under each id it holds the dictionary that was told last, if one was. What was told counts by these alone
-- (`to_write`, `written_after`).
abbrev pub Tells : List (ℤ × Column) → List Given → Type 0
Tells entries told = (id : ℤ) → last_under id (told_by entries) ≡ last_under id told

-- what a tracker holds, and whether it replaces no dictionary
abbrev pub tracked : DictionaryTracker → List (ℤ × Column) × Bool
tracked tracker = (tracker.dictionaries.entries, tracker.cannot_replace)

-- where dictionaries can't be replaced, those of a file are written, and else those of a stream
abbrev pub form_by : Bool → Form
form_by true = file
form_by false = stream

-- whether a dictionary may be told where others were
abbrev pub may_put : Bool → List Given → Given → Bool
may_put true told given = is_first_or_same told given
may_put false told given = true

-- Where a map tells these dictionaries, one more differs from the last one under its id, or is the first, and may be told; or it says the same; or
-- it would replace that one, which can't be; or memory ran out.
abbrev pub ComparesAfter : Bool → Given → List Given → Result Bool Error → Type 0
ComparesAfter cannot_replace given told (Ok true) =
    (stands_for given (last_under given.id told) ≡ false) × (may_put cannot_replace told given ≡ true)
ComparesAfter cannot_replace given told (Ok false) = stands_for given (last_under given.id told) ≡ true
ComparesAfter cannot_replace given told (Err (InvalidArgumentError what)) = may_put cannot_replace told given ≡ false
ComparesAfter cannot_replace given told (Err OutOfMemory) = Unit {0}
ComparesAfter cannot_replace given told (Err _) = ⊥

abbrev pub Compares : List (ℤ × Column) × Bool → Given → Result Bool Error → Type 0
Compares tracker given result = (told : List Given) → Tells tracker.0 told → ComparesAfter tracker.1 given told result

-- values are put under an id, in the place of others if there are some; or memory ran out, and all is as it was
abbrev pub PutsValues : List (ℤ × Column) × Bool → List (ℤ × Column) × Bool → ℤ → Column → Result (Unit {0}) Error → Type 0
PutsValues old new id values (Ok _) =
    ((q : ℤ) → lookup (int_eq q) new.0 ≡ (if int_eq id q then Some values else lookup (int_eq q) old.0)) × (new.1 ≡ old.1)
PutsValues old new id values (Err error) = IsOutOfMemory error × (new ≡ old)

-- a dictionary that differs from the last one under its id, or is the first, was told
pub record IsTold (old new : List (ℤ × Column) × Bool) (given : Given) (told : List Given) : Type 0 where
  pub differs : stands_for given (last_under given.id told) ≡ false
  pub may : may_put old.1 told given ≡ true
  pub tells : Tells new.0 (given ∷ told)
  pub kind : new.1 ≡ old.1

-- Where a tracker tells these dictionaries, one more is to be written and is told; or it says the same as the last one under its id; or it
-- would replace that one, which can't be; or memory ran out. In all cases but the first the tracker is as it was.
abbrev pub InsertsAfter : List (ℤ × Column) × Bool → List (ℤ × Column) × Bool → Given → List Given → Result Bool Error → Type 0
InsertsAfter old new given told (Ok true) = IsTold old new given told
InsertsAfter old new given told (Ok false) = (stands_for given (last_under given.id told) ≡ true) × (new ≡ old)
InsertsAfter old new given told (Err (InvalidArgumentError what)) = (may_put old.1 told given ≡ false) × (new ≡ old)
InsertsAfter old new given told (Err OutOfMemory) = new ≡ old
InsertsAfter old new given told (Err _) = ⊥

-- the same wherever the tracker tells what was told
abbrev pub Inserts : List (ℤ × Column) × Bool → List (ℤ × Column) × Bool → Given → Result Bool Error → Type 0
Inserts old new given result = (told : List Given) → Tells old.0 told → InsertsAfter old new given told result
