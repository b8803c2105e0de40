-- The dictionaries of a batch as they are told one after another, and which of them are to be written.
use Rattle.std.specs.Prelude.{◌≡◌, ◌⊎◌, ℤ, Bool, true, false, ◌||◌, List, [], ◌∷◌, ◌++◌, map, Result, Ok, Err}
use Rattle.std.specs.List.{list_all, list_any}
use Rattle.std.specs.Ordering.{int_eq}
use Rattle.std.specs.declared.alloc.Global.{Global}
use Rattle.std.specs.declared.vec.Vec.{Vec}
use Rattle.ipc_format_batch_reading.specs.columnar_memory.declared.Error.{Error}
use Rattle.ipc_format_batch_reading.specs.columnar_memory.declared.Error.TheVariants as errors
use Rattle.ipc_format_batch_reading.specs.columns.StoredColumns.{Column}
use Rattle.ipc_format_batch_reading.specs.grammar.GivenDictionaries.{Given, last_under, stands_for, to_write, written_after}
use Rattle.ipc_format_batch_reading.specs.grammar.WriterRuns.{may_tell}
use Rattle.ipc_format_chunk_writing.specs.Found.{given_in}
use Rattle.ipc_format_chunk_writing.specs.Tracking.{IsTold, Tells, form_by, may_put}
use Rattle.ipc_format_chunk_writing.specs.declared.found.Found.{Found}

-- whether one of some dictionaries has an id
abbrev pub has_id : List Given → ℤ → Bool
has_id given id = list_any (λ (other : Given). int_eq id other.id) given

-- each of some dictionaries says the same as the last one under its id
abbrev pub all_stand : List Given → List Given → Bool
all_stand told given = list_all (λ (other : Given). stands_for other (last_under other.id told)) given

-- Some dictionaries were told behind others, these of them are to be written, and these ids were seen among them.
pub record IsToldUntil (old new : List (ℤ × Column) × Bool) (seen : ℤ → Bool) (told given sent : List Given) : Type 0 where
  pub may : may_tell (form_by old.1) told given ≡ true
  pub stand : all_stand (written_after told given) given ≡ true
  pub written : sent ≡ to_write told given
  pub tells : Tells new.0 (written_after told given)
  pub kind : new.1 ≡ old.1
  pub ids : (id : ℤ) → seen id ≡ has_id given id

-- the same wherever a tracker tells what was told
abbrev pub ToldUntil : List (ℤ × Column) × Bool → List (ℤ × Column) × Bool → (ℤ → Bool) → List Given → List Given → Type 0
ToldUntil old new seen given sent = (told : List Given) → Tells old.0 told → IsToldUntil old new seen told given sent

-- ---- one dictionary

-- One more dictionary of a batch is told, and is to be written; or it is the same as the last one under its id; or it would take the place of
-- another, which can't be, or of one of the same batch; or memory ran out.
abbrev pub TellsOneAfter : Bool → List (ℤ × Column) × Bool → List (ℤ × Column) × Bool → Given → List Given → Result Bool Error → Type 0
TellsOneAfter is_seen old new given told (Ok true) = (is_seen ≡ false) × IsTold old new given told
TellsOneAfter is_seen old new given told (Ok false) = (stands_for given (last_under given.id told) ≡ true) × (new ≡ old)
TellsOneAfter is_seen old new given told (Err (errors.InvalidArgumentError what)) =
    (may_put old.1 told given ≡ false) ⊎ ((is_seen ≡ true) × (stands_for given (last_under given.id told) ≡ false))
TellsOneAfter is_seen old new given told (Err errors.OutOfMemory) = Unit {0}
TellsOneAfter is_seen old new given told (Err _) = ⊥

abbrev pub TellsOne : Bool → List (ℤ × Column) × Bool → List (ℤ × Column) × Bool → Given → Result Bool Error → Type 0
TellsOne is_seen old new given result = (told : List Given) → Tells old.0 told → TellsOneAfter is_seen old new given told result

-- the ids that were seen, with one more
abbrev pub Sees : (ℤ → Bool) → (ℤ → Bool) → ℤ → Type 0
Sees old new id = (other : ℤ) → new other ≡ (old other || int_eq other id)

-- ---- all dictionaries of a batch

-- why the dictionaries of a batch are not told
abbrev pub IsNotTold : Error → Bool → List Given → List Given → Type 0
IsNotTold (errors.InvalidArgumentError what) cannot_replace told given = may_tell (form_by cannot_replace) told given ≡ false
IsNotTold errors.OutOfMemory cannot_replace told given = Unit {0}
IsNotTold _ cannot_replace told given = ⊥

-- one more dictionary is told behind others of the batch; or it is not, whichever come behind it
abbrev pub TellsNextAfter : List (ℤ × Column) × Bool → List (ℤ × Column) × Bool → (ℤ → Bool) → List Given → List Given → Given
    → Result (Unit {0}) Error → Type 0
TellsNextAfter start new seen given sent next (Ok done) = ToldUntil start new seen (given ++ next ∷ []) sent
TellsNextAfter start new seen given sent next (Err error) =
    (told : List Given) (rest : List Given) → Tells start.0 told → IsNotTold error start.1 told (given ++ next ∷ rest)

abbrev pub TellsNext : List (ℤ × Column) × Bool → List (ℤ × Column) × Bool → (ℤ → Bool) → (ℤ → Bool) → List Given → List Given → Given
    → Result (Unit {0}) Error → Type 0
TellsNext old new seen sees sent more next result = (start : List (ℤ × Column) × Bool) (given : List Given)
    → ToldUntil start old seen given sent → TellsNextAfter start new sees given more next result

pub record IsToldAll (old new : List (ℤ × Column) × Bool) (told given sent : List Given) : Type 0 where
  pub may : may_tell (form_by old.1) told given ≡ true
  pub written : sent ≡ to_write told given
  pub tells : Tells new.0 (written_after told given)
  pub kind : new.1 ≡ old.1

abbrev pub TellsAllAfter : List (ℤ × Column) × Bool → List (ℤ × Column) × Bool → List Given → List Given → Result (List Given) Error → Type 0
TellsAllAfter old new told given (Ok sent) = IsToldAll old new told given sent
TellsAllAfter old new told given (Err error) = IsNotTold error old.1 told given

abbrev pub TellsAll : List (ℤ × Column) × Bool → List (ℤ × Column) × Bool → List Given → Result (List Given) Error → Type 0
TellsAll old new given result = (told : List Given) → Tells old.0 told → TellsAllAfter old new told given result

-- what is answered with the dictionaries that are found, in a vector
abbrev pub given_found : Result (Vec Found Global) Error → Result (List Given) Error
given_found (Ok found) = Ok (map given_in found.items)
given_found (Err error) = Err error

-- the ids of a set
abbrev pub is_seen : List ℤ → ℤ → Bool
is_seen keys id = list_any (int_eq id) keys
