-- Walks over the slots of arrays: values beside their marks (Arrow columnar format, "Validity bitmaps").
use Rattle.std.specs.Prelude.{◌≡◌, Bool, List, length, map, Option, Some, None, option_map, if◌then◌else◌}
use Rattle.std.specs.Iterator.{YieldsFirst, YieldsFirstBy, YieldsLast, YieldsLastBy}
use Rattle.std.specs.List.{zip}
use Rattle.columnar_memory_core.specs.ZipValidityCases.{StepsEither}
use Rattle.columnar_memory_core.specs.declared.ZipValidity.{ZipValidity}
use Rattle.columnar_memory_core.specs.declared.ZipValidity.TheVariants.{Required, Optional}

-- a stored value where its mark is true, and null where it is false
abbrev pub slot_of : {V : Type 0} → V × Bool → Option V
slot_of marked = if marked.1 then Some marked.0 else None

module _ {T V I B : Type 0} (values : I → List V) (marks : B → List Bool) where
  -- the slots that a walk has left
  abbrev pub slots_left : ZipValidity T I B → List (Option V)
  slots_left (Required left) = map Some (values left)
  slots_left (Optional left) = map slot_of (zip (values left.0) (marks left.1))

  -- a walk has a mark left for each value
  abbrev pub IsEven : ZipValidity T I B → Type 0
  IsEven (Required left) = Unit {0}
  IsEven (Optional left) = length (values left.0) ≡ length (marks left.1)

-- By these steps of values and of marks a walk gives the first of the slots that it has left, or the last, and then has the others left;
-- it gives nothing only where none is left.
pub record GivesSlots {T V I B : Type 0} (view : T → V) (values : I → List V) (marks : B → List Bool) (values_first : I → Option T → I → Type 0)
    (values_last : I → Option T → I → Type 0) (marks_first : B → Option Bool → B → Type 0) (marks_last : B → Option Bool → B → Type 0) : Type 0 where
  pub first : (s : ZipValidity T I B) (r : Option (Option T)) (t : ZipValidity T I B) → IsEven values marks s
      → StepsEither values_first marks_first s r t → IsEven values marks t × YieldsFirstBy (option_map view) (slots_left values marks) s r t
  pub last : (s : ZipValidity T I B) (r : Option (Option T)) (t : ZipValidity T I B) → IsEven values marks s
      → StepsEither values_last marks_last s r t → IsEven values marks t × YieldsLastBy (option_map view) (slots_left values marks) s r t

-- so it is where values and marks are given from both ends of what is left of them
abbrev pub WalksGiveSlots : Type 0 → Type 0 → Type 0 → Type 0 → Type 0
WalksGiveSlots T V I B = (view : T → V) (values : I → List V) (marks : B → List Bool)
    → GivesSlots view values marks (YieldsFirstBy view values) (YieldsLastBy view values) (YieldsFirst marks) (YieldsLast marks)
