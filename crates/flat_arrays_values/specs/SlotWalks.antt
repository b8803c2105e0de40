-- Walks over the slots of an array.
use Rattle.std.specs.Prelude.{◌≡◌, Bool, List, length}
use Rattle.std.specs.Iterator.{YieldsFirst, YieldsLast}
use Rattle.std.specs.Slice.Iter.{iter_rest, iter_steps, iter_steps_back}
use Rattle.columnar_memory_core.specs.declared.ZipValidity.{ZipValidity}
use Rattle.flat_arrays_values.specs.Walks.{slots_left, IsEven, GivesSlots}
use Rattle.flat_arrays_values.specs.Flat.{Flat, slots_of, IsMaskOf}
use Rattle.flat_arrays_values.specs.Iteration.{StandsBefore}

-- what stands before an array has all of its slots left
abbrev pub StandsBeforeSlots : Type 0 → Type 0 → Type 0 → Type 0 → Type 0
StandsBeforeSlots T V I B = (values : I → List V) (marks : B → List Bool) (a : Flat V) (it : ZipValidity T I B)
    → IsMaskOf (length a.values) a.validity → StandsBefore values marks a it
    → IsEven values marks it × (slots_left values marks it ≡ slots_of a)

-- references to the elements of a slice, beside marks, give slots from both ends
abbrev pub SlicesGiveSlots : Type 0 → Type 0
SlicesGiveSlots V =
    GivesSlots (λ x. x.now) (iter_rest {T = V}) (λ (marks : List Bool). marks) iter_steps iter_steps_back (YieldsFirst (λ marks. marks))
    (YieldsLast (λ marks. marks))
