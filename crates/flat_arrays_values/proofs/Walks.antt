-- Walks over the slots of an array.
use Rattle.std.proofs.Common.{◌≡◌, ◌∙◌, Bool, List, [], ◌∷◌, length, map, refl, ap, ap₂, sym, arith, Bor, Iter}
use Rattle.std.specs.Prelude.{Option, Some, None}
use Rattle.std.specs.Iterator.{YieldsFirst, YieldsFirstBy, YieldsLast, YieldsLastBy}
use Rattle.std.specs.List.{zip}
use Rattle.std.specs.Slice.Iter.{iter_rest, iter_steps, iter_steps_back}
use Rattle.columnar_memory_core.specs.ZipValidityCases.{StepsEither}
use Rattle.columnar_memory_core.specs.declared.ZipValidity.{ZipValidity}
use Rattle.columnar_memory_core.specs.declared.ZipValidity.TheVariants.{Required, Optional}
use Rattle.flat_arrays_values.proofs.WalkSlots.{all_there, walks_give_slots}
use Rattle.flat_arrays_values.specs.Flat.{marks_of, slot_of}
use Rattle.flat_arrays_values.specs.SlotWalks.{SlicesGiveSlots, StandsBeforeSlots}
use Rattle.flat_arrays_values.proofs.Cuts.{length-marks_of}

pub stands_before_slots : {T V I B : Type 0} → StandsBeforeSlots T V I B
stands_before_slots values marks a (Required left) masked stands = (
  tt,
  ap (map Some) stands.0 ∙ all_there a.values (marks_of a) (length-marks_of a masked) stands.1,
)
stands_before_slots values marks a (Optional left) masked stands = (
  ap length stands.0 ∙ sym (length-marks_of a masked) ∙ sym (ap length stands.1),
  ap₂ (λ xs bits. map slot_of (zip xs bits)) stands.0 stands.1,
)

-- nothing is left of a list without elements
none_left : {A : Type 0} (xs : List A) → length xs ≡ 0 → xs ≡ []
none_left [] none = refl
none_left (x ∷ xs) none = absurd (omega (arith, none))

module _ {V : Type 0} where
  front : (s : Iter V) (r : Option (Bor V)) (t : Iter V) → iter_steps {A = V} s r t → YieldsFirstBy (λ x. x.now) iter_rest s r t
  front s (Some x) t step = step
  front s None t step = let none = none_left (iter_rest s) step.0 in (none, ap iter_rest step.1 ∙ none)

  back : (s : Iter V) (r : Option (Bor V)) (t : Iter V) → iter_steps_back {A = V} s r t → YieldsLastBy (λ x. x.now) iter_rest s r t
  back s (Some x) t step = step
  back s None t step = let none = none_left (iter_rest s) step.0 in (none, ap iter_rest step.1 ∙ none)

module _ {T I B : Type 0} (steps fuller : I → Option T → I → Type 0) (marks : B → Option Bool → B → Type 0)
    (more : (s : I) (r : Option T) (t : I) → steps s r t → fuller s r t) where
  -- a walk whose values step so
  steps_more : (s : ZipValidity T I B) (r : Option (Option T)) (t : ZipValidity T I B) → StepsEither steps marks s r t
      → StepsEither fuller marks s r t
  steps_more (Required s) r (Required t) step = (step.0, more s step.0 t step.1, step.2)
  steps_more (Required s) r (Optional t) step = absurd step
  steps_more (Optional s) r (Required t) step = absurd step
  steps_more (Optional s) r (Optional t) step = record {
    value = step.value;
    valid = step.valid;
    value_steps = more s.0 step.value t.0 step.value_steps;
    valid_steps = step.valid_steps;
    is_slot = step.is_slot;
  }

pub slices_give_slots : {V : Type 0} → SlicesGiveSlots V
slices_give_slots {V} =
    let gives = walks_give_slots {T = Bor V} {V = V} {I = Iter V} {B = List Bool} (λ x. x.now) iter_rest (λ marks. marks) in
    let forwards = steps_more iter_steps (YieldsFirstBy (λ x. x.now) iter_rest) (YieldsFirst (λ (marks : List Bool). marks)) front in
    let backwards = steps_more iter_steps_back (YieldsLastBy (λ x. x.now) iter_rest) (YieldsLast (λ (marks : List Bool). marks)) back in record {
      first = λ s r t even step. gives.first s r t even (forwards s r t step);
      last = λ s r t even step. gives.last s r t even (backwards s r t step);
    }
