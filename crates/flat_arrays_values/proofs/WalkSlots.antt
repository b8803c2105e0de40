-- Walks over the slots of arrays, step by step.
use Rattle.std.proofs.Common.{◌≡◌, ◌∙◌, ◌+◌, Bool, true, false, List, [], ◌∷◌, ◌++◌, length, map, refl, ap, ap₂, sym, subst, arith}
use Rattle.std.proofs.lemmas.List.{length-append, map-append}
use Rattle.std.proofs.lemmas.List.Sums.{sum_by-cons}
use Rattle.std.specs.Prelude.{Option, Some, None, cond, not, option_map}
use Rattle.std.specs.Iterator.{YieldsFirst, YieldsFirstBy, YieldsLast, YieldsLastBy}
use Rattle.std.specs.List.{zip}
use Rattle.columnar_memory_core.specs.Bits.{unset_count}
use Rattle.columnar_memory_core.specs.ZipValidity.{slot}
use Rattle.columnar_memory_core.specs.ZipValidityCases.{StepsEither}
use Rattle.columnar_memory_core.specs.declared.ZipValidity.{ZipValidity}
use Rattle.columnar_memory_core.specs.declared.ZipValidity.TheVariants.{Required, Optional}
use Rattle.flat_arrays_values.specs.Walks.{slot_of, slots_left, IsEven, WalksGiveSlots}

-- the slots of values and marks
abbrev slots : {V : Type 0} → List V → List Bool → List (Option V)
slots values bits = map slot_of (zip values bits)

abbrev slots_of_pair : {V : Type 0} → List V × List Bool → List (Option V)
slots_of_pair left = slots left.0 left.1

-- where no mark is false each slot has its value
pub all_there : {V : Type 0} (xs : List V) (bits : List Bool) → length bits ≡ length xs → unset_count bits ≡ 0 → map Some xs ≡ slots xs bits
all_there [] bits even none = refl
all_there (x ∷ xs) [] even none = absurd (omega (arith, even))
all_there (x ∷ xs) (true ∷ bits) even none =
    let step : unset_count (true ∷ bits) ≡ 0 + unset_count bits = sum_by-cons (λ b. cond (not b) 1 0) true bits in
    ap (λ rest. Some x ∷ rest) (all_there xs bits (omega (arith, even)) (omega (arith, none, step)))
all_there (x ∷ xs) (false ∷ bits) even none =
    let step : unset_count (false ∷ bits) ≡ 1 + unset_count bits = sum_by-cons (λ b. cond (not b) 1 0) false bits in
    absurd (omega (arith, none, step))

-- one value and one mark more, behind as many of both
slots-more : {V : Type 0} (xs : List V) (bits : List Bool) (x : V) (b : Bool) → length xs ≡ length bits
    → slots (xs ++ x ∷ []) (bits ++ b ∷ []) ≡ slots xs bits ++ slot_of (x, b) ∷ []
slots-more [] [] x b even = refl
slots-more [] (c ∷ bits) x b even = absurd (omega (arith, even))
slots-more (y ∷ xs) [] x b even = absurd (omega (arith, even))
slots-more (y ∷ xs) (c ∷ bits) x b even = ap (λ rest. slot_of (y, c) ∷ rest) (slots-more xs bits x b (omega (arith, even)))

module _ {T V : Type 0} (view : T → V) where
  -- values and marks of which one of each was given from the front
  both_first : (xs ys : List V) (bits rest : List Bool) (value : Option T) (valid : Option Bool) → length xs ≡ length bits
      → YieldsFirstBy view (λ (l : List V). l) xs value ys → YieldsFirst (λ (l : List Bool). l) bits valid rest
      → (length ys ≡ length rest) × YieldsFirstBy (option_map view) slots_of_pair (xs, bits) (slot value valid) (ys, rest)
  both_first xs ys bits rest (Some x) (Some true) even values marks =
      let counts : length (view x ∷ ys) ≡ length (true ∷ rest) = sym (ap length values) ∙ even ∙ ap length marks in
      (omega (arith, counts), ap₂ slots values marks)
  both_first xs ys bits rest (Some x) (Some false) even values marks =
      let counts : length (view x ∷ ys) ≡ length (false ∷ rest) = sym (ap length values) ∙ even ∙ ap length marks in
      (omega (arith, counts), ap₂ slots values marks)
  both_first xs ys bits rest (Some x) None even values marks =
      let counts : length (view x ∷ ys) ≡ 0 = sym (ap length values) ∙ even ∙ ap length marks.0 in absurd (omega (arith, counts))
  both_first xs ys bits rest None (Some b) even values marks =
      let counts : 0 ≡ length (b ∷ rest) = sym (ap length values.0) ∙ even ∙ ap length marks in absurd (omega (arith, counts))
  both_first xs ys bits rest None None even values marks = (
    ap length values.1 ∙ sym (ap length marks.1),
    (ap₂ slots values.0 marks.0, ap₂ slots values.1 marks.1),
  )

  -- the same from the back
  both_last : (xs ys : List V) (bits rest : List Bool) (value : Option T) (valid : Option Bool) → length xs ≡ length bits
      → YieldsLastBy view (λ (l : List V). l) xs value ys → YieldsLast (λ (l : List Bool). l) bits valid rest
      → (length ys ≡ length rest) × YieldsLastBy (option_map view) slots_of_pair (xs, bits) (slot value valid) (ys, rest)
  both_last xs ys bits rest (Some x) (Some b) even values marks =
      let counts : length (ys ++ view x ∷ []) ≡ length (rest ++ b ∷ []) = sym (ap length values) ∙ even ∙ ap length marks in
      let left : length ys ≡ length rest =
      omega (arith, counts, length-append ys (view x ∷ []), length-append rest (b ∷ [])) in
      (left, given b (ap₂ slots values marks ∙ slots-more ys rest (view x) b left))
    where
      given : (b : Bool) → slots xs bits ≡ slots ys rest ++ slot_of (view x, b) ∷ []
          → YieldsLastBy (option_map view) slots_of_pair (xs, bits) (slot (Some x) (Some b)) (ys, rest)
      given true is = is
      given false is = is
  both_last xs ys bits rest (Some x) None even values marks =
      let counts : length (ys ++ view x ∷ []) ≡ 0 = sym (ap length values) ∙ even ∙ ap length marks.0 in
      absurd (omega (arith, counts, length-append ys (view x ∷ [])))
  both_last xs ys bits rest None (Some b) even values marks =
      let counts : 0 ≡ length (rest ++ b ∷ []) = sym (ap length values.0) ∙ even ∙ ap length marks in
      absurd (omega (arith, counts, length-append rest (b ∷ [])))
  both_last xs ys bits rest None None even values marks = (
    ap length values.1 ∙ sym (ap length marks.1),
    (ap₂ slots values.0 marks.0, ap₂ slots values.1 marks.1),
  )

  -- values alone, of which one was given from the front
  alone_first : (xs ys : List V) (value : Option T) → YieldsFirstBy view (λ (l : List V). l) xs value ys
      → YieldsFirstBy (option_map view) (λ (l : List V). map Some l) xs (option_map (λ (x : T). Some x) value) ys
  alone_first xs ys (Some x) values = ap (map Some) values
  alone_first xs ys None values = (ap (map Some) values.0, ap (map Some) values.1)

  -- the same from the back
  alone_last : (xs ys : List V) (value : Option T) → YieldsLastBy view (λ (l : List V). l) xs value ys
      → YieldsLastBy (option_map view) (λ (l : List V). map Some l) xs (option_map (λ (x : T). Some x) value) ys
  alone_last xs ys (Some x) values = ap (map Some) values ∙ map-append Some ys (view x ∷ [])
  alone_last xs ys None values = (ap (map Some) values.0, ap (map Some) values.1)

module _ {T V I B : Type 0} (view : T → V) (values : I → List V) (marks : B → List Bool) where
  first_given : (s : ZipValidity T I B) (r : Option (Option T)) (t : ZipValidity T I B) → IsEven values marks s
      → StepsEither (YieldsFirstBy view values) (YieldsFirst marks) s r t
      → IsEven values marks t × YieldsFirstBy (option_map view) (slots_left values marks) s r t
  first_given (Required s) r (Required t) even step = (
    tt,
    subst (λ r. YieldsFirstBy (option_map view) (λ (l : List V). map Some l) (values s) r (values t)) (sym step.2)
        (alone_first view (values s) (values t) step.0 step.1),
  )
  first_given (Required s) r (Optional t) even step = absurd step
  first_given (Optional s) r (Required t) even step = absurd step
  first_given (Optional s) r (Optional t) even step =
      subst (λ r. (length (values t.0) ≡ length (marks t.1))
      × YieldsFirstBy (option_map view) slots_of_pair (values s.0, marks s.1) r (values t.0, marks t.1)) (sym step.is_slot)
      (both_first view (values s.0) (values t.0) (marks s.1) (marks t.1) step.value step.valid even step.value_steps step.valid_steps)

  last_given : (s : ZipValidity T I B) (r : Option (Option T)) (t : ZipValidity T I B) → IsEven values marks s
      → StepsEither (YieldsLastBy view values) (YieldsLast marks) s r t
      → IsEven values marks t × YieldsLastBy (option_map view) (slots_left values marks) s r t
  last_given (Required s) r (Required t) even step = (
    tt,
    subst (λ r. YieldsLastBy (option_map view) (λ (l : List V). map Some l) (values s) r (values t)) (sym step.2)
        (alone_last view (values s) (values t) step.0 step.1),
  )
  last_given (Required s) r (Optional t) even step = absurd step
  last_given (Optional s) r (Required t) even step = absurd step
  last_given (Optional s) r (Optional t) even step =
      subst (λ r. (length (values t.0) ≡ length (marks t.1))
      × YieldsLastBy (option_map view) slots_of_pair (values s.0, marks s.1) r (values t.0, marks t.1)) (sym step.is_slot)
      (both_last view (values s.0) (values t.0) (marks s.1) (marks t.1) step.value step.valid even step.value_steps step.valid_steps)

pub walks_give_slots : {T V I B : Type 0} → WalksGiveSlots T V I B
walks_give_slots view values marks = record { first = first_given view values marks; last = last_given view values marks }
