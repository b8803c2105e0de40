-- Byte strings that are put one after another.
use Rattle.std.proofs.Common.{◌≡◌, ◌∙◌, ℕ, ◌+◌, ◌≤◌, ◌<◌, Bool, true, false, List, [], ◌∷◌, ◌++◌, length, map, sum}
use Rattle.std.proofs.Common.{drop, take, refl, ap, ap₂, sym, arith, Bor, append-nil, length-append, subst}
use Rattle.std.proofs.Math.Seq.{drop-append_seam, take-append_seam}
use Rattle.std.proofs.iter.runs.Made.{run_of_exit, run_of_turn, took}
use Rattle.std.proofs.lemmas.Iterator.{YieldsList, items_from_drains}
use Rattle.std.proofs.lemmas.Iterator.Consumers.{YieldsList-so_far}
use Rattle.std.proofs.lemmas.List.{length-map, map-append, map-id, take-map}
use Rattle.std.proofs.lemmas.List.Folds.{concat-append}
use Rattle.std.proofs.lemmas.Result.{MatchResult-weaker}
use Rattle.std.proofs.lemmas.Simd.{map-map}
use Rattle.std.specs.Iterator.{DrainsIf, Yields}
use Rattle.std.specs.Iterator.Runs.{Run, SomeRun, WholeRun}
use Rattle.std.specs.List.{concat}
use Rattle.std.specs.Option.{option_copied}
use Rattle.std.specs.Prelude.{◌⊎◌, Option, Result, MatchResult, Some, None, is_some, option_map, if◌then◌else◌, ◌==◌}
use Rattle.std.specs.Str.{IsUtf8}
use Rattle.flat_arrays_values.specs.columnar_memory.Bits.{unset_count}
use Rattle.flat_arrays_values.specs.columnar_memory.Error.{IsOutOfMemory, IsOverflow}
use Rattle.flat_arrays_values.specs.columnar_memory.Spans.{Spans, extended, last_of}
use Rattle.flat_arrays_values.proofs.columnar_memory_lemmas.buffer_lemmas.Runs.{last_of-extended, offset_at-le-last_of, sum-cons}
use Rattle.flat_arrays_values.specs.columnar_memory.declared.DataType.{DataType}
use Rattle.flat_arrays_values.specs.columnar_memory.declared.Error.{Error}
use Rattle.flat_arrays_bytes.specs.ByteStrings.{ByteStrings, byte_strings, cut_by, mask_of, of_slots, of_values, packed, stored_for}
use Rattle.flat_arrays_bytes.specs.Collected.{CollectsAlong, IsCollected}
use Rattle.flat_arrays_bytes.specs.Fits.{IsMaskOf}
use Rattle.flat_arrays_bytes.specs.Texts.{AllTexts}
use mathlib.Core.Logic.{inl, inr}

-- these byte strings stand one after another, and the last one ends within the greatest offset
pub record AreGathered (greatest : ℕ) (values : List (List ℕ)) (offsets : Spans) (bytes : List ℕ) : Type 0 where
  pub spans : offsets ≡ packed values
  pub joined : bytes ≡ concat values
  pub fits : last_of offsets ≤ greatest

-- what is stored for an item that may be null
abbrev pub stored_by : {A : Type 0} → (A → List ℕ) → Option A → List ℕ
stored_by view slot = stored_for (option_map view slot)

packed-append : (values : List (List ℕ)) (value : List ℕ) → packed (values ++ value ∷ []) ≡ extended (packed values) (length value ∷ [])
packed-append values value = ap (λ (ls : List ℕ). record { start = 0; lengths = ls }) (map-append length values (value ∷ []))

concat-more : (values : List (List ℕ)) (value : List ℕ) → concat (values ++ value ∷ []) ≡ concat values ++ value
concat-more values value = concat-append values (value ∷ []) ∙ ap (λ rest. concat values ++ rest) (append-nil value)

gathered_at : (greatest : ℕ) (values more : List (List ℕ)) (value bytes bytes_after : List ℕ) (offsets offsets_after : Spans)
    → more ≡ values ++ value ∷ [] → AreGathered greatest values offsets bytes
    → (offsets_after ≡ extended offsets (length value ∷ [])) × (bytes_after ≡ bytes ++ value) × (last_of offsets_after ≤ greatest)
    → AreGathered greatest more offsets_after bytes_after
gathered_at greatest values more value bytes bytes_after offsets offsets_after e h pushed = record {
  spans = pushed.0 ∙ ap (λ s. extended s (length value ∷ [])) h.spans ∙ sym (packed-append values value) ∙ ap packed (sym e);
  joined = pushed.1 ∙ ap (λ bs. bs ++ value) h.joined ∙ sym (concat-more values value) ∙ ap concat (sym e);
  fits = pushed.2;
}

-- one more item, which stores this byte string
pub gathered_more : {A : Type 0} (view : A → List ℕ) (greatest : ℕ) (items : List A) (item : A) (value bytes bytes_after : List ℕ)
    (offsets offsets_after : Spans) → value ≡ view item → AreGathered greatest (map view items) offsets bytes
    → (offsets_after ≡ extended offsets (length value ∷ [])) × (bytes_after ≡ bytes ++ value) × (last_of offsets_after ≤ greatest)
    → AreGathered greatest (map view (items ++ item ∷ [])) offsets_after bytes_after
gathered_more view greatest items item value bytes bytes_after offsets offsets_after e h pushed =
    gathered_at greatest (map view items) (map view (items ++ item ∷ [])) value bytes bytes_after offsets offsets_after
    (map-append view items (item ∷ []) ∙ ap (λ v. map view items ++ v ∷ []) (sym e)) h pushed

-- ---- what the byte strings are

cut_by-packed : (values : List (List ℕ)) → cut_by (map length values) (concat values) ≡ values
cut_by-packed [] = refl
cut_by-packed (v ∷ vs) =
    ap₂ (λ (x : List ℕ) xs. x ∷ xs) (take-append_seam v (concat vs))
    (ap (cut_by (map length vs)) (drop-append_seam v (concat vs)) ∙ cut_by-packed vs)

sum_lengths : (values : List (List ℕ)) → sum (map length values) ≡ length (concat values)
sum_lengths [] = refl
sum_lengths (v ∷ vs) = omega (arith, sum-cons (length v) (map length vs), sum_lengths vs, length-append v (concat vs))

pub within_gathered : (greatest : ℕ) (values : List (List ℕ)) (offsets : Spans) (bytes : List ℕ) → AreGathered greatest values offsets bytes
    → last_of offsets ≤ length bytes
within_gathered greatest values offsets bytes h = omega (arith, ap last_of h.spans, ap length h.joined, sum_lengths values)

pub texts_gathered : (greatest : ℕ) (values : List (List ℕ)) (offsets : Spans) (bytes : List ℕ) → AreGathered greatest values offsets bytes
    → AllTexts values → AllTexts (cut_by offsets.lengths (drop offsets.start bytes))
texts_gathered greatest values offsets bytes h texts =
    subst AllTexts (sym (ap₂ (λ (s : Spans) bs. cut_by s.lengths (drop s.start bs)) h.spans h.joined ∙ cut_by-packed values)) texts

AllTexts-append : (xs : List (List ℕ)) (x : List ℕ) → AllTexts xs → IsUtf8 x → AllTexts (xs ++ x ∷ [])
AllTexts-append [] x h u = (u, tt)
AllTexts-append (y ∷ ys) x h u = (h.0, AllTexts-append ys x h.1 u)

-- one more item, which stores this text
pub texts_more : {A : Type 0} (view : A → List ℕ) (items : List A) (item : A) (text : List ℕ) → text ≡ view item → IsUtf8 text
    → AllTexts (map view items) → AllTexts (map view (items ++ item ∷ []))
texts_more view items item text e u h =
    subst AllTexts (sym (map-append view items (item ∷ []))) (AllTexts-append (map view items) (view item) h (subst IsUtf8 e u))

-- ---- masks

chosen : (n : ℕ) (bits : List Bool) (none : Bool) → length bits ≡ n → IsMaskOf n (if none then None else Some bits)
chosen n bits true h = tt
chosen n bits false h = h

-- the mask of slots has a mark for each of them
pub masked_gathered : {A : Type 0} (view : Option A → List ℕ) (greatest : ℕ) (items : List (Option A)) (offsets : Spans) (bytes : List ℕ)
    (mask : List Bool) (validity : Option (List Bool)) → AreGathered greatest (map view items) offsets bytes → mask ≡ map is_some items
    → validity ≡ mask_of mask → IsMaskOf (length offsets.lengths) validity
masked_gathered view greatest items offsets bytes mask validity h marks e =
    let spans : length offsets.lengths ≡ length items =
    ap (λ (s : Spans). length s.lengths) h.spans ∙ length-map (map view items) length ∙ length-map items view in
    let bits : length mask ≡ length offsets.lengths = ap length marks ∙ length-map items is_some ∙ sym spans in
    subst (IsMaskOf (length offsets.lengths)) (sym e) (chosen (length offsets.lengths) mask (unset_count mask == 0) bits)

-- one more item, with its mark
pub marks_more : {A : Type 0} (items : List (Option A)) (item : Option A) (mask mask_after : List Bool) (mark : Bool)
    → mask_after ≡ mask ++ mark ∷ [] → mark ≡ is_some item → mask ≡ map is_some items → mask_after ≡ map is_some (items ++ item ∷ [])
marks_more items item mask mask_after mark pushed e h =
    pushed ∙ ap₂ (λ (bits : List Bool) bit. bits ++ bit ∷ []) h e ∙ sym (map-append is_some items (item ∷ []))

marks_seen : {A : Type 0} (view : A → List ℕ) (slots : List (Option A)) → map is_some (map (option_map view) slots) ≡ map is_some slots
marks_seen view [] = refl
marks_seen view (None ∷ slots) = ap (λ rest. false ∷ rest) (marks_seen view slots)
marks_seen view (Some x ∷ slots) = ap (λ rest. true ∷ rest) (marks_seen view slots)

-- ---- what is made of them

made_of_values : {A : Type 0} (view : A → List ℕ) (data_type : DataType) (greatest : ℕ) (yielded items : List A) (offsets : Spans)
    (bytes : List ℕ) → AreGathered greatest (map view yielded) offsets bytes → items ≡ yielded
    → byte_strings data_type offsets bytes None ≡ of_values data_type (map view items)
made_of_values view data_type greatest yielded items offsets bytes h e =
    ap₂ (λ s bs. byte_strings data_type s bs None) h.spans h.joined ∙ ap (λ xs. of_values data_type (map view xs)) (sym e)

made_of_slots : {A : Type 0} (view : A → List ℕ) (data_type : DataType) (greatest : ℕ) (yielded items : List (Option A)) (offsets : Spans)
    (bytes : List ℕ) (mask : List Bool) (validity : Option (List Bool)) → AreGathered greatest (map (stored_by view) yielded) offsets bytes
    → mask ≡ map is_some yielded → validity ≡ mask_of mask → items ≡ yielded
    → byte_strings data_type offsets bytes validity ≡ of_slots data_type (map (option_map view) items)
made_of_slots view data_type greatest yielded items offsets bytes mask validity h marks is e =
    let slots = map (option_map view) yielded in
    ap₂ (λ s bs. byte_strings data_type s bs validity) h.spans h.joined
    ∙ ap (λ vs. byte_strings data_type (packed vs) (concat vs) validity) (sym (map-map stored_for (option_map view) yielded))
    ∙ ap (λ v. byte_strings data_type (packed (map stored_for slots)) (concat (map stored_for slots)) v)
    (is ∙ ap mask_of (marks ∙ sym (marks_seen view yielded)))
    ∙ ap (λ xs. of_slots data_type (map (option_map view) xs)) (sym e)

-- ---- runs

module _ {S A : Type 0} (steps : S → Option A → S → Type 0) (from it : S) (is : it ≡ from) (items : List A) (t : S)
    (ran : Yields steps it items t) where
  -- a walk that came to its end made this array of all items
  collected : (make : List A → ByteStrings) (greatest : ℕ) (a parts : ByteStrings) (u : S) → steps t None u → a ≡ parts
      → last_of parts.offsets ≤ greatest → ((ys : List A) → ys ≡ items → parts ≡ make ys)
      → WholeRun steps from (λ p. (a ≡ make p.items) × (last_of a.offsets ≤ greatest))
  collected make greatest a parts u step same fits made =
      let run = run_of_exit steps it items t ran u step in
      (run.0, run.1 ∙ is, run.2, (same ∙ made run.0.items run.3.0, omega (arith, ap (λ (b : ByteStrings). last_of b.offsets) same, fits)))

  -- a walk stopped at an item that passes the greatest offset
  overflowed : (make : List A → ByteStrings) (view : A → List ℕ) (greatest : ℕ) (offsets : Spans) (value : List ℕ) (x : A) (u : S)
      → steps t (Some x) u → ((ys : List A) → (make ys).offsets ≡ packed (map view ys)) → offsets ≡ packed (map view items) → value ≡ view x
      → greatest < last_of offsets + length value
      → SomeRun steps from (λ p. greatest < last_of (make p.items).offsets)
  overflowed make view greatest offsets value x u step spans stands e past =
      let run = run_of_turn steps it items t ran x u step in
      let more : last_of (make run.0.items).offsets ≡ last_of (extended (packed (map view items)) (length (view x) ∷ [])) =
      ap last_of (spans run.0.items ∙ ap (λ ys. packed (map view ys)) run.2.0 ∙ ap packed (map-append view items (x ∷ []))
      ∙ packed-append (map view items) (view x)) in (
        run.0,
        run.1 ∙ is,
        omega (
          arith,
          past,
          more,
          ap last_of stands,
          ap length e,
          last_of-extended (packed (map view items)) (length (view x) ∷ []),
          sum-cons (length (view x)) [],
        ),
      )

-- ---- what the calls answer

-- why the walk stopped at an item
abbrev Stopped : ℕ → Spans → List ℕ → Error → Type 0
Stopped greatest offsets value e = IsOutOfMemory e ⊎ (IsOverflow e × (greatest < last_of offsets + length value))

module _ {S A : Type 0} (view : A → List ℕ) (data_type : DataType) (greatest : ℕ) (offsets : Spans) (bytes : List ℕ) where
  module _ (steps : S → Option A → S → Type 0) (from it : S) (is : it ≡ from) (items : List A) (t : S) (ran : Yields steps it items t)
      (h : AreGathered greatest (map view items) offsets bytes) where
    pub values_collected : (u : S) (r : Result ByteStrings Error) → steps t None u
        → MatchResult r (λ a. a ≡ byte_strings data_type offsets bytes None) IsOutOfMemory
        → CollectsAlong steps greatest (λ ys. of_values data_type (map view ys)) from r
    values_collected u r step made = MatchResult-weaker r made
        (λ a same. collected steps from it is items t ran (λ ys. of_values data_type (map view ys)) greatest a
        (byte_strings data_type offsets bytes None) u step same h.fits (λ ys. made_of_values view data_type greatest items ys offsets bytes h))
        (λ e refused. inl refused)

    pub values_refused : (u : S) (x : A) (value : List ℕ) (e : Error) → steps t (Some x) u → value ≡ view x → Stopped greatest offsets value e
        → IsOutOfMemory e ⊎ (IsOverflow e × SomeRun steps from (λ p. greatest < last_of (of_values data_type (map view p.items)).offsets))
    values_refused u x value e step stored (inl refused) = inl refused
    values_refused u x v e step stored (inr over) = inr (
      over.0,
      overflowed steps from it is items t ran (λ ys. of_values data_type (map view ys)) view greatest offsets v x u step (λ ys. refl) h.spans stored
          over.1,
    )

  module _ (steps : S → Option (Option A) → S → Type 0) (from it : S) (is : it ≡ from) (items : List (Option A)) (t : S)
      (ran : Yields steps it items t) (h : AreGathered greatest (map (stored_by view) items) offsets bytes) where
    pub slots_collected : (u : S) (mask : List Bool) (validity : Option (List Bool)) (r : Result ByteStrings Error) → steps t None u
        → mask ≡ map is_some items → validity ≡ mask_of mask
        → MatchResult r (λ a. a ≡ byte_strings data_type offsets bytes validity) IsOutOfMemory
        → CollectsAlong steps greatest (λ ys. of_slots data_type (map (option_map view) ys)) from r
    slots_collected u mask validity r step marks chosen made = MatchResult-weaker r made
        (λ a same. collected steps from it is items t ran (λ ys. of_slots data_type (map (option_map view) ys)) greatest a
        (byte_strings data_type offsets bytes validity) u step same h.fits
        (λ ys. made_of_slots view data_type greatest items ys offsets bytes mask validity h marks chosen))
        (λ e refused. inl refused)

    pub slots_refused : (u : S) (x : Option A) (value : List ℕ) (e : Error) → steps t (Some x) u → value ≡ stored_by view x
        → Stopped greatest offsets value e
        → IsOutOfMemory e
        ⊎ (IsOverflow e × SomeRun steps from (λ p. greatest < last_of (of_slots data_type (map (option_map view) p.items)).offsets))
    slots_refused u x value e step stored (inl refused) = inl refused
    slots_refused u x value e step stored (inr over) = inr (
      over.0,
      overflowed steps from it is items t ran (λ ys. of_slots data_type (map (option_map view) ys)) (stored_by view) greatest offsets value x u step
          (λ ys. ap packed (map-map stored_for (option_map view) ys)) h.spans stored over.1,
    )

-- ---- what is made of what a walk gives

module _ {S X A : Type 0} {steps : S → Option X → S → Type 0} {see : X → A} {it : S} {xs : List A} (gives : YieldsList steps see it xs) where
  -- a whole walk gave all
  all_items : (p : Run steps) → p.from ≡ it → p.whole ≡ true → map see p.items ≡ xs
  all_items p from whole =
      let ran = took p in
      let drains : DrainsIf steps (Unit {0}) it p.items =
      subst (λ s. DrainsIf steps (Unit {0}) s p.items) from (ran.0, ran.1, (λ _. ran.2 whole)) in
      items_from_drains p.items drains gives

  -- any walk gave the first ones
  first_items : (p : Run steps) → p.from ≡ it → map see p.items ≡ take (length p.items) xs
  first_items p from =
      let ran = took p in YieldsList-so_far gives p.items ran.0 (subst (λ s. Yields steps s p.items ran.0) from ran.1)

  module _ (make : List A → ByteStrings) (stored : A → List ℕ) (spans : (ys : List A) → (make ys).offsets ≡ packed (map stored ys))
      (greatest : ℕ) where
    -- what is made of the first ones ends within what is made of all
    ends_within : (n : ℕ) → last_of (make (take n xs)).offsets ≤ last_of (make xs).offsets
    ends_within n =
        let short : map length (map stored (take n xs)) ≡ take n (map length (map stored xs)) =
        ap (map length) (sym (take-map stored n xs)) ∙ sym (take-map length n (map stored xs)) in
        omega (
          arith,
          ap last_of (spans (take n xs)),
          ap last_of (spans xs),
          ap sum short,
          offset_at-le-last_of (packed (map stored xs)) n,
        )

    module _ (made : List X → ByteStrings) (seen : (ys : List X) → made ys ≡ make (map see ys)) where
      passed : (e : Error) → IsOutOfMemory e ⊎ (IsOverflow e × SomeRun steps it (λ p. greatest < last_of (made p.items).offsets))
          → IsOutOfMemory e ⊎ (IsOverflow e × (greatest < last_of (make xs).offsets))
      passed e (inl refused) = inl refused
      passed e (inr over) =
          let run = over.1 in
          let first : made run.0.items ≡ make (take (length run.0.items) xs) = seen run.0.items ∙ ap make (first_items run.0 run.1) in
          inr (over.0, omega (arith, run.2, ap (λ (a : ByteStrings). last_of a.offsets) first, ends_within (length run.0.items)))

      of_all : (r : Result ByteStrings Error) → CollectsAlong steps greatest made it r → IsCollected greatest (make xs) r
      of_all r h = MatchResult-weaker r h (λ a run.
          let same : a ≡ make xs = run.3.0 ∙ seen run.0.items ∙ ap make (all_items run.0 run.1 run.2) in
          (same, omega (arith, run.3.1, ap (λ (b : ByteStrings). last_of b.offsets) same))) passed

  -- the array of all values that a walk gives
  pub values_of_walk : (view : A → List ℕ) (data_type : DataType) (greatest : ℕ) (r : Result ByteStrings Error)
      → CollectsAlong steps greatest (λ ys. of_values data_type (map (λ x. view (see x)) ys)) it r
      → IsCollected greatest (of_values data_type (map view xs)) r
  values_of_walk view data_type greatest =
      of_all (λ ys. of_values data_type (map view ys)) view (λ ys. refl) greatest
      (λ ys. of_values data_type (map (λ x. view (see x)) ys)) (λ ys. ap (of_values data_type) (sym (map-map view see ys)))

-- slots that are read through references
seen_slots : {A : Type 0} (view : A → List ℕ) (slots : List (Option (Bor A)))
    → map (option_map (λ x. view x.now)) slots ≡ map (option_map view) (map option_copied slots)
seen_slots view [] = refl
seen_slots view (None ∷ slots) = ap (λ rest. None ∷ rest) (seen_slots view slots)
seen_slots view (Some x ∷ slots) = ap (λ rest. Some (view x.now) ∷ rest) (seen_slots view slots)

-- the array of all slots that a walk gives references to
pub slots_of_walk : {S A : Type 0} {steps : S → Option (Option (Bor A)) → S → Type 0} {it : S} (slots : List (Option A))
    → YieldsList steps option_copied it (map (λ slot. slot) slots) → (view : A → List ℕ) (data_type : DataType) (greatest : ℕ)
    (r : Result ByteStrings Error) → CollectsAlong steps greatest (λ ys. of_slots data_type (map (option_map (λ x. view x.now)) ys)) it r
    → IsCollected greatest (of_slots data_type (map (option_map view) slots)) r
slots_of_walk {S} {A} {steps} {it} slots gives view data_type greatest =
    of_all (subst (λ xs. YieldsList steps option_copied it xs) (map-id slots) gives)
    (λ ys. of_slots data_type (map (option_map view) ys)) (stored_by view) (λ ys. ap packed (map-map stored_for (option_map view) ys)) greatest
    (λ ys. of_slots data_type (map (option_map (λ x. view x.now)) ys)) (λ ys. ap (of_slots data_type) (seen_slots view ys))
