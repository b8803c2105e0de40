-- What builders keep as they grow and shrink: their layout, that they have no mask, and that their values are texts.
use Rattle.std.proofs.Common.{◌≡◌, ℕ, ◌+◌, ◌-◌, ◌<◌, ◌≤◌, length, List, [], ◌∷◌, ◌++◌, refl, ap, sym, ◌∙◌, arith, subst, zero, suc}
use Rattle.std.proofs.lemmas.List.{take_all, take_more}
use Rattle.std.proofs.lemmas.Option.{get_or_from_slice_get}
use Rattle.std.specs.Prelude.{Bool, true, false, Option, Some, None, map, Result, Ok, Err, replicate, slice_get, take}
use Rattle.std.specs.List.{zip}
use Rattle.std.specs.Str.{IsUtf8}
use Rattle.flat_arrays_bytes.specs.columnar_memory.declared.Error.{Error}
use Rattle.flat_arrays_bytes.specs.columnar_memory.declared.PhysicalType.{PhysicalType}
use Rattle.flat_arrays_bytes.specs.columnar_memory.Layouts.{physical_type}
use Rattle.flat_arrays_bytes.proofs.Cuts.{AllTexts-cut}
use Rattle.flat_arrays_bytes.proofs.Slots.{none_unset}
use Rattle.flat_arrays_bytes.specs.ByteStrings.{ByteStrings, len_of, marks, marks_of, slot_of, slots_of, values_of}
use Rattle.flat_arrays_bytes.specs.Texts.{AllTexts}
use Rattle.flat_arrays_bytes.proofs.values_lemmas.Marked.{unmade}
use Rattle.flat_arrays_bytes.specs.values.Growth.{with_marks}
use Rattle.flat_arrays_byte_values_builders.proofs.Growth.{values_of-first_slots, values_of-joined, values_of-pushed}
use Rattle.flat_arrays_byte_values_builders.specs.Growing.{Grows, IsFilled, OrUnchanged, Pops, joined, pushed, without_last}

-- what holds of what stood and of what it would be holds of what it is
pub kept_by_growth : {U : Type 0} (P : ByteStrings → Type 0) (greatest : ℕ) (old grown new : ByteStrings) (r : Result U Error)
    → Grows greatest old grown new r → P old → P grown → P new
kept_by_growth P greatest old grown new (Ok u) h p q = subst P (sym h.0) q
kept_by_growth P greatest old grown new (Err e) h p q = subst P (sym h.0) p

pub kept_by_change : {U : Type 0} (P : ByteStrings → Type 0) (old grown new : ByteStrings) (r : Result U Error)
    → OrUnchanged old new r (λ _. new ≡ grown) → P old → P grown → P new
kept_by_change P old grown new (Ok u) h p q = subst P (sym h) q
kept_by_change P old grown new (Err e) h p q = subst P (sym h.0) p

taken_off : (P : ByteStrings → Type 0) (old new : ByteStrings) (slot : Option (List ℕ)) (n : ℕ) → len_of old ≡ n
    → Pops old slot new → P old → P (without_last old) → P new
taken_off P old new slot zero e h p q = subst P (sym (h.empty e).1) p
taken_off P old new slot (suc n) e h p q = let some : 0 < len_of old = omega (arith, e) in subst P (sym (h.taken some).0) q

pub kept_by_pop : {U : Type 0} (P : ByteStrings → Type 0) (old new : ByteStrings) (slot : U → Option (List ℕ)) (r : Result U Error)
    → OrUnchanged old new r (λ u. Pops old (slot u) new) → P old → P (without_last old) → P new
kept_by_pop P old new slot (Ok u) h p q = taken_off P old new (slot u) (len_of old) refl h p q
kept_by_pop P old new slot (Err e) h p q = subst P (sym h.0) p

-- a push of a value makes no mask, and nor does a pop
pub unmasked-pushed : (a : ByteStrings) (x : List ℕ) → a.validity ≡ None → (pushed a x true).validity ≡ None
unmasked-pushed a x h = ap (λ v. with_marks (len_of a) v (true ∷ [])) h ∙ unmade (len_of a) (true ∷ []) (none_unset 1)

pub unmasked-without_last : (a : ByteStrings) → a.validity ≡ None → (without_last a).validity ≡ None
unmasked-without_last a h = ap (λ (v : Option (List Bool)). (without_last (record a { validity = v })).validity) h

pub unmasked-joined : (a b : ByteStrings) → a.validity ≡ None → b.validity ≡ None → (joined a b).validity ≡ None
unmasked-joined a b h k =
    ap (λ v. with_marks (len_of a) v (marks_of b)) h ∙ ap (λ v. with_marks (len_of a) None (marks (len_of b) v)) k
    ∙ unmade (len_of a) (replicate (len_of b) true) (none_unset (len_of b))

-- what a builder of values keeps
abbrev pub UnmaskedOf : PhysicalType → ByteStrings → Type 0
UnmaskedOf layout a = (physical_type a.data_type ≡ layout) × (a.validity ≡ None)

-- ---- texts

slice_get-inside : (xs : List (List ℕ)) (i : ℕ) (x : List ℕ) → slice_get xs i ≡ Some x → i < length xs
slice_get-inside [] i x h = absurd (cc)
slice_get-inside (y ∷ ys) zero x h = omega arith
slice_get-inside (y ∷ ys) (suc i) x h = let less : i < length ys = slice_get-inside ys i x h in omega arith

AllTexts-append : (xs : List (List ℕ)) (x : List ℕ) → AllTexts xs → IsUtf8 x → AllTexts (xs ++ x ∷ [])
AllTexts-append [] x h u = (u, tt)
AllTexts-append (y ∷ ys) x h u = (h.0, AllTexts-append ys x h.1 u)

pub texts-pushed : (a : ByteStrings) (x : List ℕ) (mark : Bool) → IsFilled a → AllTexts (values_of a) → IsUtf8 x
    → AllTexts (values_of (pushed a x mark))
texts-pushed a x mark whole h u = subst AllTexts (sym (values_of-pushed a x mark whole)) (AllTexts-append (values_of a) x h u)

AllTexts-both : (xs ys : List (List ℕ)) → AllTexts xs → AllTexts ys → AllTexts (xs ++ ys)
AllTexts-both [] ys h k = k
AllTexts-both (x ∷ xs) ys h k = (h.0, AllTexts-both xs ys h.1 k)

pub texts-joined : (a b : ByteStrings) → IsFilled a → AllTexts (values_of a) → AllTexts (values_of b) → AllTexts (values_of (joined a b))
texts-joined a b whole h k = subst AllTexts (sym (values_of-joined a b whole)) (AllTexts-both (values_of a) (values_of b) h k)

pub texts-without_last : (a : ByteStrings) → IsFilled a → AllTexts (values_of a) → AllTexts (values_of (without_last a))
texts-without_last a whole h =
    subst AllTexts (sym (values_of-first_slots a (len_of a - 1) whole)) (AllTexts-cut a 0 (len_of a - 1) h)

-- what a builder of texts keeps
abbrev pub TextsOf : PhysicalType → ByteStrings → Type 0
TextsOf layout a = (physical_type a.data_type ≡ layout) × AllTexts (values_of a)

abbrev pub UnmaskedTextsOf : PhysicalType → ByteStrings → Type 0
UnmaskedTextsOf layout a = (physical_type a.data_type ≡ layout) × (a.validity ≡ None) × AllTexts (values_of a)

-- some more of the values are texts
pub texts_more : (xs : List (List ℕ)) (i : ℕ) (x : List ℕ) → AllTexts (take i xs) → slice_get xs i ≡ Some x → IsUtf8 x → AllTexts (take (i + 1) xs)
texts_more xs i x h is u =
    let inside : i < length xs = slice_get-inside xs i x is in
    let next : take (i + 1) xs ≡ take i xs ++ x ∷ [] = take_more xs i x inside ∙ ap (λ y. take i xs ++ y ∷ []) (get_or_from_slice_get xs i x x is) in
    subst AllTexts (sym next) (AllTexts-append (take i xs) x h u)

pub texts_all : (xs : List (List ℕ)) (n : ℕ) → length xs ≤ n → AllTexts (take n xs) → AllTexts xs
texts_all xs n le h = subst AllTexts (take_all n xs le) h

-- a slot that has a value holds a text
abbrev IsText : Option (List ℕ) → Type 0
IsText (Some x) = IsUtf8 x
IsText None = Unit {0}

abbrev AreTexts : List (Option (List ℕ)) → Type 0
AreTexts [] = Unit {0}
AreTexts (s ∷ ss) = IsText s × AreTexts ss

slots_are_texts : (xs : List (List ℕ)) (ms : List Bool) → AllTexts xs → AreTexts (map slot_of (zip xs ms))
slots_are_texts [] ms h = tt
slots_are_texts (x ∷ xs) [] h = tt
slots_are_texts (x ∷ xs) (true ∷ ms) h = (h.0, slots_are_texts xs ms h.1)
slots_are_texts (x ∷ xs) (false ∷ ms) h = (tt, slots_are_texts xs ms h.1)

last_is_text : (ss : List (Option (List ℕ))) (s : Option (List ℕ)) → AreTexts (ss ++ s ∷ []) → IsText s
last_is_text [] s h = h.0
last_is_text (t ∷ ss) s h = last_is_text ss s h.1

popped_at : (old new : ByteStrings) (x : List ℕ) (n : ℕ) → len_of old ≡ n → Pops old (Some x) new → AreTexts (slots_of old) → IsUtf8 x
popped_at old new x zero e h k = let none : Some x ≡ None = (h.empty e).0 in absurd (cc)
popped_at old new x (suc n) e h k =
    let some : 0 < len_of old = omega (arith, e) in last_is_text (slots_of new) (Some x) (subst AreTexts (h.taken some).1 k)

-- what is taken off a builder of texts is a text
pub popped_text : (old new : ByteStrings) (x : List ℕ) → Pops old (Some x) new → AllTexts (values_of old) → IsUtf8 x
popped_text old new x h k = popped_at old new x (len_of old) refl h (slots_are_texts (values_of old) (marks_of old) k)
