-- Cuts of byte strings: their values, marks and slots, and cuts of cuts.
use Rattle.std.proofs.Common.{◌≡◌, ℕ, ◌+◌, ◌-◌, ◌≤◌, List, [], ◌∷◌, length, take, drop, sum, refl, ap, sym, ◌∙◌, arith, zero, suc, subst, Option}
use Rattle.std.proofs.lemmas.List.{drop-drop, drop-replicate, take-replicate, take-map, drop-map}
use Rattle.std.specs.Prelude.{Bool, true, Some, None, map, slice_range}
use Rattle.std.specs.List.{zip}
use Rattle.flat_arrays_values.specs.columnar_memory.Spans.{Spans, last_of, offset_at, spans_between}
use Rattle.flat_arrays_values.specs.columnar_memory.Window.{window}
use Rattle.flat_arrays_values.proofs.columnar_memory_lemmas.buffer_lemmas.Runs.{sum-cons, offset_at-all, offset_at-le-last_of}
use Rattle.flat_arrays_values.proofs.columnar_memory_lemmas.buffer_lemmas.Slices.{offset_at-spans_between, slices_join}
use Rattle.flat_arrays_values.proofs.columnar_memory_lemmas.buffer_lemmas.Windows.{length-window, windows_join}
use Rattle.flat_arrays_values.specs.columnar_memory.declared.PhysicalType.{PhysicalType}
use Rattle.flat_arrays_bytes.specs.ByteStrings.{ByteStrings, byte_strings, cut, cut_by, cut_mask, len_of}
use Rattle.flat_arrays_bytes.specs.ByteStrings.{marks, marks_of, marked_of, slot_of, slots_of, values_of}
use Rattle.flat_arrays_bytes.specs.Fits.{Fits, HoldsMarks, IsMaskOf}
use Rattle.flat_arrays_bytes.specs.Laws.{CutsSlots}
use Rattle.flat_arrays_bytes.specs.Texts.{AllTexts}

-- a range is a window
pub slice_range-window : {X : Type 0} (xs : List X) (o n : ℕ) → slice_range xs o (o + n) ≡ window xs o n
slice_range-window xs o n = let count : o + n - o ≡ n = omega arith in ap (λ k. take k (drop o xs)) count

pub ruleset ranges = (slice_range-window)

-- ---- values

drop-cut_by : (ls bytes : List ℕ) (o : ℕ) → drop o (cut_by ls bytes) ≡ cut_by (drop o ls) (drop (sum (take o ls)) bytes)
drop-cut_by ls bytes zero = refl
drop-cut_by [] bytes (suc o) = refl
drop-cut_by (l ∷ ls) bytes (suc o) =
    drop-cut_by ls (drop l bytes) o
    ∙ ap (cut_by (drop o ls)) (drop-drop (sum (take o ls)) l bytes ∙ ap (λ n. drop n bytes) (sym (sum-cons l (take o ls))))

take-cut_by : (ls bytes : List ℕ) (n : ℕ) → take n (cut_by ls bytes) ≡ cut_by (take n ls) bytes
take-cut_by ls bytes zero = refl
take-cut_by [] bytes (suc n) = refl
take-cut_by (l ∷ ls) bytes (suc n) = ap (λ rest. take l bytes ∷ rest) (take-cut_by ls (drop l bytes) n)

pub values_of-cut : (a : ByteStrings) (o n : ℕ) → values_of (cut a o n) ≡ window (values_of a) o n
values_of-cut a o n =
    let ls = a.offsets.lengths in
    sym (ap (take n) (drop-cut_by ls (drop a.offsets.start a.bytes) o
    ∙ ap (cut_by (drop o ls)) (drop-drop (sum (take o ls)) a.offsets.start a.bytes))
    ∙ take-cut_by (drop o ls) (drop (offset_at a.offsets o) a.bytes) n)

-- ---- marks

pub len_of-cut : (a : ByteStrings) (o n : ℕ) → o + n ≤ len_of a → len_of (cut a o n) ≡ n
len_of-cut a o n h = length-window a.offsets.lengths o n h

marks-cut : (total : ℕ) (mask : Option (List Bool)) (o n : ℕ) → o + n ≤ total
    → marks n (cut_mask mask o n) ≡ window (marks total mask) o n
marks-cut total None o n h =
    let le : n ≤ total - o = omega arith in sym (ap (take n) (drop-replicate o total true) ∙ take-replicate n (total - o) true le)
marks-cut total (Some mask) o n h = refl

pub marks_of-cut : (a : ByteStrings) (o n : ℕ) → o + n ≤ len_of a → marks_of (cut a o n) ≡ window (marks_of a) o n
marks_of-cut a o n h =
    ap (λ k. marks k (cut_mask a.validity o n)) (len_of-cut a o n h) ∙ marks-cut (len_of a) a.validity o n h

-- ---- slots

zip-nil : {X Y : Type 0} (xs : List X) (none : List Y) → none ≡ [] → zip xs none ≡ []
zip-nil [] ys e = refl
zip-nil (x ∷ xs) [] e = refl
zip-nil (x ∷ xs) (y ∷ ys) e = cc

drop-zip : {X Y : Type 0} (xs : List X) (ys : List Y) (n : ℕ) → drop n (zip xs ys) ≡ zip (drop n xs) (drop n ys)
drop-zip xs ys zero = refl
drop-zip [] ys (suc n) = refl
drop-zip (x ∷ xs) [] (suc n) = sym (zip-nil (drop n xs) [] refl)
drop-zip (x ∷ xs) (y ∷ ys) (suc n) = drop-zip xs ys n

take-zip : {X Y : Type 0} (xs : List X) (ys : List Y) (n : ℕ) → take n (zip xs ys) ≡ zip (take n xs) (take n ys)
take-zip xs ys zero = refl
take-zip [] ys (suc n) = refl
take-zip (x ∷ xs) [] (suc n) = refl
take-zip (x ∷ xs) (y ∷ ys) (suc n) = ap (λ rest. (x, y) ∷ rest) (take-zip xs ys n)

pub marked_of-cut : (a : ByteStrings) (o n : ℕ) → o + n ≤ len_of a → marked_of (cut a o n) ≡ window (marked_of a) o n
marked_of-cut a o n h =
    ap (λ xs. zip xs (marks_of (cut a o n))) (values_of-cut a o n) ∙ ap (zip (window (values_of a) o n)) (marks_of-cut a o n h)
    ∙ sym (ap (take n) (drop-zip (values_of a) (marks_of a) o) ∙ take-zip (drop o (values_of a)) (drop o (marks_of a)) n)

pub slots_of-cut : (a : ByteStrings) (o n : ℕ) → o + n ≤ len_of a → slots_of (cut a o n) ≡ window (slots_of a) o n
slots_of-cut a o n h =
    ap (map slot_of) (marked_of-cut a o n h) ∙ sym (take-map slot_of n (drop o (marked_of a))) ∙ ap (take n) (sym (drop-map slot_of o (marked_of a)))

pub cuts_slots : CutsSlots
cuts_slots = record { marked = marked_of-cut; slots = slots_of-cut }

-- ---- cuts of cuts

joined_mask : (mask : Option (List Bool)) (o n p q : ℕ) → p + q ≤ n
    → cut_mask (cut_mask mask o n) p q ≡ cut_mask mask (o + p) q
joined_mask None o n p q h = refl
joined_mask (Some mask) o n p q h = ap (λ (m : List Bool). Some m) (windows_join mask o n p q h)

pub cuts_join : (a : ByteStrings) (o n p q : ℕ) → p + q ≤ n → cut (cut a o n) p q ≡ cut a (o + p) q
cuts_join a o n p q h =
    ap (λ s. byte_strings a.data_type s a.bytes (cut_mask (cut_mask a.validity o n) p q))
    (slices_join a.offsets o n p q h)
    ∙ ap (byte_strings a.data_type (spans_between a.offsets (o + p) q) a.bytes) (joined_mask a.validity o n p q h)

-- ---- what fits, cut

-- the last of some spans ends no further than the last of all
last_of-cut : (s : Spans) (o n : ℕ) → o + n ≤ length s.lengths → last_of (spans_between s o n) ≤ last_of s
last_of-cut s o n h =
    let count : length (window s.lengths o n) ≡ n = length-window s.lengths o n h in
    let le : n ≤ n = omega arith in
    let end : offset_at (spans_between s o n) n ≡ offset_at s (o + n) = offset_at-spans_between s o n n le in
    let whole : offset_at (spans_between s o n) n ≡ last_of (spans_between s o n) =
    ap (offset_at (spans_between s o n)) (sym count) ∙ offset_at-all (spans_between s o n) in
    omega (arith, end, whole, offset_at-le-last_of s (o + n))

mask_of-cut : (total : ℕ) (mask : Option (List Bool)) (o n : ℕ) → o + n ≤ total → IsMaskOf total mask
    → IsMaskOf n (cut_mask mask o n)
mask_of-cut total None o n h fits = tt
mask_of-cut total (Some mask) o n h fits = let le : o + n ≤ length mask = omega (arith, fits) in length-window mask o n le

pub Fits-cut : (layout : PhysicalType) (a : ByteStrings) (o n : ℕ) → o + n ≤ len_of a → Fits layout a → Fits layout (cut a o n)
Fits-cut layout a o n h fits = record {
  fits = fits.fits;
  masked = subst (λ k. IsMaskOf k (cut_mask a.validity o n)) (sym (len_of-cut a o n h)) (mask_of-cut (len_of a) a.validity o n h fits.masked);
  within = omega (arith, last_of-cut a.offsets o n h, fits.within);
}

AllTexts-drop : (xs : List (List ℕ)) (n : ℕ) → AllTexts xs → AllTexts (drop n xs)
AllTexts-drop xs zero h = h
AllTexts-drop [] (suc n) h = h
AllTexts-drop (x ∷ xs) (suc n) h = AllTexts-drop xs n h.1

AllTexts-take : (xs : List (List ℕ)) (n : ℕ) → AllTexts xs → AllTexts (take n xs)
AllTexts-take xs zero h = tt
AllTexts-take [] (suc n) h = tt
AllTexts-take (x ∷ xs) (suc n) h = (h.0, AllTexts-take xs n h.1)

pub AllTexts-cut : (a : ByteStrings) (o n : ℕ) → AllTexts (values_of a) → AllTexts (values_of (cut a o n))
AllTexts-cut a o n h = subst AllTexts (sym (values_of-cut a o n)) (AllTexts-take (drop o (values_of a)) n (AllTexts-drop (values_of a) o h))

-- a mask of all slots has the marks of some of them
pub mask_holds : (total n : ℕ) (mask : Option (List Bool)) → n ≤ total → IsMaskOf total mask → HoldsMarks n mask
mask_holds total n None le h = tt
mask_holds total n (Some mask) le h = omega (arith, le, h)

-- what a column keeps, once its offsets and its mask are cut
pub held_after : (s t : Spans) (bytes : List ℕ) (mask after : Option (List Bool)) (o n : ℕ) → t ≡ spans_between s o (n + 1 - 1) → after ≡ cut_mask
    mask o n
    → o + n ≤ length s.lengths → IsMaskOf (length s.lengths) mask → last_of s ≤ length bytes → IsMaskOf (length t.lengths) after ×
    (last_of t ≤ length bytes)
held_after s t bytes mask after o n offsets marked h masked within =
    let count : n + 1 - 1 ≡ n = omega arith in
    let cut_spans : spans_between s o n ≡ t = sym (offsets ∙ ap (spans_between s o) count) in
    let len : n ≡ length (spans_between s o n).lengths = sym (length-window s.lengths o n h) in
    subst (λ (u : Spans). IsMaskOf (length u.lengths) after × (last_of u ≤ length bytes)) cut_spans (
      subst (λ k. IsMaskOf k after) len (subst (IsMaskOf n) (sym marked) (mask_of-cut (length s.lengths) mask o n h masked)),
      omega (arith, last_of-cut s o n h, within),
    )
