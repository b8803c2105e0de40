-- Byte strings behind byte strings, and the first of some: values, marks and slots.
use Rattle.std.proofs.Common.{◌≡◌, ℕ, ◌+◌, ◌-◌, ◌≤◌, ◌<◌, List, [], ◌∷◌, ◌++◌, length, take, drop, sum, refl, ap, sym, ◌∙◌, arith, subst}
use Rattle.std.proofs.Common.{◌⊎◌, inl, inr, add-zero, length-append, length-drop}
use Rattle.std.proofs.lemmas.List.{append-nil, append_assoc, drop-append-le, drop-drop, drop-take, length-replicate, length-take-le, map-append}
use Rattle.std.proofs.lemmas.List.{replicate-append-replicate, take-append-drop, take-append-le}
use Rattle.std.proofs.Math.Seq.{drop-append_seam, take-append_seam, take-length}
use Rattle.std.specs.Prelude.{Bool, true, false, Option, Some, None, map, replicate, slice_get, option_map}
use Rattle.std.specs.List.{zip}
use Rattle.flat_arrays_bytes.proofs.columnar_memory_lemmas.buffer_lemmas.Runs.{first_spans-extended, last_of-extended, offset_at-le-last_of, sum-cons}
use Rattle.flat_arrays_bytes.specs.columnar_memory.Bits.{unset_count}
use Rattle.flat_arrays_bytes.specs.columnar_memory.Growth.{IsGrowthFault}
use Rattle.flat_arrays_bytes.specs.columnar_memory.Spans.{Spans, extended, first_spans, last_of, offset_at, shortened}
use Rattle.flat_arrays_bytes.specs.columnar_memory.declared.Error.{Error}
use Rattle.flat_arrays_bytes.specs.columnar_memory.declared.PhysicalType.{PhysicalType}
use Rattle.flat_arrays_bytes.proofs.Cuts.{slots_of-cut, values_of-cut}
use Rattle.flat_arrays_bytes.proofs.Ranges.{range_all, range_last}
use Rattle.flat_arrays_bytes.proofs.Slots.{length_slots, length_values}
use Rattle.flat_arrays_bytes.specs.ByteStrings.{ByteStrings, cut, cut_by, len_of, marks, marks_of, slot_of, slots_of, values_of}
use Rattle.flat_arrays_bytes.specs.Fits.{Fits, IsMaskOf}
use Rattle.flat_arrays_bytes.proofs.values_lemmas.Marked.{all-true, made, none_or_some, unmade}
use Rattle.flat_arrays_bytes.specs.values.Growth.{with_marks}
use Rattle.flat_arrays_byte_values_builders.specs.Growing.{IsFilled, first_slots, joined, pushed, trimmed, with_slot, with_slots, without_last}

-- ---- values

cut_by-append : (ls ms bytes : List ℕ) → cut_by (ls ++ ms) bytes ≡ cut_by ls bytes ++ cut_by ms (drop (sum ls) bytes)
cut_by-append [] ms bytes = refl
cut_by-append (l ∷ ls) ms bytes =
    ap (λ rest. take l bytes ∷ rest) (cut_by-append ls ms (drop l bytes)
    ∙ ap (λ b. cut_by ls (drop l bytes) ++ cut_by ms b) (drop-drop (sum ls) l bytes ∙ ap (λ n. drop n bytes) (sym (sum-cons l ls))))

-- bytes that are added play no part
cut_by-within : (ls bytes more : List ℕ) → sum ls ≤ length bytes → cut_by ls (bytes ++ more) ≡ cut_by ls bytes
cut_by-within [] bytes more h = refl
cut_by-within (l ∷ ls) bytes more h =
    let le : l ≤ length bytes = omega (arith, h, sum-cons l ls) in
    let rest : sum ls ≤ length (drop l bytes) = omega (arith, h, sum-cons l ls, length-drop l bytes) in
    ap (λ x. x ∷ cut_by ls (drop l (bytes ++ more))) (take-append-le l bytes more le)
    ∙ ap (λ b. take l bytes ∷ cut_by ls b) (drop-append-le l bytes more le)
    ∙ ap (λ xs. take l bytes ∷ xs) (cut_by-within ls (drop l bytes) more rest)

-- the values, and behind them those of other bytes
values_more : (a : ByteStrings) (ms more : List ℕ) → length a.bytes ≡ last_of a.offsets
    → cut_by (a.offsets.lengths ++ ms) (drop a.offsets.start (a.bytes ++ more)) ≡ values_of a ++ cut_by ms more
values_more a ms more filled =
    let ls = a.offsets.lengths in
    let rest : List ℕ = drop a.offsets.start a.bytes in
    let le : a.offsets.start ≤ length a.bytes = omega (arith, filled) in
    let full : length rest ≡ sum ls = omega (arith, filled, length-drop a.offsets.start a.bytes) in
    let within : sum ls ≤ length rest = omega (arith, full) in
    ap (cut_by (ls ++ ms)) (drop-append-le a.offsets.start a.bytes more le)
    ∙ cut_by-append ls ms (rest ++ more)
    ∙ ap (λ xs. xs ++ cut_by ms (drop (sum ls) (rest ++ more))) (cut_by-within ls rest more within)
    ∙ ap (λ b. cut_by ls rest ++ cut_by ms b) (ap (λ n. drop n (rest ++ more)) (sym full) ∙ drop-append_seam rest more)

pub values_of-pushed : (a : ByteStrings) (x : List ℕ) (mark : Bool) → IsFilled a → values_of (pushed a x mark) ≡ values_of a ++ x ∷ []
values_of-pushed a x mark h =
    values_more a (length x ∷ []) x h.filled ∙ ap (λ y. values_of a ++ y ∷ []) (take-length x)

-- ---- marks

pub length-marks : (n : ℕ) (mask : Option (List Bool)) → IsMaskOf n mask → length (marks n mask) ≡ n
length-marks n None h = length-replicate n true
length-marks n (Some mask) h = h

-- the marks of more values, of which a mask tells those that came
marks-grown : (n m k : ℕ) (mask : Option (List Bool)) (bits : List Bool) → length bits ≡ m → k ≡ n + m
    → marks k (with_marks n mask bits) ≡ marks n mask ++ bits
marks-grown n m k (Some mask) bits long total = refl
marks-grown n m k None bits long total = by_count (none_or_some (unset_count bits))
  where
    by_count : (unset_count bits ≡ 0) ⊎ (0 < unset_count bits) → marks k (with_marks n None bits) ≡ replicate n true ++ bits
    by_count (inl none) =
        let ones : replicate m true ≡ bits = ap (λ i. replicate i true) (sym long) ∙ sym (all-true bits none) in
        ap (λ v. marks k v) (unmade n bits none) ∙ ap (λ i. replicate i true) total ∙ sym (replicate-append-replicate n m true)
        ∙ ap (λ xs. replicate n true ++ xs) ones
    by_count (inr some) = ap (λ v. marks k v) (made n bits some)

pub mask_of-grown : (n m k : ℕ) (mask : Option (List Bool)) (bits : List Bool) → length bits ≡ m → k ≡ n + m → IsMaskOf n mask
    → IsMaskOf k (with_marks n mask bits)
mask_of-grown n m k (Some mask) bits long total h = omega (arith, long, total, h, length-append mask bits)
mask_of-grown n m k None bits long total h = by_count (none_or_some (unset_count bits))
  where
    count : length (replicate n true ++ bits) ≡ k
    count = omega (arith, long, total, length-append (replicate n true) bits, length-replicate n true)

    by_count : (unset_count bits ≡ 0) ⊎ (0 < unset_count bits) → IsMaskOf k (with_marks n None bits)
    by_count (inl none) = subst (IsMaskOf k) (sym (unmade n bits none)) tt
    by_count (inr some) = subst (IsMaskOf k) (sym (made n bits some)) count

len_of-pushed : (a : ByteStrings) (x : List ℕ) (mark : Bool) → len_of (pushed a x mark) ≡ len_of a + 1
len_of-pushed a x mark = length-append a.offsets.lengths (length x ∷ [])

-- ---- slots

zip-append : {X Y : Type 0} (xs : List X) (ys : List Y) (vs : List X) (ws : List Y) → length xs ≡ length ys
    → zip (xs ++ vs) (ys ++ ws) ≡ zip xs ys ++ zip vs ws
zip-append [] [] vs ws e = refl
zip-append [] (y ∷ ys) vs ws e = absurd (omega (arith, e))
zip-append (x ∷ xs) [] vs ws e = absurd (omega (arith, e))
zip-append (x ∷ xs) (y ∷ ys) vs ws e =
    let tails : length xs ≡ length ys = omega (arith, e) in ap (λ rest. (x, y) ∷ rest) (zip-append xs ys vs ws tails)

-- what is behind the values stands behind the slots
slots_more : (a b : ByteStrings) (vs : List (List ℕ)) (ws : List Bool) → IsFilled a → values_of b ≡ values_of a ++ vs → marks_of b ≡ marks_of a ++ ws
    → slots_of b ≡ slots_of a ++ map slot_of (zip vs ws)
slots_more a b vs ws h front_values front_marks =
    let same : length (values_of a) ≡ length (marks_of a) = length_values a ∙ sym (length-marks (len_of a) a.validity h.masked) in
    ap (λ xs. map slot_of (zip xs (marks_of b))) front_values ∙ ap (λ ys. map slot_of (zip (values_of a ++ vs) ys)) front_marks
    ∙ ap (map slot_of) (zip-append (values_of a) (marks_of a) vs ws same)
    ∙ map-append slot_of (zip (values_of a) (marks_of a)) (zip vs ws)

pub slots_of-pushed : (a : ByteStrings) (x : List ℕ) (mark : Bool) → IsFilled a → slots_of (pushed a x mark) ≡ slots_of a ++ slot_of (x, mark) ∷ []
slots_of-pushed a x mark h =
    slots_more a (pushed a x mark) (x ∷ []) (mark ∷ []) h (values_of-pushed a x mark h)
    (marks-grown (len_of a) 1 (len_of (pushed a x mark)) a.validity (mark ∷ []) refl (len_of-pushed a x mark))

pub slots_of-with_slot : (a : ByteStrings) (slot : Option (List ℕ)) → IsFilled a → slots_of (with_slot a slot) ≡ slots_of a ++ slot ∷ []
slots_of-with_slot a (Some x) h = slots_of-pushed a x true h
slots_of-with_slot a None h = slots_of-pushed a [] false h

pub IsFilled-pushed : (a : ByteStrings) (x : List ℕ) (mark : Bool) → IsFilled a → IsFilled (pushed a x mark)
IsFilled-pushed a x mark h = record {
  masked = mask_of-grown (len_of a) 1 (len_of (pushed a x mark)) a.validity (mark ∷ []) refl (len_of-pushed a x mark) h.masked;
  filled = omega (arith, h.filled, length-append a.bytes x, last_of-extended a.offsets (length x ∷ []), sum-cons (length x) []);
}

pub len_of-with_slot : (a : ByteStrings) (slot : Option (List ℕ)) → len_of (with_slot a slot) ≡ len_of a + 1
len_of-with_slot a (Some x) = len_of-pushed a x true
len_of-with_slot a None = len_of-pushed a [] false

pub IsFilled-with_slot : (a : ByteStrings) (slot : Option (List ℕ)) → IsFilled a → IsFilled (with_slot a slot)
IsFilled-with_slot a (Some x) h = IsFilled-pushed a x true h
IsFilled-with_slot a None h = IsFilled-pushed a [] false h

-- ---- many slots

pub slots_of-with_slots : (a : ByteStrings) (slots : List (Option (List ℕ))) → IsFilled a → slots_of (with_slots a slots) ≡ slots_of a ++ slots
slots_of-with_slots a [] h = sym (append-nil (slots_of a))
slots_of-with_slots a (slot ∷ slots) h =
    slots_of-with_slots (with_slot a slot) slots (IsFilled-with_slot a slot h)
    ∙ ap (λ xs. xs ++ slots) (slots_of-with_slot a slot h) ∙ append_assoc (slots_of a) (slot ∷ []) slots

-- ---- the slots of two

len_of-joined : (a b : ByteStrings) → len_of (joined a b) ≡ len_of a + len_of b
len_of-joined a b = length-append a.offsets.lengths b.offsets.lengths

pub values_of-joined : (a b : ByteStrings) → IsFilled a → values_of (joined a b) ≡ values_of a ++ values_of b
values_of-joined a b h = values_more a b.offsets.lengths (drop b.offsets.start b.bytes) h.filled

pub slots_of-joined : (a b : ByteStrings) → IsFilled a → IsFilled b → slots_of (joined a b) ≡ slots_of a ++ slots_of b
slots_of-joined a b h k =
    let long = length-marks (len_of b) b.validity k.masked in
    slots_more a (joined a b) (values_of b) (marks_of b) h (values_of-joined a b h)
    (marks-grown (len_of a) (len_of b) (len_of (joined a b)) a.validity (marks_of b) long (len_of-joined a b))

-- as many bytes as the lengths of the other say
pub length-stored : (b : ByteStrings) → IsFilled b → length (drop b.offsets.start b.bytes) ≡ sum b.offsets.lengths
length-stored b h = omega (arith, h.filled, length-drop b.offsets.start b.bytes)

pub IsFilled-joined : (a b : ByteStrings) → IsFilled a → IsFilled b → IsFilled (joined a b)
IsFilled-joined a b h k = record {
  masked = mask_of-grown (len_of a) (len_of b) (len_of (joined a b)) a.validity (marks_of b) (length-marks (len_of b) b.validity k.masked) (
      len_of-joined a b) h.masked;
  filled = omega (
    arith,
    h.filled,
    length-append a.bytes (drop b.offsets.start b.bytes),
    last_of-extended a.offsets b.offsets.lengths,
    length-stored
        b k,
  );
}

-- ---- the first slots

-- bytes behind the last byte string play no part
cut_by-taken : (ls bytes : List ℕ) (start : ℕ) → start + sum ls ≤ length bytes
    → cut_by ls (drop start (take (start + sum ls) bytes)) ≡ cut_by ls (drop start bytes)
cut_by-taken ls bytes start h =
    let rest : List ℕ = drop start bytes in
    let within : sum ls ≤ length rest = omega (arith, h, length-drop start bytes) in
    let held : length (take (sum ls) rest) ≡ sum ls = length-take-le (sum ls) rest within in
    let le : sum ls ≤ length (take (sum ls) rest) = omega (arith, held) in
    ap (cut_by ls) (drop-take start (sum ls) bytes)
    ∙ sym (cut_by-within ls (take (sum ls) rest) (drop (sum ls) rest) le)
    ∙ ap (cut_by ls) (take-append-drop (sum ls) rest)

pub values_of-trimmed : (a b : ByteStrings) → b ≡ trimmed a → last_of a.offsets ≤ length a.bytes → values_of b ≡ values_of a
values_of-trimmed a b e h = ap values_of e ∙ cut_by-taken a.offsets.lengths a.bytes a.offsets.start h

pub values_of-first_slots : (a : ByteStrings) (n : ℕ) → IsFilled a → values_of (first_slots a n) ≡ values_of (cut a 0 n)
values_of-first_slots a n h =
    let ls : List ℕ = take n a.offsets.lengths in
    let within : a.offsets.start + sum ls ≤ length a.bytes = omega (arith, h.filled, offset_at-le-last_of a.offsets n) in
    cut_by-taken ls a.bytes a.offsets.start within ∙ ap (λ s. cut_by ls (drop s a.bytes)) (sym (add-zero a.offsets.start))

pub slots_of-first_slots : (a : ByteStrings) (n : ℕ) → n ≤ len_of a → IsFilled a → slots_of (first_slots a n) ≡ take n (slots_of a)
slots_of-first_slots a n le h =
    let within : 0 + n ≤ len_of a = omega arith in
    ap (λ xs. map slot_of (zip xs (marks_of (first_slots a n)))) (values_of-first_slots a n h) ∙ slots_of-cut a 0 n within

pub values_of-first : (a : ByteStrings) (n : ℕ) → IsFilled a → values_of (first_slots a n) ≡ take n (values_of a)
values_of-first a n h = values_of-first_slots a n h ∙ values_of-cut a 0 n

mask_of-first : (m n k : ℕ) (mask : Option (List Bool)) → n ≤ m → k ≡ n → IsMaskOf m mask → IsMaskOf k (option_map (take n) mask)
mask_of-first m n k None le e h = tt
mask_of-first m n k (Some mask) le e h = let within : n ≤ length mask = omega (arith, le, h) in length-take-le n mask within ∙ sym e

pub IsFilled-first_slots : (a : ByteStrings) (n : ℕ) → n ≤ len_of a → IsFilled a → IsFilled (first_slots a n)
IsFilled-first_slots a n le h = record {
  masked = mask_of-first (len_of a) n (len_of (first_slots a n)) a.validity le (length-take-le n a.offsets.lengths le) h.masked;
  filled = let within : offset_at a.offsets n ≤ length a.bytes = omega (arith, h.filled, offset_at-le-last_of a.offsets n) in length-take-le
      (offset_at a.offsets n) a.bytes within;
}

-- all slots are the first ones and the last
pub slots_of-without_last : (a : ByteStrings) (slot : Option (List ℕ)) → 0 < len_of a → IsFilled a → slice_get (slots_of a) (len_of a - 1) ≡ Some slot
    → slots_of a ≡ slots_of (without_last a) ++ slot ∷ []
slots_of-without_last a slot some h is =
    let xs = slots_of a in
    let count : length xs ≡ len_of a = length_slots a h.masked in
    let end : len_of a ≤ length xs = omega (arith, count) in
    let less : len_of a - 1 ≤ len_of a = omega arith in
    let short : len_of a - 1 - 0 ≡ len_of a - 1 = omega arith in
    sym (range_all xs (len_of a) (sym count)) ∙ range_last xs 0 (len_of a) slot some end is
    ∙ ap (λ n. take n xs ++ slot ∷ []) short
    ∙ ap (λ ys. ys ++ slot ∷ []) (sym (slots_of-first_slots a (len_of a - 1) less h))

-- ---- trimmed

pub slots_of-trimmed : (a : ByteStrings) → last_of a.offsets ≤ length a.bytes → slots_of (trimmed a) ≡ slots_of a
slots_of-trimmed a h = ap (λ xs. map slot_of (zip xs (marks_of a))) (values_of-trimmed a (trimmed a) refl h)

pub IsFilled-trimmed : (layout : PhysicalType) (a : ByteStrings) → Fits layout a → IsFilled (trimmed a)
IsFilled-trimmed layout a h = record { masked = h.masked; filled = length-take-le (last_of a.offsets) a.bytes h.within }

-- ---- offsets

-- one span behind others, and off again
pub shortened-extended : (s : Spans) (l : ℕ) → shortened (extended s (l ∷ [])) ≡ s
shortened-extended s l =
    let count : length (s.lengths ++ l ∷ []) - 1 ≡ length s.lengths = omega (arith, length-append s.lengths (l ∷ [])) in
    ap (first_spans (extended s (l ∷ []))) count ∙ first_spans-extended s (l ∷ [])

-- the same of the bytes
pub take-append_held : (xs ys : List ℕ) (n : ℕ) → n ≡ length xs → take n (xs ++ ys) ≡ xs
take-append_held xs ys n e = ap (λ k. take k (xs ++ ys)) e ∙ take-append_seam xs ys

pub fits_at : (greatest l : ℕ) (s : Spans) → last_of s + sum (l ∷ []) ≤ greatest → last_of (extended s (l ∷ [])) ≤ greatest
fits_at greatest l s h = omega (arith, h, last_of-extended s (l ∷ []))

pub fault_at : (greatest l : ℕ) (s : Spans) (e : Error) → IsGrowthFault greatest (last_of s + sum (l ∷ [])) e
    → IsGrowthFault greatest (last_of (extended s (l ∷ []))) e
fault_at greatest l s e h = subst (λ n. IsGrowthFault greatest n e) (sym (last_of-extended s (l ∷ []))) h

pub some_span : (s : Spans) → s.lengths ≡ [] → 0 < length s.lengths → ⊥
some_span s e h = omega (arith, h, ap length e)

pub ruleset undone = (shortened-extended, take-append_held, fits_at, fault_at)
