-- Builders that are cut to their first slots: spans, marks, and what is kept.
use Rattle.std.proofs.Common.{◌≡◌, ℕ, ◌+◌, ◌-◌, ◌<◌, ◌≤◌, List, length, refl, ap, sym, ◌∙◌, arith, subst}
use Rattle.std.proofs.lemmas.List.{length-take-le, take_all, take-take}
use Rattle.std.specs.Option.{ForSome}
use Rattle.std.specs.Prelude.{Bool, Option, Some, None, take}
use Rattle.flat_arrays_bytes.proofs.Cuts.{AllTexts-cut}
use Rattle.flat_arrays_bytes.specs.ByteStrings.{ByteStrings, len_of, values_of}
use Rattle.flat_arrays_bytes.specs.Fits.{IsMaskOf}
use Rattle.flat_arrays_bytes.specs.Texts.{AllTexts}
use Rattle.flat_arrays_bytes.specs.columnar_memory.Spans.{Spans, first_spans, shortened}
use Rattle.flat_arrays_byte_values_builders.proofs.Growth.{IsFilled-first_slots, values_of-first_slots}
use Rattle.flat_arrays_byte_values_builders.proofs.Masks.{flat_mask}
use Rattle.flat_arrays_byte_values_builders.specs.Growing.{IsFilled, first_slots}

-- before one is taken off, all are there
pub all_spans : (s : Spans) → s ≡ first_spans s (length s.lengths - 0)
all_spans s =
    let within : length s.lengths ≤ length s.lengths - 0 = omega arith in
    ap (λ (ls : List ℕ). record { start = s.start; lengths = ls }) (sym (take_all (length s.lengths - 0) s.lengths within))

left_count : (s t : Spans) (k : ℕ) → t ≡ first_spans s (length s.lengths - k) → length t.lengths ≡ length s.lengths - k
left_count s t k is =
    let within : length s.lengths - k ≤ length s.lengths = omega arith in
    ap (λ (u : Spans). length u.lengths) is ∙ length-take-le (length s.lengths - k) s.lengths within

-- behind so many that were taken off there is one more
pub some_left : (s t : Spans) (k : ℕ) → k < length s.lengths → t ≡ first_spans s (length s.lengths - k) → 0 < length t.lengths
some_left s t k less is = omega (arith, less, left_count s t k is)

-- and it is taken off
pub one_less : (s t u : Spans) (k : ℕ) → t ≡ first_spans s (length s.lengths - k) → u ≡ shortened t
    → u ≡ first_spans s (length s.lengths - (k + 1))
one_less s t u k is off =
    let n : ℕ = length s.lengths - k in
    let fewer : length t.lengths - 1 ≡ length s.lengths - (k + 1) = omega (arith, left_count s t k is) in
    let within : length s.lengths - (k + 1) ≤ n = omega arith in
    off ∙ ap (first_spans t) fewer ∙ ap (λ v. first_spans v (length s.lengths - (k + 1))) is
    ∙ ap (λ (ls : List ℕ). record { start = s.start; lengths = ls }) (take-take (length s.lengths - (k + 1)) n s.lengths within)

-- a mask of all slots has the marks of the first ones
pub marks_held : (n m : ℕ) (mask : Option (List Bool)) → IsMaskOf n mask → m ≤ n → ForSome mask (λ held. m ≤ length held)
marks_held n m mask h le held some = let count = flat_mask n mask h held some in omega (arith, count, le)

-- a cut of a builder without a mask has none
pub unmasked-first : (a : ByteStrings) (n : ℕ) → a.validity ≡ None → (first_slots a n).validity ≡ None
unmasked-first a n h = ap (λ (v : Option (List Bool)). (first_slots (record a { validity = v }) n).validity) h

-- a cut of a builder of texts is one
pub texts-first : (a : ByteStrings) (n : ℕ) → IsFilled a → AllTexts (values_of a) → AllTexts (values_of (first_slots a n))
texts-first a n whole h = subst AllTexts (sym (values_of-first_slots a n whole)) (AllTexts-cut a 0 n h)

-- what is cut of a builder is one
pub filled_first : (a b : ByteStrings) (n : ℕ) → n ≤ len_of a → IsFilled a → b ≡ first_slots a n → IsFilled b
filled_first a b n le h is = subst IsFilled (sym is) (IsFilled-first_slots a n le h)

pub ruleset spans_off = (all_spans, some_left, one_less)
