-- Texts are what UTF-8 gives where it is cut between characters.
use Rattle.std.proofs.Common.{◌≡◌, ℕ, ◌+◌, ◌-◌, ◌≤◌, List, [], ◌∷◌, length, take, drop, sum, refl, ap, sym, subst, ◌∙◌, arith, add-zero, length-drop}
use Rattle.std.proofs.lemmas.List.{take-append-drop, take-take, drop-take, length-take-le}
use Rattle.std.proofs.lemmas.Str.{IsUtf8-nil, IsUtf8-append, IsUtf8-take, IsUtf8-drop}
use Rattle.std.proofs.lemmas.Str.{IsCharBoundary-start, IsCharBoundary-end, IsCharBoundary-from_rest}
use Rattle.std.specs.Prelude.{◌↔◌, slice_range}
use Rattle.flat_arrays_values.specs.columnar_memory.Spans.{Spans, last_of}
use Rattle.std.specs.Str.{IsUtf8, IsCharBoundary}
use Rattle.flat_arrays_values.proofs.columnar_memory_lemmas.buffer_lemmas.Runs.{sum-cons}
use Rattle.flat_arrays_bytes.proofs.Cuts.{slice_range-window}
use Rattle.flat_arrays_bytes.specs.ByteStrings.{cut_by}
use Rattle.flat_arrays_bytes.specs.Texts.{AllTexts, CutsBetweenChars}

-- what is left behind the first span has the length of the others
length-rest : (l : ℕ) (ls bytes : List ℕ) → length bytes ≡ sum (l ∷ ls) → length (drop l bytes) ≡ sum ls
length-rest l ls bytes e = omega (arith, e, sum-cons l ls, length-drop l bytes)

-- texts one after another are a text
whole : (ls bytes : List ℕ) → length bytes ≡ sum ls → AllTexts (cut_by ls bytes) → IsUtf8 bytes
whole [] [] e h = IsUtf8-nil
whole [] (b ∷ bytes) e h = absurd (omega (arith, e))
whole (l ∷ ls) bytes e h =
    subst IsUtf8 (take-append-drop l bytes)
    (IsUtf8-append (take l bytes) (drop l bytes) h.0 (whole ls (drop l bytes) (length-rest l ls bytes e) h.1))

-- and none of them begins inside a character of it
between : (ls bytes : List ℕ) → length bytes ≡ sum ls → AllTexts (cut_by ls bytes) → CutsBetweenChars ls bytes
between [] bytes e h = tt
between (l ∷ ls) bytes e h = (
  IsCharBoundary-start bytes (whole (l ∷ ls) bytes e h),
  between ls (drop l bytes) (length-rest l ls bytes e) h.1,
)

-- a text may be cut where the next one begins, or ends
boundary : (l : ℕ) (ls bytes : List ℕ) → length bytes ≡ sum (l ∷ ls) → CutsBetweenChars ls (drop l bytes) → IsCharBoundary bytes l
boundary l [] bytes e h =
    let last : length bytes ≡ l = omega (arith, e, sum-cons l []) in subst (IsCharBoundary bytes) last (IsCharBoundary-end bytes)
boundary l (m ∷ ls) bytes e h =
    let le : l ≤ length bytes = omega (arith, e, sum-cons l (m ∷ ls)) in
    subst (IsCharBoundary bytes) (add-zero l) (IsCharBoundary-from_rest bytes l 0 le h.0)

-- what is cut between the characters of a text are texts
parts : (ls bytes : List ℕ) → length bytes ≡ sum ls → IsUtf8 bytes → CutsBetweenChars ls bytes → AllTexts (cut_by ls bytes)
parts [] bytes e u h = tt
parts (l ∷ ls) bytes e u h =
    let here : IsCharBoundary bytes l = boundary l ls bytes e h.1 in (
      IsUtf8-take bytes l u here,
      parts ls (drop l bytes) (length-rest l ls bytes e) (IsUtf8-drop bytes l u here) h.1,
    )

-- byte strings that fill some bytes are texts exactly where the bytes are a text and none begins inside a character
texts_of_window : (ls bytes : List ℕ) → length bytes ≡ sum ls → AllTexts (cut_by ls bytes) ↔ (IsUtf8 bytes × CutsBetweenChars ls bytes)
texts_of_window ls bytes e = ((λ h. (whole ls bytes e h, between ls bytes e h)), (λ h. parts ls bytes e h.0 h.1))

-- bytes behind the last byte string play no part
cut_by-take : (ls bytes : List ℕ) (n : ℕ) → sum ls ≤ n → cut_by ls (take n bytes) ≡ cut_by ls bytes
cut_by-take [] bytes n h = refl
cut_by-take (l ∷ ls) bytes n h =
    let le : l ≤ n = omega (arith, h, sum-cons l ls) in
    let split : n ≡ l + (n - l) = omega arith in
    let rest : sum ls ≤ n - l = omega (arith, h, sum-cons l ls) in
    let tail : drop l (take n bytes) ≡ take (n - l) (drop l bytes) = ap (λ k. drop l (take k bytes)) split ∙ drop-take l (n - l) bytes in
    ap (λ x. x ∷ cut_by ls (drop l (take n bytes))) (take-take l n bytes le)
    ∙ ap (λ xs. take l bytes ∷ xs) (ap (cut_by ls) tail ∙ cut_by-take ls (drop l bytes) (n - l) rest)

-- the byte strings of spans are texts exactly where the bytes from the first offset to the last are cut between the characters of a text
pub texts_between : (s : Spans) (bytes : List ℕ) → last_of s ≤ length bytes
    → AllTexts (cut_by s.lengths (drop s.start bytes))
    ↔ (IsUtf8 (slice_range bytes s.start (last_of s)) × CutsBetweenChars s.lengths (slice_range bytes s.start (last_of s)))
texts_between s bytes h =
    let rest : List ℕ = drop s.start bytes in
    let within : sum s.lengths ≤ length rest = omega (arith, h, length-drop s.start bytes) in
    let window : slice_range bytes s.start (last_of s) ≡ take (sum s.lengths) rest = slice_range-window bytes s.start (sum s.lengths) in
    let held : length (take (sum s.lengths) rest) ≡ sum s.lengths = length-take-le (sum s.lengths) rest within in
    let all : sum s.lengths ≤ sum s.lengths = omega arith in
    let same : cut_by s.lengths (take (sum s.lengths) rest) ≡ cut_by s.lengths rest = cut_by-take s.lengths rest (sum s.lengths) all in
    subst (λ w. AllTexts (cut_by s.lengths rest) ↔ (IsUtf8 w × CutsBetweenChars s.lengths w)) (sym window)
    (subst (λ xs. AllTexts xs ↔ (IsUtf8 (take (sum s.lengths) rest) × CutsBetweenChars s.lengths (take (sum s.lengths) rest))) same
    (texts_of_window s.lengths (take (sum s.lengths) rest) held))
