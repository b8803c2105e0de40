-- The byte string at a place.
use Rattle.std.proofs.Common.{◌≡◌, ℕ, ◌+◌, ◌-◌, ◌<◌, List, [], ◌∷◌, length, take, drop, get_or, sum, refl, ap, sym, subst, ◌∙◌, arith, zero, suc}
use Rattle.std.proofs.lemmas.List.{drop-drop}
use Rattle.std.specs.Prelude.{Some, slice_get, slice_range}
use Rattle.std.specs.Str.{IsUtf8}
use Rattle.flat_arrays_values.proofs.columnar_memory_lemmas.buffer_lemmas.Runs.{sum-cons, offset_at-more}
use Rattle.flat_arrays_values.specs.columnar_memory.Spans.{offset_at}
use Rattle.flat_arrays_bytes.specs.ByteStrings.{ByteStrings, cut_by, values_of, len_of}
use Rattle.flat_arrays_bytes.specs.Texts.{AllTexts}

slice_get-cut_by : (ls bytes : List ℕ) (i : ℕ) → i < length ls
    → slice_get (cut_by ls bytes) i ≡ Some (take (get_or ls i 0) (drop (sum (take i ls)) bytes))
slice_get-cut_by [] bytes i h = absurd (omega arith)
slice_get-cut_by (l ∷ ls) bytes zero h = refl
slice_get-cut_by (l ∷ ls) bytes (suc i) h =
    let lt : i < length ls = omega arith in
    slice_get-cut_by ls (drop l bytes) i lt
    ∙ ap (λ rest. Some (take (get_or ls i 0) rest)) (drop-drop (sum (take i ls)) l bytes ∙ ap (λ n. drop n bytes) (sym (sum-cons l (take i ls))))

-- the bytes between an offset and the next are the byte string at that place
pub value_between : (a : ByteStrings) (i : ℕ) → i < len_of a
    → slice_get (values_of a) i ≡ Some (slice_range a.bytes (offset_at a.offsets i) (offset_at a.offsets (i + 1)))
value_between a i h =
    let width : get_or a.offsets.lengths i 0 ≡ offset_at a.offsets (i + 1) - offset_at a.offsets i = omega (arith, offset_at-more a.offsets i h) in
    slice_get-cut_by a.offsets.lengths (drop a.offsets.start a.bytes) i h
    ∙ ap (λ rest. Some (take (get_or a.offsets.lengths i 0) rest)) (drop-drop (sum (take i a.offsets.lengths)) a.offsets.start a.bytes)
    ∙ ap (λ n. Some (take n (drop (offset_at a.offsets i) a.bytes))) width

-- each of some texts is UTF-8
pub text_among : (xs : List (List ℕ)) (i : ℕ) (x : List ℕ) → AllTexts xs → slice_get xs i ≡ Some x → IsUtf8 x
text_among [] i x h e = cc
text_among (y ∷ ys) zero x h e = let same : y ≡ x = cc in subst IsUtf8 same h.0
text_among (y ∷ ys) (suc i) x h e = text_among ys i x h.1 e
