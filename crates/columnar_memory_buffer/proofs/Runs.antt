-- The offsets of spans: their places, their windows, and more behind them.
use Rattle.std.proofs.Common.{◌≡◌, ℕ, ◌+◌, ◌-◌, ◌≤◌, ◌<◌, List, [], ◌∷◌, ◌++◌, length, take, drop, get_or, refl, ap, ◌∙◌, sym, arith, sum, zero}
use Rattle.std.proofs.Common.{suc, subst, add-zero, add-one, append_assoc}
use Rattle.std.proofs.lemmas.List.{map-append, length-map, take-map, drop-map, take_all, take_more, take-append-le}
use Rattle.std.proofs.lemmas.List.Sums.{sum_by-cons, sum_by_more, sum_by-take-le, sum_by-append}
use Rattle.std.proofs.Math.Seq.{take-length}
use Rattle.std.specs.Prelude.{ℤ, pos, map, replicate, ◌≤ℤ◌, Bool, IsTrue, ◌↔◌}
use Rattle.std.specs.Bool.{Decides}
use Rattle.std.proofs.Common.{rules}
use Rattle.columnar_memory_buffer.specs.Window.{window}
use Rattle.columnar_memory_buffer.specs.Spans.{Spans, ends_from, offsets_of, offset_at, last_of, extended, spans_between, lengths_from}
use Rattle.columnar_memory_buffer.specs.Spans.{first_spans, spans_of, number_of, numbers_of, AreOffsets, NeverFalls, IsWhole, stored, IsStored}

pub length-ends_from : (b : ℕ) (ls : List ℕ) → length (ends_from b ls) ≡ length ls
length-ends_from b [] = refl
length-ends_from b (l ∷ ls) = ap suc (length-ends_from (b + l) ls)

pub lengths_from-ends_from : (b : ℕ) (ls : List ℕ) → lengths_from b (ends_from b ls) ≡ ls
lengths_from-ends_from b [] = refl
lengths_from-ends_from b (l ∷ ls) =
    let here : b + l - b ≡ l = omega arith in
    rw (here, lengths_from-ends_from (b + l) ls) refl

pub spans_of-offsets_of : (s : Spans) → spans_of (offsets_of s) ≡ s
spans_of-offsets_of s = ap (λ ls. record { start = s.start; lengths = ls }) (lengths_from-ends_from s.start s.lengths)

numbers_of-pos : (ns : List ℕ) → map number_of (map pos ns) ≡ ns
numbers_of-pos [] = refl
numbers_of-pos (n ∷ ns) = ap (λ rest. n ∷ rest) (numbers_of-pos ns)

numbers_of-map : {T : Type 0} (value : T → ℤ) (xs : List T) → numbers_of value xs ≡ map number_of (map value xs)
numbers_of-map value [] = refl
numbers_of-map value (x ∷ xs) = ap (λ rest. number_of (value x) ∷ rest) (numbers_of-map value xs)

-- the spans of offsets are the ones that they are of
pub spans_of-AreOffsets : {T : Type 0} (value : T → ℤ) (xs : List T) (s : Spans) → AreOffsets value xs s → spans_of (numbers_of value xs) ≡ s
spans_of-AreOffsets value xs s h =
    ap spans_of (numbers_of-map value xs ∙ ap (map number_of) h ∙ numbers_of-pos (offsets_of s)) ∙ spans_of-offsets_of s

-- what the view of offsets has to keep, from spans that the values are the offsets of
pub kept : {T : Type 0} (value : T → ℤ) (xs : List T) (s : Spans) → AreOffsets value xs s → AreOffsets value xs (spans_of (numbers_of value xs))
kept value xs s h = subst (λ (t : Spans). AreOffsets value xs t) (sym (spans_of-AreOffsets value xs s h)) h

pub sum-cons : (l : ℕ) (ls : List ℕ) → sum (l ∷ ls) ≡ l + sum ls
sum-cons l ls = sum_by-cons (λ x. x) l ls

pub ends_from-append : (b : ℕ) (ls ms : List ℕ) → ends_from b (ls ++ ms) ≡ ends_from b ls ++ ends_from (b + sum ls) ms
ends_from-append b [] ms = rw (add-zero b) refl
ends_from-append b (l ∷ ls) ms =
    let e : b + l + sum ls ≡ b + sum (l ∷ ls) = omega (arith, sum-cons l ls) in
    ap (λ rest. (b + l) ∷ rest) (ends_from-append (b + l) ls ms ∙ ap (λ n. ends_from (b + l) ls ++ ends_from n ms) e)

-- more offsets, which go on where the last one stands
pub AreOffsets-append : {T : Type 0} (value : T → ℤ) (xs ys : List T) (s : Spans) (ms : List ℕ)
    → AreOffsets value xs s → map value ys ≡ map pos (ends_from (last_of s) ms) → AreOffsets value (xs ++ ys) (extended s ms)
AreOffsets-append value xs ys s ms h k =
    map-append value xs ys ∙ ap (λ front. front ++ map value ys) h ∙ ap (λ back. map pos (offsets_of s) ++ back) k
    ∙ sym (map-append pos (offsets_of s) (ends_from (last_of s) ms))
    ∙ ap (λ rest. map pos (s.start ∷ rest)) (sym (ends_from-append s.start s.lengths ms))

pub AreOffsets-push : {T : Type 0} (value : T → ℤ) (xs : List T) (x : T) (s : Spans) (n : ℕ)
    → AreOffsets value xs s → value x ≡ pos (last_of s + n) → AreOffsets value (xs ++ x ∷ []) (extended s (n ∷ []))
AreOffsets-push value xs x s n h k = AreOffsets-append value xs (x ∷ []) s (n ∷ []) h (ap (λ z. z ∷ []) k)

pub length-AreOffsets : {T : Type 0} (value : T → ℤ) (xs : List T) (s : Spans) → AreOffsets value xs s → length xs ≡ length s.lengths + 1
length-AreOffsets value xs s h =
    sym (length-map xs value) ∙ ap length h ∙ length-map (offsets_of s) pos ∙ ap suc (length-ends_from s.start s.lengths) ∙ sym (add-one (length
    s.lengths))

get_or-ends_from : (b : ℕ) (ls : List ℕ) (i : ℕ) → i < length ls → get_or (ends_from b ls) i 0 ≡ b + sum (take (suc i) ls)
get_or-ends_from b [] i h = absurd (omega arith)
get_or-ends_from b (l ∷ ls) zero h = omega (arith, sum-cons l [])
get_or-ends_from b (l ∷ ls) (suc i) h =
    let lt : i < length ls = omega arith in
    let here : get_or (ends_from (b + l) ls) i 0 ≡ b + l + sum (take (suc i) ls) = get_or-ends_from (b + l) ls i lt in here ∙ omega (
      arith,
      sum-cons l (take (suc i) ls),
    )

get_or-offsets_of : (s : Spans) (i : ℕ) → i ≤ length s.lengths → get_or (offsets_of s) i 0 ≡ offset_at s i
get_or-offsets_of s zero h = omega arith
get_or-offsets_of s (suc i) h = let lt : i < length s.lengths = omega arith in get_or-ends_from s.start s.lengths i lt

get_or-spelled : {T : Type 0} (value : T → ℤ) (xs : List T) (ns : List ℕ) (i : ℕ) (d : T) → map value xs ≡ map pos ns → i < length ns
    → value (get_or xs i d) ≡ pos (get_or ns i 0)
get_or-spelled value [] [] i d h lt = absurd (omega arith)
get_or-spelled value [] (n ∷ ns) i d h lt = absurd (cc)
get_or-spelled value (x ∷ xs) [] i d h lt = absurd (cc)
get_or-spelled value (x ∷ xs) (n ∷ ns) zero d h lt = cc
get_or-spelled value (x ∷ xs) (n ∷ ns) (suc i) d h lt = let tail : map value xs ≡ map pos ns = cc in let less : i < length ns = omega arith in
    get_or-spelled value xs ns i d tail less

-- the offset at a place
pub value-AreOffsets : {T : Type 0} (value : T → ℤ) (xs : List T) (s : Spans) (i : ℕ) (d : T) → AreOffsets value xs s → i ≤ length s.lengths
    → value (get_or xs i d) ≡ pos (offset_at s i)
value-AreOffsets value xs s i d h le =
    let lt : i < length (offsets_of s) = omega (arith, length-ends_from s.start s.lengths) in
    get_or-spelled value xs (offsets_of s) i d h lt ∙ ap pos (get_or-offsets_of s i le)

pub offset_at-all : (s : Spans) → offset_at s (length s.lengths) ≡ last_of s
offset_at-all s = ap (λ ls. s.start + sum ls) (take-length s.lengths)

pub nonnegative : (z : ℤ) (n : ℕ) → z ≡ pos n → pos 0 ≤ℤ z
nonnegative z n h = rw h (search rules)

-- what the element read at a place of stored offsets is
pub value-stored : {T : Type 0} (value : T → ℤ) (xs : List T) (i : ℕ) (x : T) → IsStored value xs → i ≤ length (stored value xs).lengths
    → x ≡ get_or xs i x → value x ≡ pos (offset_at (stored value xs) i)
value-stored value xs i x h le e = ap value e ∙ value-AreOffsets value xs (stored value xs) i x h le

pub length-stored : {T : Type 0} (value : T → ℤ) (xs : List T) → IsStored value xs → length xs ≡ length (stored value xs).lengths + 1
length-stored value xs h = length-AreOffsets value xs (stored value xs) h

-- the same, by the spans that a caller sees
pub seen : {T : Type 0} (value : T → ℤ) (xs : List T) (s : Spans) → IsStored value xs → stored value xs ≡ s → AreOffsets value xs s
seen value xs s h e = subst (λ (t : Spans). AreOffsets value xs t) e h

pub length-seen : {T : Type 0} (value : T → ℤ) (xs ys : List T) (s : Spans) → IsStored value xs → stored value xs ≡ s → ys ≡ xs
    → length ys ≡ length s.lengths + 1
length-seen value xs ys s h e k = ap length k ∙ length-AreOffsets value xs s (seen value xs s h e)

pub value-seen : {T : Type 0} (value : T → ℤ) (xs : List T) (s : Spans) (i : ℕ) (x : T) → IsStored value xs → stored value xs ≡ s
    → i ≤ length s.lengths → x ≡ get_or xs i x → value x ≡ pos (offset_at s i)
value-seen value xs s i x h e le k = ap value k ∙ value-AreOffsets value xs s i x (seen value xs s h e) le

take-ends_from : (b : ℕ) (ls : List ℕ) (n : ℕ) → take n (ends_from b ls) ≡ ends_from b (take n ls)
take-ends_from b ls zero = refl
take-ends_from b [] (suc n) = refl
take-ends_from b (l ∷ ls) (suc n) = ap (λ rest. (b + l) ∷ rest) (take-ends_from (b + l) ls n)

drop-offsets : (b : ℕ) (ls : List ℕ) (i : ℕ) → i ≤ length ls
    → drop i (b ∷ ends_from b ls) ≡ (b + sum (take i ls)) ∷ ends_from (b + sum (take i ls)) (drop i ls)
drop-offsets b ls zero h = ap (λ n. n ∷ ends_from n ls) (sym (add-zero b))
drop-offsets b [] (suc i) h = absurd (omega arith)
drop-offsets b (l ∷ ls) (suc i) h =
    let le : i ≤ length ls = omega arith in
    let e : b + l + sum (take i ls) ≡ b + sum (l ∷ take i ls) = omega (arith, sum-cons l (take i ls)) in
    drop-offsets (b + l) ls i le ∙ ap (λ n. n ∷ ends_from n (drop i ls)) e

-- the offsets of some of the spans
pub AreOffsets-window : {T : Type 0} (value : T → ℤ) (xs : List T) (s : Spans) (i n : ℕ)
    → AreOffsets value xs s → i ≤ length s.lengths → AreOffsets value (window xs i (suc n)) (spans_between s i n)
AreOffsets-window value xs s i n h le =
    sym (take-map value (suc n) (drop i xs)) ∙ ap (take (suc n)) (sym (drop-map value i xs) ∙ ap (drop i) h ∙ drop-map pos i (offsets_of s))
    ∙ take-map pos (suc n) (drop i (offsets_of s)) ∙ ap (map pos) (ap (take (suc n)) (drop-offsets s.start s.lengths i le)
    ∙ ap (λ rest. offset_at s i ∷ rest) (take-ends_from (offset_at s i) (drop i s.lengths) n))

-- the offsets of the first spans
pub AreOffsets-take : {T : Type 0} (value : T → ℤ) (xs : List T) (s : Spans) (n : ℕ)
    → AreOffsets value xs s → AreOffsets value (take (suc n) xs) (record { start = s.start; lengths = take n s.lengths })
AreOffsets-take value xs s n h =
    sym (take-map value (suc n) xs) ∙ ap (take (suc n)) h ∙ take-map pos (suc n) (offsets_of s)
    ∙ ap (λ rest. map pos (s.start ∷ rest)) (take-ends_from s.start s.lengths n)

-- what the view of offsets has to keep, and is
pub stored-AreOffsets : {T : Type 0} (value : T → ℤ) (xs : List T) (s : Spans) → AreOffsets value xs s → stored value xs ≡ s
stored-AreOffsets value xs s h = spans_of-AreOffsets value xs s h

pub pushed : {T : Type 0} (value : T → ℤ) (xs ys : List T) (x : T) (s : Spans) (n m : ℕ)
    → IsStored value xs → stored value xs ≡ s → ys ≡ xs ++ x ∷ [] → value x ≡ pos m → m ≡ last_of s + n → AreOffsets value ys (extended s (n ∷ []))
pushed value xs ys x s n m h e k read sums =
    subst (λ (zs : List _). AreOffsets value zs (extended s (n ∷ []))) (sym k) (AreOffsets-push value xs x s n (seen value xs s h e) (read ∙ ap
    pos sums))

pub truncated : {T : Type 0} (value : T → ℤ) (xs ys : List T) (s : Spans) (k : ℕ)
    → IsStored value xs → stored value xs ≡ s → ys ≡ take (k + 1) xs → AreOffsets value ys (first_spans s k)
truncated value xs ys s k h e y =
    subst (λ (zs : List _). AreOffsets value zs (first_spans s k)) (sym (y ∙ ap (λ n. take n xs) (add-one k))) (AreOffsets-take value xs s k
    (seen value xs s h e))

ends_from-zeros : (b n : ℕ) → ends_from b (replicate n 0) ≡ replicate n b
ends_from-zeros b zero = refl
ends_from-zeros b (suc n) = rw (add-zero b, ends_from-zeros b n) refl

map-replicate : {X Y : Type 0} (f : X → Y) (n : ℕ) (x : X) → map f (replicate n x) ≡ replicate n (f x)
map-replicate f zero x = refl
map-replicate f (suc n) x = ap (λ rest. f x ∷ rest) (map-replicate f n x)

-- spans of no length behind the others, filled up to a number of offsets
pub repeated : {T : Type 0} (value : T → ℤ) (xs ys : List T) (x : T) (s : Spans) (n k m : ℕ)
    → IsStored value xs → stored value xs ≡ s → ys ≡ take k xs ++ replicate (k - m) x → m ≡ length xs → k ≡ length s.lengths + 1 + n → value x ≡
    pos (last_of s)
    → AreOffsets value ys (extended s (replicate n 0))
repeated value xs ys x s n k m h e y held count read =
    let counted : length xs ≡ length s.lengths + 1 = length-AreOffsets value xs s (seen value xs s h e) in
    let over : k - m ≡ n = omega arith in
    let within : length xs ≤ k = omega arith in
    let same : ys ≡ xs ++ replicate n x = y ∙ ap (λ zs. zs ++ replicate (k - m) x) (take_all k xs within) ∙ ap (λ j. xs ++ replicate j x) over in
    subst (λ (zs : List _). AreOffsets value zs (extended s (replicate n 0))) (sym same)
    (AreOffsets-append value xs (replicate n x) s (replicate n 0) (seen value xs s h e)
    (map-replicate value n x ∙ ap (replicate n) read ∙ sym (map-replicate pos n (last_of s)) ∙ ap (map pos) (sym (ends_from-zeros (last_of s) n))))

ends_from-NeverFalls : {T : Type 0} (value : T → ℤ) (b : ℕ) (xs : List T) → NeverFalls value b xs
    → map value xs ≡ map pos (ends_from b (lengths_from b (numbers_of value xs)))
ends_from-NeverFalls value b [] h = refl
ends_from-NeverFalls value b (x ∷ xs) h =
    let n : ℕ = h.0 in
    let here : b + (n - b) ≡ n = omega (arith, h.2) in
    rw (h.1, here) (ap (λ rest. pos n ∷ rest) (ends_from-NeverFalls value n xs h.3))

-- whole values are offsets
pub IsStored-from_IsWhole : {T : Type 0} (value : T → ℤ) (xs : List T) → IsWhole value xs → IsStored value xs
IsStored-from_IsWhole value [] h = absurd (omega (arith, h.0))
IsStored-from_IsWhole value (x ∷ xs) h =
    let n : ℕ = h.1.0 in rw h.1.1 (ap (λ rest. pos n ∷ rest) (ends_from-NeverFalls value n xs h.1.3))

-- a span ends its length behind where it begins
pub offset_at-more : (s : Spans) (i : ℕ) → i < length s.lengths → offset_at s (i + 1) ≡ offset_at s i + get_or s.lengths i 0
offset_at-more s i h = omega (arith, sum_by_more (λ x. x) s.lengths i 0 h)

pub offset_at-le-last_of : (s : Spans) (i : ℕ) → offset_at s i ≤ last_of s
offset_at-le-last_of s i = omega (arith, sum_by-take-le (λ x. x) s.lengths i)

pub extended-more : (s : Spans) (ls : List ℕ) (i : ℕ) → i < length ls
    → extended (extended s (take i ls)) (get_or ls i 0 ∷ []) ≡ extended s (take (i + 1) ls)
extended-more s ls i h = ap (λ ms. record { start = s.start; lengths = ms }) (append_assoc s.lengths (take i ls) (get_or ls i 0 ∷ []) ∙ ap (λ
    ms. s.lengths ++ ms) (sym (take_more ls i 0 h)))

pub extended-push : (s : Spans) (ls : List ℕ) (l : ℕ) → extended (extended s ls) (l ∷ []) ≡ extended s (ls ++ l ∷ [])
extended-push s ls l = ap (λ ms. record { start = s.start; lengths = ms }) (append_assoc s.lengths ls (l ∷ []))

pub first_spans-extended : (s : Spans) (ls : List ℕ) → first_spans (extended s ls) (length s.lengths) ≡ s
first_spans-extended s ls =
    let le : length s.lengths ≤ length s.lengths = omega arith in
    ap (λ ms. record { start = s.start; lengths = ms }) (take-append-le (length s.lengths) s.lengths ls le ∙ take-length s.lengths)

pub last_of-extended : (s : Spans) (ls : List ℕ) → last_of (extended s ls) ≡ last_of s + sum ls
last_of-extended s ls = omega (arith, sum_by-append (λ x. x) s.lengths ls)

-- the spans of the offsets that a slice has
pub lengths-seen : {T : Type 0} (value : T → ℤ) (xs : List T) (s : Spans) → AreOffsets value xs s
    → IsStored value xs × ((stored value xs).lengths ≡ s.lengths)
lengths-seen value xs s h = (kept value xs s h, ap (λ (t : Spans). t.lengths) (spans_of-AreOffsets value xs s h))

-- one more span of those that are to come
pub grown-more : (new old first : Spans) (ls : List ℕ) (i l : ℕ) → new ≡ extended old (l ∷ []) → old ≡ extended first (take i ls)
    → l ≡ get_or ls i 0 → i < length ls → new ≡ extended first (take (i + 1) ls)
grown-more new old first ls i l step before len h =
    step ∙ ap (λ (s : Spans). extended s (l ∷ [])) before ∙ ap (λ n. extended (extended first (take i ls)) (n ∷ [])) len ∙ extended-more first ls i h

-- the offsets of a window on offsets
pub windowed : {T : Type 0} (value : T → ℤ) (xs ys : List T) (s : Spans) (i n : ℕ)
    → IsStored value xs → stored value xs ≡ s → ys ≡ window xs i n → 0 < n → i + n ≤ length s.lengths + 1 → AreOffsets value ys (spans_between s
    i (n - 1))
windowed value xs ys s i n h e y lt le =
    let one : n ≡ suc (n - 1) = omega arith in
    let within : i ≤ length s.lengths = omega arith in
    subst (λ (zs : List _). AreOffsets value zs (spans_between s i (n - 1))) (sym (y ∙ ap (λ k. window xs i k) one))
    (AreOffsets-window value xs s i (n - 1) (seen value xs s h e) within)

map-injective : {T : Type 0} (value : T → ℤ) (xs ys : List T) → ((x y : T) → value x ≡ value y → x ≡ y) → map value xs ≡ map value ys → xs ≡ ys
map-injective value [] [] same h = refl
map-injective value [] (y ∷ ys) same h = cc
map-injective value (x ∷ xs) [] same h = cc
map-injective value (x ∷ xs) (y ∷ ys) same h =
    let first : value x ≡ value y = cc in
    let rest : map value xs ≡ map value ys = cc in
    let e : x ≡ y = same x y first in
    let es : xs ≡ ys = map-injective value xs ys same rest in cc

-- offsets are of the same spans exactly where they are the same values
pub same_spans : {T : Type 0} (value : T → ℤ) (xs ys : List T) (s t : Spans) (r : Bool) → ((x y : T) → value x ≡ value y → x ≡ y)
    → AreOffsets value xs s → AreOffsets value ys t → Decides r (xs ≡ ys) → Decides r (s ≡ t)
same_spans value xs ys s t r same h k d = (
  (λ yes. sym (spans_of-AreOffsets value xs s h) ∙ ap (stored value) (d.0 yes) ∙ spans_of-AreOffsets value ys t k),
  (λ e. d.1 (map-injective value xs ys same (h ∙ ap (λ (u : Spans). map pos (offsets_of u)) e ∙ sym k))),
)

-- whether values are equal by their type's own test says whether they are the same
pub values_Decide : {T : Type 0} (value : T → ℤ) (eq : T → T → Bool) → ((x y : T) → value x ≡ value y → x ≡ y) → ((x y : T)
    → IsTrue (eq x y) ↔ (value x ≡ value y))
    → (x y : T) → Decides (eq x y) (x ≡ y)
values_Decide value eq same test x y = ((λ yes. same x y ((test x y).0 yes)), (λ e. (test x y).1 (ap value e)))

-- one more of the offsets that are to come, as the next one of other spans says where it stands
pub appended : {T : Type 0} (value : T → ℤ) (xs : List T) (x : T) (s : Spans) (ls : List ℕ) (i m : ℕ) → i < length ls
    → AreOffsets value xs (extended s (take i ls)) → value x ≡ pos m → m ≡ last_of s + sum (take (i + 1) ls)
    → AreOffsets value (xs ++ x ∷ []) (extended s (take (i + 1) ls))
appended value xs x s ls i m lt h read sums =
    let more : sum (take (i + 1) ls) ≡ sum (take i ls) + get_or ls i 0 = omega (arith, sum_by_more (λ x. x) ls i 0 lt) in
    let here : m ≡ last_of (extended s (take i ls)) + get_or ls i 0 = omega (arith, sums, more, last_of-extended s (take i ls)) in
    subst (λ (t : Spans). AreOffsets value (xs ++ x ∷ []) t) (extended-more s ls i lt)
    (AreOffsets-push value xs x (extended s (take i ls)) (get_or ls i 0) h (read ∙ ap pos here))

pub sum-take-le : (ls : List ℕ) (i : ℕ) → sum (take i ls) ≤ sum ls
sum-take-le ls i = omega (arith, sum_by-take-le (λ x. x) ls i)
