-- Offsets that are written less the first one give back the pieces between them (Arrow columnar format, "Variable-size Binary Layout",
-- "Variable-size List Layout").
use Rattle.std.proofs.Common.{◌≡◌, ◌∙◌, ℕ, zero, suc, ◌+◌, ◌-◌, ◌*◌, ◌≤◌, ◌<◌, ◌^◌, ℤ, pos, Bool, true, false, ◌&&◌, List, [], ◌∷◌, length, get_or}
use Rattle.std.proofs.Common.{map, take, drop, refl, sym, ap, ap₂, subst, arith, add-one, zero-add, suc-mul, nat_lt, nat_le, ◌==◌, slice_index}
use Rattle.std.proofs.Common.{slice_range, length-drop}
use Rattle.std.specs.Prelude.{Some}
use Rattle.std.specs.Int.{Width, byte_len, to_le_bytes}
use Rattle.std.specs.List.{flat_map, list_all}
use mir.Val.{hbits}
use Rattle.std.proofs.Math.ListN.{get_or-map}
use Rattle.std.proofs.lemmas.List.{length-map, length-take-le, drop-drop, drop-take, take-take}
use Rattle.std.proofs.lemmas.Bool.{and_parts, and_from, lt-ltb, ltb-true, le-leb, leb-true, le-ltb}
use Rattle.ipc_format_laws.proofs.flatbuffers_lemmas.Numbers.{length-to_le_bytes}
use Rattle.ipc_format_laws.specs.columnar_memory.NumberLaws.{signed_in-number_bytes}
use Rattle.ipc_format_laws.specs.columns.Slots.{window}
use Rattle.ipc_format_laws.specs.columns.StoredColumns.{string_at, cut_list}
use Rattle.ipc_format_laws.specs.columns.SoundColumns.{holds_below, rises_at, are_offsets}
use Rattle.ipc_format_laws.proofs.columns_lemmas.Windows.{get_or-cut_list}
use Rattle.ipc_format_laws.proofs.columns_lemmas.Conditions.{parts_of_3, holds_at, list_all-cut_list}
use Rattle.ipc_format_laws.proofs.columns_lemmas.CutStored.{length-cut_offsets, first_offset}
use Rattle.ipc_format_laws.specs.grammar.Values.{signed_of, element_bytes}
use Rattle.ipc_format_laws.specs.grammar.Columns.{Source, buffer_at, rising, offsets_in, last_of, piece_at}
use Rattle.ipc_format_laws.specs.grammar.Encoding.{Encoded}
use Rattle.ipc_format_laws.specs.grammar.StoredEncoding.{last_offset, moved_offsets, moved_bytes, between_offsets}
use Rattle.ipc_format_laws.specs.Columns.{StandsAt, HoldsColumns}
use Rattle.ipc_format_laws.proofs.Elements.{passes_at, element_back, elements_size, window_is}
use Rattle.ipc_format_laws.proofs.Buffers.{buffer_reads, place_reads}

-- ---- offsets of a sound column, by their numbers

-- offsets do not fall
pub offsets_rise : (offsets : List ℕ) (limit i k : ℕ) → are_offsets offsets limit ≡ true → i + k < length offsets
    → slice_index offsets i ≤ slice_index offsets (i + k)
offsets_rise offsets limit i zero sound inside =
    let at : i + 0 ≡ i = omega arith in
    omega (arith, ap (slice_index offsets) at)
offsets_rise offsets limit i (suc k) sound inside =
    let parts = parts_of_3 (nat_le 1 (length offsets)) (holds_below (length offsets - 1) (rises_at offsets))
    (list_all (λ offset. nat_le offset limit) offsets) sound in
    let before : slice_index offsets i ≤ slice_index offsets (i + k) = offsets_rise offsets limit i k sound (omega arith) in
    let step : slice_index offsets (i + k) ≤ slice_index offsets (i + k + 1) =
    leb-true (slice_index offsets (i + k)) (slice_index offsets (i + k + 1))
    (holds_at (length offsets - 1) (rises_at offsets) (i + k) parts.1 (omega arith)) in
    subst (λ (j : ℕ). slice_index offsets i ≤ slice_index offsets j) (next i k) (omega arith)
  where
    next : (i k : ℕ) → i + k + 1 ≡ i + suc k
    next i k = omega arith

-- none is past the limit
pub offset_within : (offsets : List ℕ) (limit i : ℕ) → are_offsets offsets limit ≡ true → i < length offsets → slice_index offsets i ≤ limit
offset_within offsets limit i sound inside =
    let parts = parts_of_3 (nat_le 1 (length offsets)) (holds_below (length offsets - 1) (rises_at offsets))
    (list_all (λ offset. nat_le offset limit) offsets) sound in
    leb-true (slice_index offsets i) limit (passes_at (λ offset. nat_le offset limit) offsets i 0 parts.2 inside)

-- offset i of those that n slots from slot o on have
pub offset_taken : (offsets : List ℕ) (o n i : ℕ) → i ≤ n → slice_index (cut_list offsets o (n + 1)) i ≡ slice_index offsets (o + i)
offset_taken offsets o n i inside = get_or-cut_list offsets o (n + 1) i 0 (omega arith)

pub first_taken : (offsets : List ℕ) (o n : ℕ) → slice_index (cut_list offsets o (n + 1)) 0 ≡ slice_index offsets o
first_taken offsets o n =
    let at : o + 0 ≡ o = omega arith in
    offset_taken offsets o n 0 (omega arith) ∙ ap (slice_index offsets) at

pub taken_size : (offsets : List ℕ) (limit o n : ℕ) → are_offsets offsets limit ≡ true → o + n ≤ length offsets - 1
    → length (cut_list offsets o (n + 1)) ≡ n + 1
taken_size offsets limit o n sound within = length-cut_offsets offsets o n (first_offset offsets limit sound) within

pub last_taken : (offsets : List ℕ) (limit o n : ℕ) → are_offsets offsets limit ≡ true → o + n ≤ length offsets - 1
    → last_offset (cut_list offsets o (n + 1)) ≡ slice_index offsets (o + n)
last_taken offsets limit o n sound within =
    let size : length (cut_list offsets o (n + 1)) - 1 ≡ n = omega (arith, taken_size offsets limit o n sound within) in
    ap (slice_index (cut_list offsets o (n + 1))) size ∙ offset_taken offsets o n n (omega arith)

-- ---- less the first one

none_less : (k : ℕ) → 0 ≡ 0 - k
none_less k = omega arith

pub moved_at : (offsets : List ℕ) (o n i : ℕ) → i ≤ n
    → slice_index (moved_offsets (cut_list offsets o (n + 1))) i ≡ slice_index offsets (o + i) - slice_index offsets o
moved_at offsets o n i inside =
    let taken : List ℕ = cut_list offsets o (n + 1) in
    let less : ℕ → ℕ = λ offset. offset - slice_index taken 0 in
    ap (get_or (map less taken) i) (none_less (slice_index taken 0)) ∙ get_or-map less taken i 0
    ∙ ap₂ (λ a b. a - b) (offset_taken offsets o n i inside) (first_taken offsets o n)

last_from : (x : ℕ) (xs : List ℕ) → last_of (x ∷ xs) ≡ slice_index (x ∷ xs) (length xs)
last_from x [] = refl
last_from x (y ∷ xs) = last_from y xs

last_at : (xs : List ℕ) → last_of xs ≡ slice_index xs (length xs - 1)
last_at [] = refl
last_at (x ∷ xs) =
    let before : length xs ≡ length (x ∷ xs) - 1 = omega arith in
    last_from x xs ∙ ap (slice_index (x ∷ xs)) before

pub last_moved : (offsets : List ℕ) (limit o n : ℕ) → are_offsets offsets limit ≡ true → o + n ≤ length offsets - 1
    → last_of (moved_offsets (cut_list offsets o (n + 1))) ≡ slice_index offsets (o + n) - slice_index offsets o
last_moved offsets limit o n sound within =
    let taken : List ℕ = cut_list offsets o (n + 1) in
    let size : length (moved_offsets taken) - 1 ≡ n =
    omega (arith, length-map taken (λ offset. offset - slice_index taken 0), taken_size offsets limit o n sound within) in
    last_at (moved_offsets taken) ∙ ap (slice_index (moved_offsets taken)) size ∙ moved_at offsets o n n (omega arith)

-- ---- offsets that don't fall

rising_back : (least : ℕ) (xs : List ℕ) → ((i : ℕ) → suc i < length xs → slice_index xs i ≤ slice_index xs (suc i))
    → (0 < length xs → least ≤ slice_index xs 0) → rising least (map pos xs) ≡ Some xs
rising_back least [] rise first = refl
rising_back least (x ∷ xs) rise first =
    let test : nat_le least x ≡ true = le-leb least x (first (omega arith)) in
    let later : rising x (map pos xs) ≡ Some xs =
    rising_back x xs (λ (i : ℕ) (inside : suc i < length xs). rise (suc i) (omega arith)) (λ (some : 0 < length xs). rise 0 (omega arith)) in
    rw (test, later) refl

less_rises : (a b c : ℕ) → a ≤ b → a - c ≤ b - c
less_rises a b c le = omega arith

moved_rise : (offsets : List ℕ) (limit o n : ℕ) → are_offsets offsets limit ≡ true → o + n ≤ length offsets - 1
    → rising 0 (map pos (moved_offsets (cut_list offsets o (n + 1)))) ≡ Some (moved_offsets (cut_list offsets o (n + 1)))
moved_rise offsets limit o n sound within =
    let taken : List ℕ = cut_list offsets o (n + 1) in
    let moved : List ℕ = moved_offsets taken in
    let size : length moved ≡ n + 1 =
    length-map taken (λ offset. offset - slice_index taken 0) ∙ taken_size offsets limit o n sound within in
    let some : 1 ≤ length offsets = first_offset offsets limit sound in
    rising_back 0 moved (λ (i : ℕ) (inside : suc i < length moved).
    let here : slice_index moved i ≡ slice_index offsets (o + i) - slice_index offsets o = moved_at offsets o n i (omega arith) in
    let next : slice_index moved (suc i) ≡ slice_index offsets (o + suc i) - slice_index offsets o =
    moved_at offsets o n (suc i) (omega arith) in
    let at : o + i + 1 ≡ o + suc i = omega arith in
    let rise : slice_index offsets (o + i) ≤ slice_index offsets (o + suc i) =
    subst (λ (j : ℕ). slice_index offsets (o + i) ≤ slice_index offsets j) at
    (offsets_rise offsets limit (o + i) 1 sound (omega arith)) in
    omega (arith, here, next, less_rises (slice_index offsets (o + i)) (slice_index offsets (o + suc i)) (slice_index offsets o) rise))
    (λ (first : 0 < length moved). omega arith)

-- ---- offsets of a width

-- a number that the width has room for
abbrev has_room : Width → ℕ → Bool
has_room w n = nat_lt n (2 ^ hbits w)

moved_room : (w : Width) (first limit : ℕ) (xs : List ℕ) → limit < 2 ^ hbits w → list_all (λ offset. nat_le offset limit) xs ≡ true
    → list_all (has_room w) (map (λ offset. offset - first) xs) ≡ true
moved_room w first limit [] small all = refl
moved_room w first limit (x ∷ xs) small all =
    let parts = and_parts (nat_le x limit) (list_all (λ offset. nat_le offset limit) xs) all in
    let below : x ≤ limit = leb-true x limit parts.0 in
    and_from (has_room w (x - first)) (list_all (has_room w) (map (λ offset. offset - first) xs))
    (lt-ltb (x - first) (2 ^ hbits w) (omega arith)) (moved_room w first limit xs small parts.1)

offset_is : (w : Width) (n : ℕ) → has_room w n ≡ true → signed_of true w (to_le_bytes w n) ≡ pos n
offset_is w n h = signed_in-number_bytes true w (pos n) (record { sfits = ltb-true n (2 ^ hbits w) h })

-- the numbers of some offsets, read one after another
numbers_back : (w : Width) (ns : List ℕ) → list_all (has_room w) ns ≡ true
    → window (λ i. signed_of true w (element_bytes (byte_len w) (flat_map (to_le_bytes w) ns) i)) 0 (length ns) ≡ map pos ns
numbers_back w ns room =
    let value : ℕ → ℤ = λ i. signed_of true w (element_bytes (byte_len w) (flat_map (to_le_bytes w) ns) i) in
    ap (window value 0) (sym (length-map ns pos))
    ∙ window_is (pos 0) value 0 (map pos ns) (λ (i : ℕ) (within : i < length (map pos ns)).
    let inside : i < length ns = omega (arith, length-map ns pos) in
    ap value (zero-add i)
    ∙ ap (signed_of true w) (element_back (to_le_bytes w) (byte_len w) (has_room w) (λ n h. length-to_le_bytes w n) ns i 0 room inside)
    ∙ offset_is w (get_or ns i 0) (passes_at (has_room w) ns i 0 room inside) ∙ sym (get_or-map pos ns i 0))

bigger : (a size total : ℕ) → a + size ≡ total → size ≤ total
bigger a size total e = omega arith

one_of_them : (n size total : ℕ) → (n + 1) * size ≡ total → size ≤ total
one_of_them n size total e = bigger (n * size) size total (sym (suc-mul n size) ∙ ap (λ k. k * size) (sym (add-one n)) ∙ e)

and_false : (b : Bool) → (b && false) ≡ false
and_false true = refl
and_false false = refl

-- the offsets of n slots from slot o on, less the first one, where they stand among written buffers
pub moved_read : (w : Width) (offsets : List ℕ) (limit o n : ℕ) (source : Source) (all : Encoded) (k : ℕ) (rest : List (List ℕ))
    → are_offsets offsets limit ≡ true → limit < 2 ^ hbits w → o + n ≤ length offsets - 1 → HoldsColumns source all
    → StandsAt all.buffers k (moved_bytes true w (cut_list offsets o (n + 1)) ∷ rest)
    → offsets_in w source k n ≡ Some (moved_offsets (cut_list offsets o (n + 1)))
unfolding offsets_in
moved_read w offsets limit o n source all k rest sound small within holds s =
    let taken : List ℕ = cut_list offsets o (n + 1) in
    let moved : List ℕ = moved_offsets taken in
    let bytes : List ℕ = flat_map (to_le_bytes w) moved in
    let parts = parts_of_3 (nat_le 1 (length offsets)) (holds_below (length offsets - 1) (rises_at offsets))
    (list_all (λ offset. nat_le offset limit) offsets) sound in
    let room : list_all (has_room w) moved ≡ true =
    moved_room w (slice_index taken 0) limit taken small (list_all-cut_list (λ offset. nat_le offset limit) offsets o (n + 1) parts.2) in
    let count : n + 1 ≡ length moved =
    sym (length-map taken (λ offset. offset - slice_index taken 0) ∙ taken_size offsets limit o n sound within) in
    let size : length moved * byte_len w ≡ length bytes =
    elements_size (to_le_bytes w) (byte_len w) (has_room w) (λ n h. length-to_le_bytes w n) moved room in
    let needed : (n + 1) * byte_len w ≡ length bytes = ap (λ m. m * byte_len w) count ∙ size in
    let enough : nat_lt (length bytes) (byte_len w) ≡ false =
    le-ltb (length bytes) (byte_len w) (one_of_them n (byte_len w) (length bytes) needed) in
    let pair = place_reads source all k bytes rest holds s in
    let numbers : buffer_at source k ((n + 1) * byte_len w) ≡ Some bytes =
    buffer_reads source all k ((n + 1) * byte_len w) bytes rest holds s needed in
    let values : window (λ i. signed_of source.is_little_endian w (element_bytes (byte_len w) bytes i)) 0 (n + 1) ≡ map pos moved =
    ap (λ little. window (λ i. signed_of little w (element_bytes (byte_len w) bytes i)) 0 (n + 1)) holds.order
    ∙ ap (window (λ i. signed_of true w (element_bytes (byte_len w) bytes i)) 0) count ∙ numbers_back w moved room in
    let found : rising 0 (map pos moved) ≡ Some moved = moved_rise offsets limit o n sound within in
    rw (pair, enough, and_false (n == 0), numbers, values, found) refl

-- ---- pieces

drop_window : {A : Type 0} (f : ℕ → A) (a m o : ℕ) → drop o (window f a m) ≡ window f (a + o) (m - o)
drop_window f a m zero =
    let at : a ≡ a + 0 = omega arith in
    let size : m ≡ m - 0 = omega arith in
    λ i. window f (at i) (size i)
drop_window f a zero (suc o) =
    let none : 0 ≡ 0 - suc o = omega arith in
    ap (window f (a + suc o)) none
drop_window f a (suc m) (suc o) =
    let at : a + 1 + o ≡ a + suc o = omega arith in
    let size : m - o ≡ suc m - suc o = omega arith in
    drop_window f (a + 1) m o ∙ (λ i. window f (at i) (size i))

take_window : {A : Type 0} (f : ℕ → A) (a m n : ℕ) → n ≤ m → take n (window f a m) ≡ window f a n
take_window f a m zero h = refl
take_window f a zero (suc n) h = absurd (omega arith)
take_window f a (suc m) (suc n) h = ap (λ xs. f a ∷ xs) (take_window f (a + 1) m n (omega arith))

-- a part of a function's values at places are its values from there on
pub part_of_window : {A : Type 0} (f : ℕ → A) (first m a k : ℕ) → a + k ≤ m → take k (drop a (window f first m)) ≡ window f (first + a) k
part_of_window f first m a k within = ap (take k) (drop_window f first m a) ∙ take_window f (first + a) (m - a) k (omega arith)

-- the bounds of the piece of slot i
pub record PieceBounds (offsets : List ℕ) (o n i : ℕ) : Type 0 where
  pub start : slice_index (moved_offsets (cut_list offsets o (n + 1))) i ≡ slice_index offsets (o + i) - slice_index offsets o
  pub size : slice_index (moved_offsets (cut_list offsets o (n + 1))) (i + 1) - slice_index (moved_offsets (cut_list offsets o (n + 1))) i
      ≡ slice_index offsets (o + i + 1) - slice_index offsets (o + i)
  pub first : slice_index offsets o ≤ slice_index offsets (o + i)
  pub rises : slice_index offsets (o + i) ≤ slice_index offsets (o + i + 1)
  pub last : slice_index offsets (o + i + 1) ≤ slice_index offsets (o + n)

pub piece_bounds : (offsets : List ℕ) (limit o n i : ℕ) → are_offsets offsets limit ≡ true → o + n ≤ length offsets - 1 → i < n
    → PieceBounds offsets o n i
piece_bounds offsets limit o n i sound within inside =
    let some : 1 ≤ length offsets = first_offset offsets limit sound in
    let at : o + (i + 1) ≡ o + i + 1 = omega arith in
    let end : o + i + 1 + (n - (i + 1)) ≡ o + n = omega arith in
    let start : slice_index (moved_offsets (cut_list offsets o (n + 1))) i ≡ slice_index offsets (o + i) - slice_index offsets o =
    moved_at offsets o n i (omega arith) in
    let next : slice_index (moved_offsets (cut_list offsets o (n + 1))) (i + 1) ≡ slice_index offsets (o + i + 1) - slice_index offsets o =
    moved_at offsets o n (i + 1) (omega arith) ∙ ap (λ j. slice_index offsets j - slice_index offsets o) at in
    let first : slice_index offsets o ≤ slice_index offsets (o + i) = offsets_rise offsets limit o i sound (omega arith) in
    let rises : slice_index offsets (o + i) ≤ slice_index offsets (o + i + 1) = offsets_rise offsets limit (o + i) 1 sound (omega arith) in
    let last : slice_index offsets (o + i + 1) ≤ slice_index offsets (o + n) =
    subst (λ (j : ℕ). slice_index offsets (o + i + 1) ≤ slice_index offsets j) end
    (offsets_rise offsets limit (o + i + 1) (n - (i + 1)) sound (omega arith)) in
    record {
      start = start;
      size = ap₂ (λ a b. a - b) next start
          ∙ less_twice (slice_index offsets (o + i + 1)) (slice_index offsets (o + i)) (slice_index offsets o) first;
      first = first;
      rises = rises;
      last = last;
    }
  where
    less_twice : (b a c : ℕ) → c ≤ a → b - c - (a - c) ≡ b - a
    less_twice b a c le = omega arith

back_again : (a c : ℕ) → c ≤ a → c + (a - c) ≡ a
back_again a c le = omega arith

fits_between : (c a b l : ℕ) → c ≤ a → a ≤ b → b ≤ l → a - c + (b - a) ≤ l - c
fits_between c a b l h j k = omega arith

-- among the values of a function between the first and the last offset
pub piece_of_window : {A : Type 0} (f : ℕ → A) (offsets : List ℕ) (limit o n i : ℕ) → are_offsets offsets limit ≡ true
    → o + n ≤ length offsets - 1 → i < n
    → piece_at (moved_offsets (cut_list offsets o (n + 1)))
    (window f (slice_index offsets o) (slice_index offsets (o + n) - slice_index offsets o)) i
    ≡ window f (slice_index offsets (o + i)) (slice_index offsets (o + i + 1) - slice_index offsets (o + i))
piece_of_window f offsets limit o n i sound within inside =
    let bounds = piece_bounds offsets limit o n i sound within inside in
    let c : ℕ = slice_index offsets o in
    let a : ℕ = slice_index offsets (o + i) in
    let b : ℕ = slice_index offsets (o + i + 1) in
    let l : ℕ = slice_index offsets (o + n) in
    ap₂ (λ k s. take k (drop s (window f c (l - c)))) bounds.size bounds.start
    ∙ part_of_window f c (l - c) (a - c) (b - a) (fits_between c a b l bounds.first bounds.rises bounds.last)
    ∙ ap (λ s. window f s (b - a)) (back_again a c bounds.first)

-- among the bytes between the first and the last offset
pub piece_of_bytes : (offsets content : List ℕ) (limit o n i : ℕ) → are_offsets offsets limit ≡ true → o + n ≤ length offsets - 1 → i < n
    → piece_at (moved_offsets (cut_list offsets o (n + 1))) (between_offsets (cut_list offsets o (n + 1)) content) i
    ≡ string_at offsets content (o + i)
piece_of_bytes offsets content limit o n i sound within inside =
    let bounds = piece_bounds offsets limit o n i sound within inside in
    let taken : List ℕ = cut_list offsets o (n + 1) in
    let c : ℕ = slice_index offsets o in
    let a : ℕ = slice_index offsets (o + i) in
    let b : ℕ = slice_index offsets (o + i + 1) in
    let l : ℕ = slice_index offsets (o + n) in
    let p : ℕ = a - c in
    let q : ℕ = l - c - (a - c) in
    let sum : l - c ≡ p + q = sums c a b l bounds.first bounds.rises bounds.last in
    ap (λ xs. piece_at (moved_offsets taken) xs i)
    (ap₂ (λ x y. slice_range content x y) (first_taken offsets o n) (last_taken offsets limit o n sound within))
    ∙ ap₂ (λ k s. take k (drop s (take (l - c) (drop c content)))) bounds.size bounds.start
    ∙ ap (λ m. take (b - a) (drop p (take m (drop c content)))) sum
    ∙ ap (take (b - a)) (drop-take p q (drop c content) ∙ ap (take q) (drop-drop p c content))
    ∙ take-take (b - a) q (drop (c + p) content) (room c a b l bounds.first bounds.rises bounds.last)
    ∙ ap (λ s. take (b - a) (drop s content)) (back_again a c bounds.first)
  where
    sums : (c a b l : ℕ) → c ≤ a → a ≤ b → b ≤ l → l - c ≡ a - c + (l - c - (a - c))
    sums c a b l h j k = omega arith

    room : (c a b l : ℕ) → c ≤ a → a ≤ b → b ≤ l → b - a ≤ l - c - (a - c)
    room c a b l h j k = omega arith

-- how many bytes stand between the first and the last offset
pub between_size : (offsets content : List ℕ) (limit o n : ℕ) → are_offsets offsets limit ≡ true → limit ≤ length content
    → o + n ≤ length offsets - 1
    → last_of (moved_offsets (cut_list offsets o (n + 1))) ≡ length (between_offsets (cut_list offsets o (n + 1)) content)
between_size offsets content limit o n sound small within =
    let c : ℕ = slice_index offsets o in
    let l : ℕ = slice_index offsets (o + n) in
    let some : 1 ≤ length offsets = first_offset offsets limit sound in
    let last : l ≤ limit = offset_within offsets limit (o + n) sound (omega arith) in
    let rest : length (drop c content) ≡ length content - c = length-drop c content in
    last_moved offsets limit o n sound within
    ∙ sym (length-take-le (l - c) (drop c content) (omega arith))
    ∙ sym (ap length (ap₂ (λ x y. slice_range content x y) (first_taken offsets o n) (last_taken offsets limit o n sound within)))
