-- Ranges of the bits of two bitmaps.
use Rattle.std.proofs.Common.{◌≡◌, ◌∙◌, ℕ, ◌+◌, ◌-◌, ◌<◌, ◌≤◌, Bool, false, List, length, take, drop, get_or, ap, sym, arith}
use Rattle.std.proofs.lemmas.List.{get_or-take, get_or-drop, get_or_default, length-take, length-drop, same_lists}
use Rattle.std.specs.Prelude.{slice_range}
use Rattle.nested_arrays_flat.specs.columns.Slots.{Slot, truth}

-- a bit of a range
range_bit : (bits : List Bool) (i n k : ℕ) → k < n → get_or (slice_range bits i (i + n)) k false ≡ get_or bits (i + k) false
range_bit bits i n k inside =
    let width : i + n - i ≡ n = omega arith in
    ap (λ m. get_or (take m (drop i bits)) k false) width ∙ get_or-take n (drop i bits) k false inside ∙ get_or-drop i bits k false

range_len : (bits : List Bool) (i n : ℕ) → i + n ≤ length bits → length (slice_range bits i (i + n)) ≡ n
range_len bits i n within = omega (arith, length-take (i + n - i) (drop i bits), length-drop i bits)

-- the bits of ranges that are the same
pub bits_of_same_ranges : (left right : List Bool) (i j n : ℕ) → slice_range left i (i + n) ≡ slice_range right j (j + n) →
    (k : ℕ) → k < n → get_or left (i + k) false ≡ get_or right (j + k) false
bits_of_same_ranges left right i j n same k inside =
    sym (range_bit left i n k inside) ∙ ap (λ bits. get_or bits k false) same ∙ range_bit right j n k inside

-- ranges whose bits are the same
pub ranges_of_same_bits : (left right : List Bool) (i j n : ℕ) → i + n ≤ length left → j + n ≤ length right →
    ((k : ℕ) → k < n → get_or left (i + k) false ≡ get_or right (j + k) false) → slice_range left i (i + n) ≡ slice_range right j (j + n)
ranges_of_same_bits left right i j n left_within right_within same =
    let count = range_len left i n left_within in
    let others = range_len right j n right_within in
    same_lists (slice_range left i (i + n)) (slice_range right j (j + n)) (count ∙ sym others) (λ (k : ℕ) (d : Bool) inside.
    get_or_default (slice_range left i (i + n)) k d false inside ∙ range_bit left i n k (omega (arith, count, inside))
    ∙ same k (omega (arith, count, inside)) ∙ sym (range_bit right j n k (omega (arith, count, inside)))
    ∙ get_or_default (slice_range right j (j + n)) k false d (omega (arith, count, others, inside)))

abbrev truth_of : Slot → Bool
truth_of (truth b) = b
truth_of _ = false

-- booleans that are the same as slots
pub same_truth : (b c : Bool) → truth b ≡ truth c → b ≡ c
same_truth b c same = ap truth_of same
