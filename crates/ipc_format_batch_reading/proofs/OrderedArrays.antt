-- Arrays that are chosen from the places whose items come to stand at each place: they are put back, and as long as before.
use Rattle.std.proofs.Common.{◌≡◌, ◌∙◌, ℕ, zero, suc, ◌+◌, ◌<◌, ◌≤◌, true, List, [], ◌∷◌, length, refl, sym, ap, subst, arith}
use Rattle.std.specs.Prelude.{Some, nat_lt, slice_get}
use Rattle.std.specs.List.{AllByRecursion, AllZip, cons_option, range_with_len}
use Rattle.std.proofs.lemmas.Bool.{and_from, lt-ltb}
use Rattle.std.proofs.lemmas.Option.{none-some, same_Some}
use Rattle.ipc_format_reading.specs.array_reading.Chunks.{AreAsLong, HaveLength, rows_of}
use Rattle.ipc_format_reading.specs.columns.StoredColumns.{Column, column_len}
use Rattle.ipc_format_reading.specs.columns.Tables.{chosen}
use Rattle.ipc_format_batch_reading.specs.Projections.{are_below, put_back}
use Rattle.ipc_format_batch_reading.proofs.PutBack.{all_back, zip_back}

-- ---- sources are places

all_below : (from count most : ℕ) → from + count ≤ most → AllByRecursion (λ k. k < most) (range_with_len from count)
all_below from zero most inside = tt
all_below from (suc count) most inside = (omega arith, all_below (from + 1) count most (omega arith))

below_all : (most : ℕ) (ks : List ℕ) → AllByRecursion (λ k. k < most) ks → are_below most ks ≡ true
below_all most [] all = refl
below_all most (k ∷ ks) all = and_from (nat_lt k most) (are_below most ks) (lt-ltb k most all.0) (below_all most ks all.1)

-- each source is one of the places
pub sources_below : (count : ℕ) (entries : List (ℕ × ℕ)) (sources : List ℕ) → sources ≡ put_back entries (range_with_len 0 count)
    → are_below count sources ≡ true
sources_below count entries sources is =
    ap (are_below count) is
    ∙ below_all count (put_back entries (range_with_len 0 count))
    (all_back (λ (source : ℕ). source < count) (range_with_len 0 count) entries (all_below 0 count count (omega arith)))

-- ---- what is chosen from them

-- an item stands at a place
abbrev Stands : {A : Type 0} → List A → ℕ → A → Type 0
Stands items k x = slice_get items k ≡ Some x

stand_from : {A : Type 0} (all xs : List A) (from : ℕ) → ((k : ℕ) → slice_get all (from + k) ≡ slice_get xs k)
    → AllZip (Stands all) (range_with_len from (length xs)) xs
stand_from all [] from there = tt
stand_from all (x ∷ xs) from there =
    let here : from ≡ from + 0 = omega arith in
    (ap (slice_get all) here ∙ there 0, stand_from all xs (from + 1) later)
  where
    later : (k : ℕ) → slice_get all (from + 1 + k) ≡ slice_get xs k
    later k = let same : from + 1 + k ≡ from + suc k = omega arith in ap (slice_get all) same ∙ there (suc k)

chosen_standing : {A : Type 0} (all : List A) (ks : List ℕ) (xs : List A) → AllZip (Stands all) ks xs → chosen ks all ≡ xs
chosen_standing all [] [] stand = refl
chosen_standing all [] (x ∷ xs) stand = absurd stand
chosen_standing all (k ∷ ks) [] stand = absurd stand
chosen_standing all (k ∷ ks) (x ∷ xs) stand =
    ap (λ found. cons_option found (chosen ks all)) stand.0 ∙ ap (λ rest. x ∷ rest) (chosen_standing all ks xs stand.1)

chosen_sources : {A : Type 0} (items : List A) (entries : List (ℕ × ℕ))
    → chosen (put_back entries (range_with_len 0 (length items))) items ≡ put_back entries items
chosen_sources items entries =
    chosen_standing items (put_back entries (range_with_len 0 (length items))) (put_back entries items)
    (zip_back (Stands items) (range_with_len 0 (length items)) items entries (stand_from items items 0 same))
  where
    same : (k : ℕ) → slice_get items (0 + k) ≡ slice_get items k
    same k = let is : 0 + k ≡ k = omega arith in ap (slice_get items) is

-- all of them are what is put back
pub ordered_back : {A : Type 0} (items all : List A) (entries : List (ℕ × ℕ)) (ordered : List A) (sources : List ℕ) → all ≡ items
    → sources ≡ put_back entries (range_with_len 0 (length all)) → ordered ≡ chosen sources all → ordered ≡ put_back entries items
ordered_back items all entries ordered sources same is made =
    made ∙ ap (λ ks. chosen ks all) is ∙ chosen_sources all entries ∙ ap (put_back entries) same

-- ---- lengths

long_each : {A : Type 0} (column : A → Column) (count : ℕ) (arrays : List A) → HaveLength column count arrays
    → AllByRecursion (λ array. column_len (column array) ≡ count) arrays
long_each column count [] have = tt
long_each column count (array ∷ arrays) have = (have 0 array refl, long_each column count arrays (λ k other is. have (suc k) other is))

each_long : {A : Type 0} (column : A → Column) (count : ℕ) (arrays : List A)
    → AllByRecursion (λ array. column_len (column array) ≡ count) arrays → HaveLength column count arrays
each_long column count [] all k array is = absurd (none-some array is)
each_long column count (first ∷ arrays) all zero array is = ap (λ a. column_len (column a)) (sym (same_Some first array is)) ∙ all.0
each_long column count (first ∷ arrays) all (suc k) array is = each_long column count arrays all.1 k array is

as_first : {A : Type 0} (column : A → Column) (count : ℕ) (arrays : List A)
    → AllByRecursion (λ array. column_len (column array) ≡ count) arrays → AreAsLong column arrays
as_first column count [] all k array is = absurd (none-some array is)
as_first column count (first ∷ arrays) all k array is = each_long column count (first ∷ arrays) all k array is ∙ sym all.0

-- an array as it is seen
abbrev pub itself : Column → Column
itself array = array

-- arrays that are put back are as long as before
pub long_back : {A : Type 0} (column : A → Column) (arrays : List A) (entries : List (ℕ × ℕ)) (ordered : List A) → AreAsLong column arrays
    → ordered ≡ put_back entries arrays → AreAsLong column ordered
long_back column arrays entries ordered long is =
    subst (AreAsLong column) (sym is)
    (as_first column (rows_of column arrays) (put_back entries arrays)
    (all_back (λ array. column_len (column array) ≡ rows_of column arrays) arrays entries (long_each column (rows_of column arrays) arrays long)))
