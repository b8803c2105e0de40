-- Masks of columns whose slots stand one behind the other.
use Rattle.std.proofs.Common.{◌≡◌, ◌∙◌, ◌<◌, ◌+◌, ℕ, List, ◌++◌, length, replicate, get_or, Bool, true, false, not, refl, sym, ap, arith}
use Rattle.std.specs.Prelude.{Option, Some, None, ◌==◌, ◌||◌, if◌then◌else◌}
use Rattle.std.specs.List.{list_any}
use Rattle.std.proofs.lemmas.Bool.{cases_Bool, eq-eqb, eqb-true, or_left}
use Rattle.std.proofs.lemmas.List.{get_or-append-add, get_or_append_left, get_or-replicate, length-append, length-map, length-replicate, map-append}
use Rattle.std.proofs.lemmas.List.Folds.{list_any-append}
use mathlib.Core.Logic.{inl, inr}
use Rattle.nested_arrays_sized_builders.specs.nulls.columnar_memory.Bits.{unset_count}
use Rattle.nested_arrays_sized_builders.specs.nulls.columns.FreshColumns.{is_valid, mask_of}
use Rattle.nested_arrays_sized_builders.specs.nulls.columns.Slots.{Slot}
use Rattle.nested_arrays_sized_builders.specs.nulls.columns.SoundColumns.{mask_fits}
use Rattle.nested_arrays_sized_builders.specs.nulls.columns.StoredColumns.{is_valid_at}
use Rattle.nested_arrays_sized_builders.specs.flat_arrays.Flat.{marks}
use Rattle.nested_arrays_sized_builders.specs.flat_arrays.Growth.{with_marks}
use Rattle.nested_arrays_sized_builders.specs.cells.parts.Marks.{mask_of_marks}
use Rattle.nested_arrays_sized_builders.specs.cells.taken.builders.columns.OpenParts.{marks_of, mask_from}
use Rattle.nested_arrays_sized_builders.proofs.columns_lemmas.Masks.{all_valid, marks_away, marks_there, mask_away, mask_by_count, mask_is}
use Rattle.nested_arrays_sized_builders.proofs.columns_lemmas.Masks.{mask_there}

-- ---- whether a mark is false

none_unset : (bs : List Bool) → (unset_count bs == 0) ≡ true → list_any not bs ≡ false
none_unset bs h = marks_away bs (mask_by_count bs ∙ ap (λ (b : Bool). if b then None else Some bs) h)

some_unset : (bs : List Bool) → (unset_count bs == 0) ≡ false → list_any not bs ≡ true
some_unset bs h = (marks_there bs bs (mask_by_count bs ∙ ap (λ (b : Bool). if b then None else Some bs) h)).0

-- the mask that marks bring where there was none, by whether one of them is false
abbrev begun : ℕ → List Bool → Bool → Option (List Bool)
begun n bs b = if b then None else Some (replicate n true ++ bs)

-- ---- the marks of the first ones

pub mark_before : (n : ℕ) (mask : Option (List Bool)) (bs : List Bool) (i : ℕ) → mask_fits mask n ≡ true → i < n
    → is_valid_at (with_marks n mask bs) i ≡ is_valid_at mask i
mark_before n None bs i h lt = chosen (unset_count bs == 0)
  where
    chosen : (b : Bool) → is_valid_at (begun n bs b) i ≡ true
    chosen true = refl
    chosen false =
        get_or_append_left (replicate n true) bs false i (omega (arith, lt, length-replicate n true)) ∙ get_or-replicate n i true false lt
mark_before n (Some ms) bs i h lt = get_or_append_left ms bs false i (omega (arith, lt, eqb-true (length ms) n h))

-- ---- the marks behind

-- marks behind others, at a place
behind : (ms bs : List Bool) (n i : ℕ) → length ms ≡ n → get_or (ms ++ bs) (n + i) false ≡ get_or bs i false
behind ms bs n i long = ap (λ (k : ℕ). get_or (ms ++ bs) (k + i) false) (sym long) ∙ get_or-append-add ms bs i false

given_behind : (n : ℕ) (mask : Option (List Bool)) (bs : List Bool) (i : ℕ) → mask_fits mask n ≡ true → i < length bs
    → is_valid_at (with_marks n mask bs) (n + i) ≡ get_or bs i false
given_behind n None bs i h lt =
    elim (cases_Bool (unset_count bs == 0)) [
      | inl none ↦
          ap (λ (b : Bool). is_valid_at (begun n bs b) (n + i)) none
          ∙ sym (ap (λ (ms : List Bool). get_or ms i false) (all_valid bs (none_unset bs none)) ∙ get_or-replicate (length bs) i true false lt)
      | inr some ↦
          ap (λ (b : Bool). is_valid_at (begun n bs b) (n + i)) some ∙ behind (replicate n true) bs n i (length-replicate n true)
    ]
given_behind n (Some ms) bs i h lt = behind ms bs n i (eqb-true (length ms) n h)

marks_say : (m : ℕ) (mask : Option (List Bool)) (i : ℕ) → i < m → get_or (marks m mask) i false ≡ is_valid_at mask i
marks_say m None i lt = get_or-replicate m i true false lt
marks_say m (Some ms) i lt = refl

marks_counted : (m : ℕ) (mask : Option (List Bool)) → mask_fits mask m ≡ true → length (marks m mask) ≡ m
marks_counted m None h = length-replicate m true
marks_counted m (Some ms) h = eqb-true (length ms) m h

pub mark_behind : (n m : ℕ) (mask more : Option (List Bool)) (i : ℕ) → mask_fits mask n ≡ true → mask_fits more m ≡ true → i < m
    → is_valid_at (with_marks n mask (marks m more)) (n + i) ≡ is_valid_at more i
mark_behind n m mask more i h own lt =
    given_behind n mask (marks m more) i h (omega (arith, lt, marks_counted m more own)) ∙ marks_say m more i lt

-- ---- the mask of both

pub marks_fit_both : (n m : ℕ) (mask more : Option (List Bool)) → mask_fits mask n ≡ true → mask_fits more m ≡ true
    → mask_fits (with_marks n mask (marks m more)) (n + m) ≡ true
marks_fit_both n m None more h own = chosen (unset_count (marks m more) == 0)
  where
    chosen : (b : Bool) → mask_fits (begun n (marks m more) b) (n + m) ≡ true
    chosen true = refl
    chosen false =
        eq-eqb (length (replicate n true ++ marks m more)) (n + m)
        (omega (arith, length-append (replicate n true) (marks m more), length-replicate n true, marks_counted m more own))
marks_fit_both n m (Some ms) more h own =
    eq-eqb (length (ms ++ marks m more)) (n + m)
    (omega (arith, length-append ms (marks m more), eqb-true (length ms) n h, marks_counted m more own))

marks_are : (m : ℕ) (more : Option (List Bool)) (bs : List Bool) → length bs ≡ m → more ≡ mask_from bs → marks m more ≡ bs
marks_are m None bs long is =
    let none = marks_away bs (sym is) in ap (λ (k : ℕ). replicate k true) (sym long) ∙ sym (all_valid bs none)
marks_are m (Some given) bs long is = (marks_there bs given (sym is)).1

grown_marks : (n : ℕ) (mask : Option (List Bool)) (ms bs : List Bool) → length ms ≡ n → mask ≡ mask_from ms
    → with_marks n mask bs ≡ mask_from (ms ++ bs)
grown_marks n None ms bs long is =
    let none = marks_away ms (sym is) in
    let all : ms ≡ replicate n true = all_valid ms none ∙ ap (λ (k : ℕ). replicate k true) long in
    let both = list_any-append not ms bs ∙ ap (λ (b : Bool). b || list_any not bs) none in
    elim (cases_Bool (unset_count bs == 0)) [
      | inl unset ↦ ap (begun n bs) unset ∙ sym (mask_away (ms ++ bs) (both ∙ none_unset bs unset))
      | inr some ↦
          ap (begun n bs) some ∙ sym (mask_there (ms ++ bs) (both ∙ some_unset bs some) ∙ ap (λ (zs : List Bool). Some (zs ++ bs)) all)
    ]
grown_marks n (Some given) ms bs long is =
    let there = marks_there ms given (sym is) in
    let some = list_any-append not ms bs ∙ or_left (list_any not ms) (list_any not bs) there.0 in
    sym (mask_there (ms ++ bs) some ∙ ap (λ (zs : List Bool). Some (zs ++ bs)) (sym there.1))

-- the mask of the slots of both
pub mask_of_both : (n m : ℕ) (mask more : Option (List Bool)) (xs ys : List Slot) → length xs ≡ n → length ys ≡ m → mask ≡ mask_of xs
    → more ≡ mask_of ys → with_marks n mask (marks m more) ≡ mask_of (xs ++ ys)
mask_of_both n m mask more xs ys long own is other =
    let first : length (marks_of xs) ≡ n = length-map xs is_valid ∙ long in
    let second : length (marks_of ys) ≡ m = length-map ys is_valid ∙ own in
    grown_marks n mask (marks_of xs) (marks m more) first (is ∙ mask_is xs)
    ∙ ap (λ (bs : List Bool). mask_from (marks_of xs ++ bs)) (marks_are m more (marks_of ys) second (other ∙ mask_is ys))
    ∙ sym (mask_is (xs ++ ys) ∙ ap mask_from (map-append is_valid xs ys))

-- masks that are there exactly where a mark is false, of as many marks as there are
pub mask_of_marks_both : (ms bs : List Bool) (n m : ℕ) → length ms ≡ n → length bs ≡ m
    → with_marks n (mask_of_marks ms) (marks m (mask_of_marks bs)) ≡ mask_of_marks (ms ++ bs)
mask_of_marks_both ms bs n m long own =
    grown_marks n (mask_of_marks ms) ms (marks m (mask_of_marks bs)) long (sym (mask_by_count ms))
    ∙ ap (λ (zs : List Bool). mask_from (ms ++ zs)) (marks_are m (mask_of_marks bs) bs own (sym (mask_by_count bs)))
    ∙ mask_by_count (ms ++ bs)
