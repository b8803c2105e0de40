-- Columns of which the first ones are cut back.
use Rattle.std.proofs.Common.{◌≡◌, ◌∙◌, ℕ, zero, suc, ◌+◌, ◌<◌, ◌≤◌, List, [], ◌∷◌, length, map, take, get_or, refl, sym, ap, ap₂, arith}
use Rattle.std.proofs.Common.{add-one}
use Rattle.std.specs.Prelude.{slice_set}
use Rattle.std.proofs.lemmas.List.{take_at, take_all, get_or_default}
use Rattle.tables_chunks.specs.ipc_format.columns.Slots.{Slot}
use Rattle.nested_arrays_cells.specs.parts.Open.{Open, opened, first_slots}
use Rattle.tables_rows.specs.Columns.{cut_back, emptied, types_of, open_count, rows_of, with_each, AreLong}

pub cut_none : (held : ℕ) (columns : List Open) → columns ≡ cut_back 0 held columns
cut_none held columns = refl

pub cut_count : (count held : ℕ) (columns : List Open) → length (cut_back count held columns) ≡ length columns
cut_count zero held columns = refl
cut_count (suc count) held [] = refl
cut_count (suc count) held (column ∷ columns) = ap suc (cut_count count held columns)

-- the next column is as it was
pub cut_at : (k held : ℕ) (columns : List Open) (d : Open) → k < length columns → get_or (cut_back k held columns) k d ≡ get_or columns k d
cut_at k held [] d inside = absurd (omega arith)
cut_at zero held (column ∷ columns) d inside = refl
cut_at (suc k) held (column ∷ columns) d inside = cut_at k held columns d (omega arith)

set_at : (k held : ℕ) (columns : List Open) (d : Open) → k < length columns
    → slice_set (cut_back k held columns) k (first_slots (get_or columns k d) held) ≡ cut_back (suc k) held columns
set_at k held [] d inside = absurd (omega arith)
set_at zero held (column ∷ columns) d inside = refl
set_at (suc k) held (column ∷ columns) d inside = ap (λ others. first_slots column held ∷ others) (set_at k held columns d (omega arith))

-- the column that is next, as it stands among those of which the first are cut back
module _ (k held : ℕ) (columns now : List Open) (column : Open) (inside : k < length columns) (kept : now ≡ cut_back k held columns)
    (own : column ≡ get_or now k column) where
  pub column_there : (d : Open) → column ≡ get_or columns k d
  column_there d =
      own ∙ ap (λ others. get_or others k column) kept ∙ cut_at k held columns column inside ∙ get_or_default columns k column d inside

  -- once it is cut back too
  pub one_more_cut : (new : Open) → new ≡ first_slots column held → slice_set now k new ≡ cut_back (k + 1) held columns
  one_more_cut new cut =
      ap₂ (λ (others : List Open) other. slice_set others k other) kept (cut ∙ ap (λ (o : Open). first_slots o held) (column_there column))
      ∙ set_at k held columns column inside ∙ ap (λ n. cut_back n held columns) (sym (add-one k))

pub cut_all : (count held : ℕ) (columns : List Open) → length columns ≤ count
    → cut_back count held columns ≡ map (λ (column : Open). first_slots column held) columns
cut_all zero held [] past = refl
cut_all zero held (column ∷ columns) past = absurd (omega arith)
cut_all (suc count) held [] past = refl
cut_all (suc count) held (column ∷ columns) past = ap (λ others. first_slots column held ∷ others) (cut_all count held columns (omega arith))

-- ---- columns without their slots

pub emptied_again : (count : ℕ) (columns : List Open) → map emptied (cut_back count 0 columns) ≡ map emptied columns
emptied_again zero columns = refl
emptied_again (suc count) [] = refl
emptied_again (suc count) (column ∷ columns) = ap (λ others. emptied column ∷ others) (emptied_again count columns)

pub emptied_types : (columns : List Open) → types_of (map emptied columns) ≡ types_of columns
emptied_types [] = refl
emptied_types (column ∷ columns) = ap (λ types. column.data_type ∷ types) (emptied_types columns)

pub emptied_long : (columns : List Open) → AreLong 0 (map emptied columns)
emptied_long [] = λ k d inside. absurd (omega arith)
emptied_long (column ∷ columns) = each (emptied_long columns)
  where
    each : AreLong 0 (map emptied columns) → AreLong 0 (emptied column ∷ map emptied columns)
    each others zero d inside = refl
    each others (suc k) d inside = others k d (omega arith)

pub emptied_count : (columns : List Open) → open_count (map emptied columns) ≡ 0
emptied_count [] = refl
emptied_count (column ∷ columns) = refl

pub emptied_rows : (columns : List Open) → rows_of (map emptied columns) ≡ []
emptied_rows [] = refl
emptied_rows (column ∷ columns) = refl

-- ---- one slot more in the first ones, and these cut back again

pub none_each : (columns : List Open) → columns ≡ with_each columns []
none_each [] = refl
none_each (column ∷ columns) = refl

taken_back : (k held : ℕ) (columns : List Open) (slots : List Slot) → AreLong held columns
    → cut_back k held (with_each columns (take k slots)) ≡ columns
taken_back zero held columns slots long = sym (none_each columns)
taken_back (suc k) held [] slots long = refl
taken_back (suc k) held (column ∷ columns) [] long =
    ap₂ (λ (o : Open) os. o ∷ os) (λ j. opened column.data_type (take_all held column.slots (omega (arith, long 0 column (omega arith))) j))
    (ap (cut_back k held) (none_each columns ∙ ap (with_each columns) (sym (take_nil k))) ∙ taken_back k held columns [] (behind long))
  where
    take_nil : (k : ℕ) → take {A = Slot} k [] ≡ []
    take_nil zero = refl
    take_nil (suc k) = refl

    behind : AreLong held (column ∷ columns) → AreLong held columns
    behind long k d inside = long (suc k) d (omega arith)
taken_back (suc k) held (column ∷ columns) (slot ∷ slots) long =
    ap₂ (λ (o : Open) os. o ∷ os) (λ j. opened column.data_type (take_at column.slots (slot ∷ []) held (long 0 column (omega arith)) j))
    (taken_back k held columns slots (λ j d inside. long (suc j) d (omega arith)))

pub cut_again : (k held : ℕ) (columns now new : List Open) (slots : List Slot) → AreLong held columns → now ≡ with_each columns (take k slots)
    → new ≡ cut_back k held now → new ≡ columns
cut_again k held columns now new slots long grown cut = cut ∙ ap (cut_back k held) grown ∙ taken_back k held columns slots long
