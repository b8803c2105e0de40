-- The chosen columns of a batch under a limit are the first slots of its columns, and their rows are its first rows with the chosen slots.
use Rattle.std.proofs.Common.{◌≡◌, ◌∙◌, ℕ, zero, suc, ◌+◌, ◌<◌, Bool, true, List, [], ◌∷◌, length, map, get_or, take, refl, sym, ap}
use Rattle.std.proofs.Common.{ap₂, subst, arith, zero-add, nat_lt, ◌==◌}
use Rattle.std.specs.Prelude.{Option, Some, None, slice_get, slice_index_or}
use Rattle.std.specs.List.{list_all, cons_option}
use Rattle.std.proofs.lemmas.Bool.{and_parts, and_from, eq-eqb, eqb-true, ltb-true}
use Rattle.std.proofs.lemmas.List.{length-take-le, get_or-take}
use Rattle.ipc_format_grammar.specs.flatbuffers.Reading.{guard}
use Rattle.ipc_format_grammar.specs.flatbuffers.FlatBuffers as flat
use Rattle.ipc_format_grammar.specs.columnar_memory.declared.Field.{Field}
use Rattle.ipc_format_grammar.specs.columns.Slots.{Slot, null, window}
use Rattle.ipc_format_grammar.specs.columns.Tables.{rows_of_columns, row_at, batch_rows, chosen}
use Rattle.ipc_format_grammar.proofs.columns_lemmas.Windows.{window_same}
use Rattle.ipc_format_grammar.specs.Columns.{Source, Dictionary, taken_of, have_length}
use Rattle.ipc_format_grammar.specs.Dictionaries.{Entry, Layout, source_in}
use Rattle.ipc_format_grammar.specs.Tables.{column_place, column_in, columns_from, agree_in_length, batch_in, chosen_columns, chosen_batch_in}
use Rattle.ipc_format_laws.proofs.Firsts.{came_of, bind_is, same_value, guarded, taken_most, first_same}
use Rattle.ipc_format_laws.proofs.FirstColumns.{cut_to}
use Rattle.ipc_format_laws.proofs.FirstTypes.{types_cut}

-- ---- columns

-- each of some columns, from column k on, is read for its field
columns_count : (layout : Layout) (standing : List Dictionary) (source : Source) (k : ℕ) (fields : List Field) (columns : List (List Slot))
    → columns_from layout standing source k fields ≡ Some columns → length columns ≡ length fields
columns_count layout standing source k [] columns e = ap length (sym (same_value [] columns e))
columns_count layout standing source k (field ∷ fields) columns e =
    let column = came_of {A = List Slot} (column_in layout standing source None k field) _ columns e in
    let others = came_of {A = List (List Slot)} (columns_from layout standing source (k + 1) fields) _ columns column.2 in
    ap length (sym (same_value (column.0 ∷ others.0) columns others.2))
    ∙ ap suc (columns_count layout standing source (k + 1) fields others.0 others.1)

column_at : (layout : Layout) (standing : List Dictionary) (source : Source) (k : ℕ) (fields : List Field) (columns : List (List Slot))
    → columns_from layout standing source k fields ≡ Some columns → (j : ℕ) (field : Field) → slice_get fields j ≡ Some field
    → column_in layout standing source None (k + j) field ≡ Some (get_or columns j [])
column_at layout standing source k [] columns e j field there = absurd cc
column_at layout standing source k (first ∷ fields) columns e zero field there =
    let column = came_of {A = List Slot} (column_in layout standing source None k first) _ columns e in
    let others = came_of {A = List (List Slot)} (columns_from layout standing source (k + 1) fields) _ columns column.2 in
    let whole : column.0 ∷ others.0 ≡ columns = same_value (column.0 ∷ others.0) columns others.2 in
    let place : k + 0 ≡ k = omega arith in
    ap₂ (λ i u. column_in layout standing source None i u) place (sym (same_value first field there)) ∙ column.1
    ∙ ap (λ xs. Some (get_or xs 0 [])) whole
column_at layout standing source k (first ∷ fields) columns e (suc j) field there =
    let column = came_of {A = List Slot} (column_in layout standing source None k first) _ columns e in
    let others = came_of {A = List (List Slot)} (columns_from layout standing source (k + 1) fields) _ columns column.2 in
    let whole : column.0 ∷ others.0 ≡ columns = same_value (column.0 ∷ others.0) columns others.2 in
    let place : k + suc j ≡ k + 1 + j = omega arith in
    ap (λ i. column_in layout standing source None i field) place
    ∙ column_at layout standing source (k + 1) fields others.0 others.1 j field there ∙ ap (λ xs. Some (get_or xs (suc j) [])) whole

-- the first slots of the chosen columns
abbrev pub cut_columns : Option ℕ → List (List Slot) → List ℕ → List (List Slot)
cut_columns limit columns ks = map (λ k. cut_to limit (get_or columns k [])) ks

missing : (fields : List Field) (k : ℕ) → k < length fields → slice_get fields k ≡ None → ⊥
missing [] k inside e = absurd (omega arith)
missing (field ∷ fields) zero inside e = absurd cc
missing (field ∷ fields) (suc k) inside e = missing fields k (omega arith) e

field_chosen : (layout : Layout) (standing : List Dictionary) (source : Source) (limit : Option ℕ) (columns : List (List Slot)) (k : ℕ)
    (ks : List ℕ) (given : Option Field) → columns_from layout standing source 0 layout.fields ≡ Some columns
    → slice_get layout.fields k ≡ given → k < length layout.fields
    → chosen_columns layout standing source limit ks ≡ Some (cut_columns limit columns ks)
    → chosen_columns layout standing source limit (k ∷ ks) ≡ Some (cut_columns limit columns (k ∷ ks))
field_chosen layout standing source limit columns k ks None e is inside others = absurd (missing layout.fields k inside is)
field_chosen layout standing source limit columns k ks (Some field) e is inside others =
    let whole : column_in layout standing source None k field ≡ Some (get_or columns k []) =
    ap (λ i. column_in layout standing source None i field) (sym (zero-add k))
    ∙ column_at layout standing source 0 layout.fields columns e k field is in
    let here : column_in layout standing source limit k field ≡ Some (cut_to limit (get_or columns k [])) =
    types_cut field.data_type (column_place layout standing source None k) limit (get_or columns k []) tt whole in
    bind_is (slice_get layout.fields k) _ field is ∙ bind_is (column_in layout standing source limit k field) _ _ here
    ∙ bind_is (chosen_columns layout standing source limit ks) _ _ others

columns_chosen : (layout : Layout) (standing : List Dictionary) (source : Source) (limit : Option ℕ) (columns : List (List Slot)) (ks : List ℕ)
    → columns_from layout standing source 0 layout.fields ≡ Some columns → list_all (λ k. nat_lt k (length layout.fields)) ks ≡ true
    → chosen_columns layout standing source limit ks ≡ Some (cut_columns limit columns ks)
columns_chosen layout standing source limit columns [] e there = refl
columns_chosen layout standing source limit columns (k ∷ ks) e there =
    let parts = and_parts (nat_lt k (length layout.fields)) (list_all (λ k. nat_lt k (length layout.fields)) ks) there in
    let inside : k < length layout.fields = ltb-true k (length layout.fields) parts.0 in
    field_chosen layout standing source limit columns k ks (slice_get layout.fields k) e refl inside
    (columns_chosen layout standing source limit columns ks e parts.1)

-- ---- lengths

agree_rows : (columns : List (List Slot)) → agree_in_length columns ≡ true → have_length (rows_of_columns columns) columns ≡ true
agree_rows [] agree = refl
agree_rows (column ∷ columns) agree =
    and_from (length column == length column) (have_length (length column) columns) (eq-eqb (length column) (length column) refl) agree

length_at : (rows : ℕ) (columns : List (List Slot)) (k : ℕ) → have_length rows columns ≡ true → k < length columns
    → length (get_or columns k []) ≡ rows
length_at rows [] k long inside = absurd (omega arith)
length_at rows (column ∷ columns) zero long inside =
    eqb-true (length column) rows (and_parts (length column == rows) (have_length rows columns) long).0
length_at rows (column ∷ columns) (suc k) long inside =
    length_at rows columns k (and_parts (length column == rows) (have_length rows columns) long).1 (omega arith)

cut_length : (limit : Option ℕ) (rows : ℕ) (column : List Slot) → length column ≡ rows → length (cut_to limit column) ≡ taken_of limit rows
cut_length limit rows column size =
    length-take-le (taken_of limit (length column)) column (taken_most limit (length column)) ∙ ap (taken_of limit) size

cut_long : (limit : Option ℕ) (rows : ℕ) (columns : List (List Slot)) (ks : List ℕ) → have_length rows columns ≡ true
    → list_all (λ k. nat_lt k (length columns)) ks ≡ true → have_length (taken_of limit rows) (cut_columns limit columns ks) ≡ true
cut_long limit rows columns [] long there = refl
cut_long limit rows columns (k ∷ ks) long there =
    let parts = and_parts (nat_lt k (length columns)) (list_all (λ k. nat_lt k (length columns)) ks) there in
    let column : List Slot = get_or columns k [] in
    let size = cut_length limit rows column (length_at rows columns k long (ltb-true k (length columns) parts.0)) in
    and_from (length (cut_to limit column) == taken_of limit rows) (have_length (taken_of limit rows) (cut_columns limit columns ks))
    (eq-eqb (length (cut_to limit column)) (taken_of limit rows) size) (cut_long limit rows columns ks long parts.1)

-- columns of one length agree
long_agree : (rows : ℕ) (columns : List (List Slot)) → have_length rows columns ≡ true → agree_in_length columns ≡ true
long_agree rows [] long = refl
long_agree rows (column ∷ columns) long =
    let parts = and_parts (length column == rows) (have_length rows columns) long in
    subst (λ (n : ℕ). have_length n columns ≡ true) (sym (eqb-true (length column) rows parts.0)) parts.1

-- ---- rows

-- the slots of row i at the chosen places
picked_row : (limit : Option ℕ) (rows : ℕ) (columns : List (List Slot)) (ks : List ℕ) (i : ℕ) → have_length rows columns ≡ true
    → list_all (λ k. nat_lt k (length columns)) ks ≡ true → i < taken_of limit rows
    → row_at (cut_columns limit columns ks) i ≡ chosen ks (row_at columns i)
picked_row limit rows columns [] i long there inside = refl
picked_row limit rows columns (k ∷ ks) i long there inside =
    let parts = and_parts (nat_lt k (length columns)) (list_all (λ k. nat_lt k (length columns)) ks) there in
    let within : k < length columns = ltb-true k (length columns) parts.0 in
    let column : List Slot = get_or columns k [] in
    let size : taken_of limit (length column) ≡ taken_of limit rows = ap (taken_of limit) (length_at rows columns k long within) in
    let here : slice_index_or (cut_to limit column) i null ≡ slice_index_or column i null =
    get_or-take (taken_of limit (length column)) column i null (omega (arith, size)) in
    let there_is : slice_get (row_at columns i) k ≡ Some (slice_index_or column i null) = at_row columns k i within in
    ap₂ (λ (slot : Slot) slots. slot ∷ slots) here (picked_row limit rows columns ks i long parts.1 inside)
    ∙ sym (ap (λ (found : Option Slot). cons_option found (chosen ks (row_at columns i))) there_is)
  where
    at_row : (columns : List (List Slot)) (k i : ℕ) → k < length columns
        → slice_get (row_at columns i) k ≡ Some (slice_index_or (get_or columns k []) i null)
    at_row [] k i inside = absurd (omega arith)
    at_row (column ∷ columns) zero i inside = refl
    at_row (column ∷ columns) (suc k) i inside = at_row columns k i (omega arith)

rows_picked : (ks : List ℕ) (f : ℕ → List Slot) (first n : ℕ) → window (λ i. chosen ks (f i)) first n ≡ map (chosen ks) (window f first n)
rows_picked ks f first zero = refl
rows_picked ks f first (suc n) = ap (λ xs. chosen ks (f first) ∷ xs) (rows_picked ks f (first + 1) n)

-- the rows of chosen columns, of which there is one
pub rows_chosen : (limit : Option ℕ) (columns : List (List Slot)) (k : ℕ) (ks : List ℕ) → agree_in_length columns ≡ true
    → list_all (λ k. nat_lt k (length columns)) (k ∷ ks) ≡ true
    → (rows_of_columns (cut_columns limit columns (k ∷ ks)) ≡ taken_of limit (rows_of_columns columns))
    × (batch_rows (cut_columns limit columns (k ∷ ks)) ≡ map (chosen (k ∷ ks)) (take (taken_of limit (rows_of_columns columns)) (batch_rows columns)))
rows_chosen limit columns k ks agree there =
    let rows : ℕ = rows_of_columns columns in
    let few : ℕ = taken_of limit rows in
    let long = agree_rows columns agree in
    let parts = and_parts (nat_lt k (length columns)) (list_all (λ k. nat_lt k (length columns)) ks) there in
    let count : length (cut_to limit (get_or columns k [])) ≡ few =
    cut_length limit rows (get_or columns k []) (length_at rows columns k long (ltb-true k (length columns) parts.0)) in
    let found : List (List Slot) = cut_columns limit columns (k ∷ ks) in (
      count,
      ap (window (row_at found) 0) count
          ∙ window_same (row_at found) (λ i. chosen (k ∷ ks) (row_at columns i)) 0 0 few (λ (i : ℕ) (inside : i < few).
          ap (row_at found) (zero-add i) ∙ picked_row limit rows columns (k ∷ ks) i long there inside
          ∙ ap (λ j. chosen (k ∷ ks) (row_at columns j)) (sym (zero-add i)))
          ∙ rows_picked (k ∷ ks) (row_at columns) 0 few
          ∙ ap (map (chosen (k ∷ ks))) (first_same (row_at columns) (row_at columns) few rows (taken_most limit rows) (λ i inside. refl)),
    )

-- ---- batches

-- what is chosen of a batch that reads
pub batch_chosen : (layout : Layout) (standing : List Dictionary) (entry : Entry) (limit : Option ℕ) (ks : List ℕ) (table : flat.TablePlace)
    (columns : List (List Slot)) → batch_in layout standing entry table ≡ Some columns
    → list_all (λ k. nat_lt k (length layout.fields)) ks ≡ true
    → (chosen_batch_in layout standing entry limit ks table ≡ Some (cut_columns limit columns ks))
    × ((agree_in_length columns ≡ true) × (list_all (λ k. nat_lt k (length columns)) ks ≡ true))
unfolding batch_in chosen_batch_in
batch_chosen layout standing entry limit ks table columns e there =
    let source = came_of {A = Source} (source_in layout.is_little_endian entry table) _ columns e in
    let found = came_of {A = List (List Slot)} (columns_from layout standing source.0 0 layout.fields) _ columns source.2 in
    let test = came_of {A = Bool} (guard (agree_in_length found.0)) _ columns found.2 in
    let agree : agree_in_length found.0 ≡ true = guarded _ test.0 test.1 in
    let whole : found.0 ≡ columns = same_value found.0 columns test.2 in
    let count : length found.0 ≡ length layout.fields = columns_count layout standing source.0 0 layout.fields found.0 found.1 in
    let inside : list_all (λ k. nat_lt k (length found.0)) ks ≡ true =
    subst (λ (n : ℕ). list_all (λ k. nat_lt k n) ks ≡ true) (sym count) there in
    let part = columns_chosen layout standing source.0 limit found.0 ks found.1 there in
    let fits : agree_in_length (cut_columns limit found.0 ks) ≡ true =
    long_agree (taken_of limit (rows_of_columns found.0)) (cut_columns limit found.0 ks)
    (cut_long limit (rows_of_columns found.0) found.0 ks (agree_rows found.0 agree) inside) in
    subst (λ (columns : List (List Slot)). (chosen_batch_in layout standing entry limit ks table ≡ Some (cut_columns limit columns ks))
    × ((agree_in_length columns ≡ true) × (list_all (λ k. nat_lt k (length columns)) ks ≡ true))) whole (
      bind_is (source_in layout.is_little_endian entry table) _ source.0 source.1
          ∙ bind_is (chosen_columns layout standing source.0 limit ks) _ (cut_columns limit found.0 ks) part
          ∙ bind_is (guard (agree_in_length (cut_columns limit found.0 ks))) _ true (ap guard fits),
      (agree, inside),
    )
