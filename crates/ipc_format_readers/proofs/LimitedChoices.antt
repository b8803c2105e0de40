-- Chosen columns under a limit are the first rows of the chosen columns.
use Rattle.std.proofs.Common.{inl, inr, ◌≡◌, ◌∙◌, ℕ, zero, suc, ◌+◌, ◌-◌, ◌<◌, ◌^◌, min, Bool, true, List, [], ◌∷◌, ◌++◌, length, map, take}
use Rattle.std.proofs.Common.{refl, sym, ap, ap₂, subst, arith, nat_lt, ◌==◌}
use Rattle.std.specs.Prelude.{Some, None, slice_get}
use Rattle.std.specs.List.{list_all}
use Rattle.std.proofs.Math.Nat.{min-eq_left, min-eq_right, min-le_right, min-le_left}
use Rattle.std.proofs.lemmas.Bool.{and_parts, and_from, cases_lt, eq-eqb, eqb-true, lt-ltb, ltb-true}
use Rattle.std.proofs.Math.Seq.{take-append-add}
use Rattle.std.proofs.lemmas.List.{get_or-take, length-take, append-nil, take-append-le, take_all, take_min}
use Rattle.ipc_format_chunk_writing.specs.columnar_memory.declared.Field.{Field}
use Rattle.ipc_format_chunk_writing.specs.columnar_memory.declared.Schema.{Schema}
use Rattle.ipc_format_chunk_writing.specs.columns.Slots.{Slot, null, window}
use Rattle.ipc_format_chunk_writing.specs.columns.Tables.{Table, batch_rows, chosen, limit, row_at, rows_of_batches, rows_of_columns}
use Rattle.ipc_format_chunk_writing.specs.flatbuffers.FlatBuffers.{TablePlace}
use Rattle.ipc_format_chunk_writing.specs.flatbuffers.Reading.{guard}
use Rattle.ipc_format_chunk_writing.specs.grammar.Columns.{Dictionary, Source, have_length}
use Rattle.ipc_format_chunk_writing.specs.grammar.Dictionaries.{Entry, Layout, dictionary_in, source_in}
use Rattle.ipc_format_chunk_writing.specs.grammar.Messages.{Header, schema, dictionary_batch, record_batch}
use Rattle.ipc_format_chunk_writing.specs.grammar.Tables.{Contents, Form, agree_in_length, choice_of, chosen_batch_in, chosen_batches}
use Rattle.ipc_format_chunk_writing.specs.grammar.Tables.{chosen_batches_with, chosen_columns, column_in, column_place, contents_of, layout_of}
use Rattle.ipc_format_chunk_writing.specs.grammar.Writable.{normalised}
use Rattle.ipc_format_readers.proofs.reading_laws_lemmas.columns_lemmas.Windows.{length-window}
use Rattle.ipc_format_readers.proofs.reading_laws_lemmas.laws_lemmas.FirstTypes.{types_cut}
use Rattle.ipc_format_readers.proofs.reading_laws_lemmas.laws_lemmas.Firsts.{bind_is, came_of, first_same, guarded, same_value}

abbrev Batches : Type 0
Batches = List (List (List Slot))

module _ (most : ℕ) where
  -- the first slots of columns
  abbrev cut_all : List (List Slot) → List (List Slot)
  cut_all columns = map (take most) columns

  -- ---- columns

  columns_first : (layout : Layout) (standing : List Dictionary) (source : Source) (ks : List ℕ) (columns : List (List Slot))
      → chosen_columns layout standing source None ks ≡ Some columns
      → chosen_columns layout standing source (Some most) ks ≡ Some (cut_all columns)
  columns_first layout standing source [] columns e =
      ap (λ (found : List (List Slot)). Some (cut_all found)) (same_value {A = List (List Slot)} [] columns e)
  columns_first layout standing source (k ∷ ks) columns e =
      let field = came_of {A = Field} (slice_get layout.fields k) _ columns e in
      let column = came_of {A = List Slot} (column_in layout standing source None k field.0) _ columns field.2 in
      let others = came_of {A = List (List Slot)} (chosen_columns layout standing source None ks) _ columns column.2 in
      let whole : column.0 ∷ others.0 ≡ columns = same_value (column.0 ∷ others.0) columns others.2 in
      let here : column_in layout standing source (Some most) k field.0 ≡ Some (take most column.0) =
      types_cut field.0.data_type (column_place layout standing source None k) (Some most) column.0 tt column.1
      ∙ ap Some (take_min most column.0) in
      bind_is (slice_get layout.fields k) _ field.0 field.1
      ∙ bind_is (column_in layout standing source (Some most) k field.0) _ (take most column.0) here
      ∙ bind_is (chosen_columns layout standing source (Some most) ks) _ (cut_all others.0)
      (columns_first layout standing source ks others.0 others.1)
      ∙ ap (λ (found : List (List Slot)). Some (cut_all found)) whole

  -- ---- lengths

  column_size : (rows : ℕ) (column : List Slot) → (length column == rows) ≡ true → length (take most column) ≡ min most rows
  column_size rows column long = length-take most column ∙ ap (min most) (eqb-true (length column) rows long)

  long_first : (rows : ℕ) (columns : List (List Slot)) → have_length rows columns ≡ true → have_length (min most rows) (cut_all columns) ≡ true
  long_first rows [] long = refl
  long_first rows (column ∷ columns) long =
      let parts = and_parts (length column == rows) (have_length rows columns) long in
      and_from (length (take most column) == min most rows) (have_length (min most rows) (cut_all columns))
      (eq-eqb (length (take most column)) (min most rows) (column_size rows column parts.0)) (long_first rows columns parts.1)

  agree_first : (columns : List (List Slot)) → agree_in_length columns ≡ true → agree_in_length (cut_all columns) ≡ true
  agree_first [] agree = refl
  agree_first (column ∷ columns) agree =
      subst (λ (n : ℕ). have_length n (cut_all columns) ≡ true) (sym (length-take most column)) (long_first (length column) columns agree)

  agree_rows : (columns : List (List Slot)) → agree_in_length columns ≡ true → have_length (rows_of_columns columns) columns ≡ true
  agree_rows [] agree = refl
  agree_rows (column ∷ columns) agree =
      and_from (length column == length column) (have_length (length column) columns) (eq-eqb (length column) (length column) refl) agree

  count_first : (columns : List (List Slot)) → rows_of_columns (cut_all columns) ≡ min most (rows_of_columns columns)
  count_first [] = sym (min-eq_right (omega arith))
  count_first (column ∷ columns) = length-take most column

  -- ---- rows

  row_first : (rows : ℕ) (columns : List (List Slot)) (i : ℕ) → have_length rows columns ≡ true → i < min most rows
      → row_at (cut_all columns) i ≡ row_at columns i
  row_first rows [] i long inside = refl
  row_first rows (column ∷ columns) i long inside =
      let parts = and_parts (length column == rows) (have_length rows columns) long in
      ap₂ (λ (slot : Slot) slots. slot ∷ slots) (get_or-take most column i null (omega (arith, inside, min-le_left most rows)))
      (row_first rows columns i parts.1 inside)

  rows_first : (columns : List (List Slot)) → agree_in_length columns ≡ true → batch_rows (cut_all columns) ≡ take most (batch_rows columns)
  rows_first columns agree =
      let n : ℕ = rows_of_columns columns in
      ap (window (row_at (cut_all columns)) 0) (count_first columns)
      ∙ first_same (row_at columns) (row_at (cut_all columns)) (min most n) n (min-le_right most n)
      (λ i inside. row_first n columns i (agree_rows columns agree) inside)
      ∙ ap (λ (m : ℕ). take (min most m) (batch_rows columns)) (sym (length-window (row_at columns) 0 n))
      ∙ take_min most (batch_rows columns)

  -- ---- one batch

  -- what a batch of chosen columns is under a limit
  batch_first : (layout : Layout) (standing : List Dictionary) (entry : Entry) (ks : List ℕ) (table : TablePlace) (columns : List (List Slot))
      → chosen_batch_in layout standing entry None ks table ≡ Some columns
      → (chosen_batch_in layout standing entry (Some most) ks table ≡ Some (cut_all columns)) × (agree_in_length columns ≡ true)
  unfolding chosen_batch_in
  batch_first layout standing entry ks table columns e =
      let source = came_of {A = Source} (source_in layout.is_little_endian entry table) _ columns e in
      let found = came_of {A = List (List Slot)} (chosen_columns layout standing source.0 None ks) _ columns source.2 in
      let test = came_of {A = Bool} (guard (agree_in_length found.0)) _ columns found.2 in
      let agree : agree_in_length found.0 ≡ true = guarded _ test.0 test.1 in
      let whole : found.0 ≡ columns = same_value found.0 columns test.2 in
      subst (λ (columns : List (List Slot)). (chosen_batch_in layout standing entry (Some most) ks table ≡ Some (cut_all columns))
      × (agree_in_length columns ≡ true)) whole (
        bind_is (source_in layout.is_little_endian entry table) _ source.0 source.1
            ∙ bind_is (chosen_columns layout standing source.0 (Some most) ks) _ (cut_all found.0)
            (columns_first layout standing source.0 ks found.0 found.1)
            ∙ bind_is (guard (agree_in_length (cut_all found.0))) _ true (ap guard (agree_first found.0 agree)),
        agree,
      )

-- ---- rows of batches, one after another

first_of_two : {A : Type 0} (k n : ℕ) (xs ys : List A) → length xs ≡ n → take k (xs ++ ys) ≡ take k xs ++ take (k - min k n) ys
first_of_two {A} k n xs ys size = elim (cases_lt k n) [
  | inl few ↦
      let left : k - min k n ≡ 0 = let e : min k n ≡ k = min-eq_left (omega arith) in omega (arith, e) in
      take-append-le k xs ys (omega (arith, few, size)) ∙ sym (append-nil (take k xs)) ∙ ap (λ (m : ℕ). take k xs ++ take m ys) (sym left)
  | inr many ↦
      let e : min k n ≡ n = min-eq_right many in
      let parts : k ≡ length xs + (k - min k n) = omega (arith, e, many, size) in
      ap (λ (m : ℕ). take m (xs ++ ys)) parts ∙ take-append-add xs ys (k - min k n)
      ∙ ap (λ (zs : List A). zs ++ take (k - min k n) ys) (sym (take_all k xs (omega (arith, many, size))))
]

-- what is chosen of messages under a limit, by what is chosen without one
abbrev FirstsAre : Layout → List ℕ → List Dictionary → ℕ → List Entry → Batches → Type 0
FirstsAre layout ks standing most entries batches = (found : Batches)
    × ((chosen_batches layout ks standing (Some most) entries ≡ Some found) × (rows_of_batches found ≡ take most (rows_of_batches batches)))

abbrev FirstsBehind : Layout → List ℕ → List Entry → Type 0
FirstsBehind layout ks entries = (standing : List Dictionary) (most : ℕ) (batches : Batches)
    → chosen_batches layout ks standing None entries ≡ Some batches → FirstsAre layout ks standing most entries batches

by_header : (layout : Layout) (ks : List ℕ) (standing : List Dictionary) (most : ℕ) (entry : Entry) (entries : List Entry) (header : Header)
    (batches : Batches) → FirstsBehind layout ks entries
    → chosen_batches_with layout standing entry None ks (λ now left. chosen_batches layout ks now left entries) header ≡ Some batches
    → (found : Batches)
    × ((chosen_batches_with layout standing entry (Some most) ks (λ now left. chosen_batches layout ks now left entries) header ≡ Some found)
    × (rows_of_batches found ≡ take most (rows_of_batches batches)))
by_header layout ks standing most entry entries (schema table) batches behind e = absurd cc
by_header layout ks standing most entry entries (dictionary_batch table) batches behind e =
    let dictionary = came_of {A = Dictionary} (dictionary_in layout standing entry table) _ batches e in
    let rest = behind (dictionary.0 ∷ standing) most batches dictionary.2 in
    (rest.0, (bind_is (dictionary_in layout standing entry table) _ dictionary.0 dictionary.1 ∙ rest.1.0, rest.1.1))
by_header layout ks standing most entry entries (record_batch table) batches behind e =
    let columns = came_of {A = List (List Slot)} (chosen_batch_in layout standing entry None ks table) _ batches e in
    let later = came_of {A = Batches} (chosen_batches layout ks standing None entries) _ batches columns.2 in
    let whole : columns.0 ∷ later.0 ≡ batches = same_value (columns.0 ∷ later.0) batches later.2 in
    let part = batch_first most layout standing entry ks table columns.0 columns.1 in
    let found : List (List Slot) = cut_all most columns.0 in
    let n : ℕ = rows_of_columns columns.0 in
    let rest = behind standing (most - min most n) later.0 later.1 in
    let left : chosen_batches layout ks standing (Some (most - rows_of_columns found)) entries ≡ Some rest.0 =
    ap (λ (m : ℕ). chosen_batches layout ks standing (Some (most - m)) entries) (count_first most columns.0) ∙ rest.1.0 in (
      found ∷ rest.0,
      (
        bind_is (chosen_batch_in layout standing entry (Some most) ks table) _ found part.0
            ∙ bind_is (chosen_batches layout ks standing (Some (most - rows_of_columns found)) entries) _ rest.0 left,
        ap₂ (λ (a b : List (List Slot)). a ++ b) (rows_first most columns.0 part.1) rest.1.1
            ∙ sym (first_of_two most n (batch_rows columns.0) (rows_of_batches later.0) (length-window (row_at columns.0) 0 n))
            ∙ ap (λ (bs : Batches). take most (rows_of_batches bs)) whole,
      ),
    )

take_none : {A : Type 0} (n : ℕ) → take {A = A} n [] ≡ []
take_none zero = refl
take_none (suc n) = refl

firsts_are : (layout : Layout) (ks : List ℕ) (entries : List Entry) → FirstsBehind layout ks entries
firsts_are layout ks [] standing most batches e =
    ([], (refl, sym (ap (λ (bs : Batches). take most (rows_of_batches bs)) (sym (same_value {A = Batches} [] batches e)) ∙ take_none most)))
firsts_are layout ks (entry ∷ entries) standing most batches e =
    by_header layout ks standing most entry entries entry.header batches (firsts_are layout ks entries) e

-- ---- tables

fewer : {A : Type 0} (n m : ℕ) (xs : List A) → length xs < m → length (take n xs) < m
fewer n m xs few = omega (arith, few, length-take n xs, min-le_right n (length xs))

-- the table of the first rows
first_table : (its : Schema) (rows found : List (List Slot)) (most : ℕ) (table : Table) → record { schema = its; rows = rows } ≡ table
    → found ≡ take most rows → record { schema = its; rows = found } ≡ limit most table
first_table its rows found most table same first =
    ap (λ (r : List (List Slot)). record { schema = its; rows = r }) first ∙ ap (limit most) same

-- under a limit, what is chosen are the first rows of what is chosen without one
pub limited_choice : (form : Form) (bytes : List ℕ) (ks : List ℕ) (most : ℕ) (table : Table) → choice_of form bytes ks None ≡ Some table
    → choice_of form bytes ks (Some most) ≡ Some (limit most table)
unfolding choice_of
limited_choice form bytes ks most table e =
    let contents = came_of {A = Contents} (contents_of form bytes) _ table e in
    let whole : Schema = normalised contents.0.schema.schema in
    let layout : Layout = layout_of contents.0.schema in
    let there = came_of {A = Bool} (guard (list_all (λ k. nat_lt k (length whole.fields)) ks)) _ table contents.2 in
    let batches = came_of {A = Batches} (chosen_batches layout ks [] None contents.0.entries) _ table there.2 in
    let rows : List (List Slot) = rows_of_batches batches.0 in
    let test = came_of {A = Bool} (guard (nat_lt (length rows) (2 ^ 64))) _ table batches.2 in
    let few : length rows < 2 ^ 64 = ltb-true (length rows) (2 ^ 64) (guarded _ test.0 test.1) in
    let its : Schema = record whole { fields = chosen ks whole.fields } in
    let same : record { schema = its; rows = rows } ≡ table = same_value {A = Table} (record { schema = its; rows = rows }) table test.2 in
    let found = firsts_are layout ks contents.0.entries [] most batches.0 batches.1 in
    let fits : nat_lt (length (rows_of_batches found.0)) (2 ^ 64) ≡ true =
    lt-ltb (length (rows_of_batches found.0)) (2 ^ 64) (subst (λ (r : List (List Slot)). length r < 2 ^ 64) (sym found.1.1)
    (fewer most (2 ^ 64) rows few)) in
    let limited : record { schema = its; rows = rows_of_batches found.0 } ≡ limit most table =
    first_table its rows (rows_of_batches found.0) most table same found.1.1 in
    bind_is (contents_of form bytes) _ contents.0 contents.1
    ∙ bind_is (guard (list_all (λ k. nat_lt k (length whole.fields)) ks)) _ there.0 there.1
    ∙ bind_is (chosen_batches layout ks [] (Some most) contents.0.entries) _ found.0 found.1.0
    ∙ bind_is (guard (nat_lt (length (rows_of_batches found.0)) (2 ^ 64))) _ true (ap guard fits) ∙ ap Some limited
