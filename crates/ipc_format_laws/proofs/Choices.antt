-- A choice of columns under a limit is that choice of the first rows of the whole.
use Rattle.std.proofs.Common.{inl, inr, ◌≡◌, ◌∙◌, ℕ, zero, suc, ◌-◌, ◌≤◌, ◌<◌, ◌^◌, min, Bool, true, List, [], ◌∷◌, ◌++◌, length, map, take, refl}
use Rattle.std.proofs.Common.{sym, ap}
use Rattle.std.proofs.Common.{ap₂, subst, arith, nat_lt}
use Rattle.std.specs.Prelude.{Option, Some, None}
use Rattle.std.specs.List.{list_all}
use Rattle.std.proofs.Math.Nat.{min-eq_left, min-eq_right, min-le_right}
use Rattle.std.proofs.lemmas.Bool.{cases_lt, ltb-true, lt-ltb}
use Rattle.std.proofs.lemmas.List.{length-map, length-take, take-map, take_all, take_min}
use Rattle.ipc_format_grammar.specs.flatbuffers.Reading.{guard}
use Rattle.ipc_format_grammar.specs.columnar_memory.declared.Schema.{Schema}
use Rattle.ipc_format_grammar.specs.columns.Slots.{Slot}
use Rattle.ipc_format_grammar.specs.columns.Tables.{Table, rows_of_columns, row_at, batch_rows, rows_of_batches, chosen, choice_within}
use Rattle.ipc_format_grammar.proofs.columns_lemmas.Windows.{length-window}
use Rattle.ipc_format_grammar.specs.Messages as message
use Rattle.ipc_format_grammar.specs.Writable.{normalised}
use Rattle.ipc_format_grammar.specs.Columns.{Dictionary, taken_of}
use Rattle.ipc_format_grammar.specs.Dictionaries.{Entry, Layout, dictionary_in}
use Rattle.ipc_format_grammar.specs.Tables.{Contents, agree_in_length, contents_of, layout_of, batch_in, batches_with, batches_of, table_of}
use Rattle.ipc_format_grammar.specs.Tables.{left_of, chosen_batch_in}
use Rattle.ipc_format_grammar.specs.Tables.{chosen_batches_with, chosen_batches, choice_of}
use Rattle.ipc_format_laws.specs.Choices.{ChoicesAreOfTheWhole}
use Rattle.ipc_format_laws.proofs.Firsts.{came_of, bind_is, same_value, guarded}
use Rattle.ipc_format_laws.proofs.ChosenBatches.{cut_columns, rows_chosen, batch_chosen}

-- the first rows under a limit, with the chosen slots; without a chosen column there is none
abbrev picked_rows : List ℕ → Option ℕ → List (List Slot) → List (List Slot)
picked_rows [] limit rows = []
picked_rows (k ∷ ks) limit rows = map (chosen (k ∷ ks)) (take (taken_of limit (length rows)) rows)

-- ---- rows, one batch after another

take_more : {A : Type 0} (n m : ℕ) (xs ys : List A) → length xs ≡ m → take n (xs ++ ys) ≡ take (min n m) xs ++ take (n - m) ys
take_more {A} n zero [] ys size =
    let none : min n 0 ≡ 0 = omega arith in
    let all : n - 0 ≡ n = omega arith in
    sym (ap₂ (λ (a b : ℕ). take {A = A} a [] ++ take b ys) none all)
take_more n (suc m) [] ys size = absurd (omega arith)
take_more n zero (x ∷ xs) ys size = absurd (omega arith)
take_more {A} zero (suc m) (x ∷ xs) ys size =
    let none : min 0 (suc m) ≡ 0 = omega arith in
    let rest : 0 - suc m ≡ 0 = omega arith in
    sym (ap₂ (λ (a b : ℕ). take {A = A} a (x ∷ xs) ++ take b ys) none rest)
take_more {A} (suc n) (suc m) (x ∷ xs) ys size =
    let least : min (suc n) (suc m) ≡ suc (min n m) = omega arith in
    let rest : suc n - suc m ≡ n - m = omega arith in
    ap (λ zs. x ∷ zs) (take_more n m xs ys (omega arith))
    ∙ sym (ap₂ (λ (a b : ℕ). take {A = A} a (x ∷ xs) ++ take b ys) least rest)

map_append : {A B : Type 0} (f : A → B) (xs ys : List A) → map f (xs ++ ys) ≡ map f xs ++ map f ys
map_append f [] ys = refl
map_append f (x ∷ xs) ys = ap (λ zs. f x ∷ zs) (map_append f xs ys)

-- the first rows of a batch and of those behind it, under a limit and under what is left of it
first_of_two : {A : Type 0} (limit : Option ℕ) (n : ℕ) (xs ys : List A) → length xs ≡ n
    → take (taken_of limit (length (xs ++ ys))) (xs ++ ys)
    ≡ take (taken_of limit n) xs ++ take (taken_of (left_of limit (taken_of limit n)) (length ys)) ys
first_of_two None n xs ys size =
    take_all (length (xs ++ ys)) (xs ++ ys) (omega arith)
    ∙ ap₂ (λ a b. a ++ b) (sym (take_all n xs (omega (arith, size)))) (sym (take_all (length ys) ys (omega arith)))
first_of_two (Some limit) n xs ys size =
    take_most limit (xs ++ ys) ∙ take_more limit n xs ys size
    ∙ ap (λ zs. take (min limit n) xs ++ zs) (ap (λ m. take m ys) (left limit n) ∙ sym (take_most (limit - min limit n) ys))
  where
    take_most : {A : Type 0} (k : ℕ) (zs : List A) → take (min k (length zs)) zs ≡ take k zs
    take_most k zs = take_min k zs

    left : (k n : ℕ) → k - n ≡ k - min k n
    left k n = elim (cases_lt k n) [
      | inl few ↦ let e : min k n ≡ k = min-eq_left (omega arith) in omega (arith, e)
      | inr many ↦ let e : min k n ≡ n = min-eq_right many in omega (arith, e)
    ]

rows_count : (columns : List (List Slot)) → length (batch_rows columns) ≡ rows_of_columns columns
rows_count columns = length-window (row_at columns) 0 (rows_of_columns columns)

-- ---- messages

-- what is chosen of messages that read
abbrev ChosenAre : Layout → List ℕ → List Dictionary → Option ℕ → List Entry → List (List (List Slot)) → Type 0
ChosenAre layout ks standing limit entries batches = (found : List (List (List Slot)))
    × ((chosen_batches layout ks standing limit entries ≡ Some found) × (rows_of_batches found ≡ picked_rows ks limit (rows_of_batches batches)))

take_none : {A : Type 0} (n : ℕ) → take {A = A} n [] ≡ []
take_none zero = refl
take_none (suc n) = refl

none_picked : (ks : List ℕ) (limit : Option ℕ) → picked_rows ks limit [] ≡ []
none_picked [] limit = refl
none_picked (k ∷ ks) limit = ap (map (chosen (k ∷ ks))) (take_none (taken_of limit 0))

-- a batch, and the batches behind it
with_batch : (limit : Option ℕ) (columns : List (List Slot)) (ks : List ℕ) (rest : List (List (List Slot))) (others : List (List Slot))
    → agree_in_length columns ≡ true → list_all (λ k. nat_lt k (length columns)) ks ≡ true
    → rows_of_batches rest ≡ picked_rows ks (left_of limit (rows_of_columns (cut_columns limit columns ks))) others
    → rows_of_batches (cut_columns limit columns ks ∷ rest) ≡ picked_rows ks limit (batch_rows columns ++ others)
with_batch limit columns [] rest others agree there later = later
with_batch limit columns (k ∷ ks) rest others agree there later =
    let found = rows_chosen limit columns k ks agree there in
    let n : ℕ = rows_of_columns columns in
    let f : List Slot → List Slot = chosen (k ∷ ks) in
    let behind : rows_of_batches rest ≡ map f (take (taken_of (left_of limit (taken_of limit n)) (length others)) others) =
    later ∙ ap (λ m. map f (take (taken_of (left_of limit m) (length others)) others)) found.0 in
    ap₂ (λ a b. a ++ b) found.1 behind
    ∙ sym (map_append f (take (taken_of limit n) (batch_rows columns)) (take (taken_of (left_of limit (taken_of limit n)) (length others)) others))
    ∙ ap (map f) (sym (first_of_two limit n (batch_rows columns) others (rows_count columns)))

-- what is chosen of the messages behind one
abbrev ChosenBehind : Layout → List ℕ → List Entry → Type 0
ChosenBehind layout ks entries = (standing : List Dictionary) (limit : Option ℕ) (batches : List (List (List Slot)))
    → batches_of layout standing entries ≡ Some batches → ChosenAre layout ks standing limit entries batches

by_header : (layout : Layout) (ks : List ℕ) (standing : List Dictionary) (limit : Option ℕ) (entry : Entry) (entries : List Entry)
    (header : message.Header) (batches : List (List (List Slot))) → list_all (λ k. nat_lt k (length layout.fields)) ks ≡ true
    → ChosenBehind layout ks entries
    → batches_with layout standing entry (λ now. batches_of layout now entries) header ≡ Some batches
    → (found : List (List (List Slot)))
    × ((chosen_batches_with layout standing entry limit ks (λ now left. chosen_batches layout ks now left entries) header ≡ Some found)
    × (rows_of_batches found ≡ picked_rows ks limit (rows_of_batches batches)))
by_header layout ks standing limit entry entries (message.schema table) batches there behind e = absurd cc
by_header layout ks standing limit entry entries (message.dictionary_batch table) batches there behind e =
    let dictionary = came_of {A = Dictionary} (dictionary_in layout standing entry table) _ batches e in
    let rest = behind (dictionary.0 ∷ standing) limit batches dictionary.2 in
    (rest.0, (bind_is (dictionary_in layout standing entry table) _ dictionary.0 dictionary.1 ∙ rest.1.0, rest.1.1))
by_header layout ks standing limit entry entries (message.record_batch table) batches there behind e =
    let columns = came_of {A = List (List Slot)} (batch_in layout standing entry table) _ batches e in
    let later = came_of {A = List (List (List Slot))} (batches_of layout standing entries) _ batches columns.2 in
    let whole : columns.0 ∷ later.0 ≡ batches = same_value (columns.0 ∷ later.0) batches later.2 in
    let part = batch_chosen layout standing entry limit ks table columns.0 columns.1 there in
    let found : List (List Slot) = cut_columns limit columns.0 ks in
    let rest = behind standing (left_of limit (rows_of_columns found)) later.0 later.1 in (
      found ∷ rest.0,
      (
        bind_is (chosen_batch_in layout standing entry limit ks table) _ found part.0
            ∙ bind_is (chosen_batches layout ks standing (left_of limit (rows_of_columns found)) entries) _ rest.0 rest.1.0,
        with_batch limit columns.0 ks rest.0 (rows_of_batches later.0) part.1.0 part.1.1 rest.1.1
            ∙ ap (λ bs. picked_rows ks limit (rows_of_batches bs)) whole,
      ),
    )

chosen_are : (layout : Layout) (ks : List ℕ) → list_all (λ k. nat_lt k (length layout.fields)) ks ≡ true → (entries : List Entry)
    → ChosenBehind layout ks entries
chosen_are layout ks there [] standing limit batches e =
    ([], (refl, sym (ap (λ bs. picked_rows ks limit (rows_of_batches bs)) (sym (same_value [] batches e)) ∙ none_picked ks limit)))
chosen_are layout ks there (entry ∷ entries) standing limit batches e =
    by_header layout ks standing limit entry entries entry.header batches there (chosen_are layout ks there entries) e

-- ---- tables

fewer_rows : (ks : List ℕ) (limit : Option ℕ) (rows : List (List Slot)) → length (picked_rows ks limit rows) ≤ length rows
fewer_rows [] limit rows = omega arith
fewer_rows (k ∷ ks) limit rows =
    let size : length (picked_rows (k ∷ ks) limit rows) ≡ min (taken_of limit (length rows)) (length rows) =
    length-map (take (taken_of limit (length rows)) rows) (chosen (k ∷ ks)) ∙ length-take (taken_of limit (length rows)) rows in
    subst (λ (n : ℕ). n ≤ length rows) (sym size) (min-le_right (taken_of limit (length rows)) (length rows))

-- the choice of a table, by its rows
choice_is : (schema : Schema) (rows : List (List Slot)) (ks : List ℕ) (limit : Option ℕ)
    → record { schema = record schema { fields = chosen ks schema.fields }; rows = picked_rows ks limit rows }
    ≡ choice_within ks limit (record { schema = schema; rows = rows })
choice_is schema rows [] None = refl
choice_is schema rows [] (Some limit) =
    ap (λ (found : List (List Slot)). record { schema = record schema { fields = [] }; rows = found }) (sym (take_none limit))
choice_is schema rows (k ∷ ks) None =
    ap (λ found. record { schema = record schema { fields = chosen (k ∷ ks) schema.fields }; rows = map (chosen (k ∷ ks)) found })
    (take_all (length rows) rows (omega arith))
choice_is schema rows (k ∷ ks) (Some limit) =
    ap (λ found. record { schema = record schema { fields = chosen (k ∷ ks) schema.fields }; rows = found })
    (ap (map (chosen (k ∷ ks))) (take_min limit rows) ∙ sym (take-map (chosen (k ∷ ks)) limit rows))

pub choices_are_of_the_whole : ChoicesAreOfTheWhole
unfolding table_of choice_of
choices_are_of_the_whole form bytes ks limit table e there =
    let contents = came_of {A = Contents} (contents_of form bytes) _ table e in
    let schema : Schema = normalised contents.0.schema.schema in
    let layout : Layout = layout_of contents.0.schema in
    let batches = came_of {A = List (List (List Slot))} (batches_of layout [] contents.0.entries) _ table contents.2 in
    let rows : List (List Slot) = rows_of_batches batches.0 in
    let test = came_of {A = Bool} (guard (nat_lt (length rows) (2 ^ 64))) _ table batches.2 in
    let few : length rows < 2 ^ 64 = ltb-true (length rows) (2 ^ 64) (guarded _ test.0 test.1) in
    let whole : record { schema = schema; rows = rows } ≡ table = same_value (record { schema = schema; rows = rows }) table test.2 in
    let inside : list_all (λ k. nat_lt k (length schema.fields)) ks ≡ true =
    ap (λ (t : Table). list_all (λ k. nat_lt k (length t.schema.fields)) ks) whole ∙ there in
    let found = chosen_are layout ks inside contents.0.entries [] limit batches.0 batches.1 in
    let fits : nat_lt (length (rows_of_batches found.0)) (2 ^ 64) ≡ true =
    lt-ltb (length (rows_of_batches found.0)) (2 ^ 64) (omega (arith, ap length found.1.1, fewer_rows ks limit rows, few)) in
    let same : record { schema = record schema { fields = chosen ks schema.fields }; rows = rows_of_batches found.0 }
    ≡ choice_within ks limit table =
    ap (λ (found : List (List Slot)). record { schema = record schema { fields = chosen ks schema.fields }; rows = found }) found.1.1
    ∙ choice_is schema rows ks limit ∙ ap (choice_within ks limit) whole in
    bind_is (contents_of form bytes) _ contents.0 contents.1
    ∙ bind_is (guard (list_all (λ k. nat_lt k (length schema.fields)) ks)) _ true (ap guard inside)
    ∙ bind_is (chosen_batches layout ks [] limit contents.0.entries) _ found.0 found.1.0
    ∙ bind_is (guard (nat_lt (length (rows_of_batches found.0)) (2 ^ 64))) _ true (ap guard fits) ∙ ap Some same
