-- The columns of a batch that are chosen in any order are those that rise, put where they were asked for.
use Rattle.std.proofs.Common.{◌≡◌, ◌∙◌, ℕ, Bool, true, false, ◌==◌, List, [], ◌∷◌, length, refl, sym, ap}
use Rattle.std.specs.Prelude.{Option, Some, None, nat_eq, slice_get}
use Rattle.std.specs.List.{list_all, list_any}
use Rattle.std.proofs.lemmas.Bool.{and_parts, and_from, eq-eqb, eqb-true}
use Rattle.tables_chunks.specs.Choices.{are_below}
use Rattle.tables_chunks.specs.ipc_format.FlatBuffers.{TablePlace}
use Rattle.tables_chunks.specs.ipc_format.Reading.{◌>>=◌, guard}
use Rattle.tables_chunks.specs.ipc_format.columnar_memory.declared.Field.{Field}
use Rattle.tables_chunks.specs.ipc_format.columns.Slots.{Slot}
use Rattle.tables_chunks.specs.ipc_format.columns.Tables.{chosen, rows_of_columns}
use Rattle.tables_chunks.specs.ipc_format.Columns.{Dictionary, Source, have_length}
use Rattle.tables_chunks.specs.ipc_format.Dictionaries.{Entry, Layout, source_in}
use Rattle.tables_chunks.specs.ipc_format.grammar.Tables.{agree_in_length, chosen_batch_in, chosen_columns, column_in}
use Rattle.tables_chunks.proofs.ipc_format_lemmas.Binding.{bind_assoc, came_of, same_some}
use Rattle.tables_rows.proofs.Choices.{each, each_chosen, each_from, each_pass, passes, chosen_pass, wanted_pass}

-- ---- columns of one length

have_from : (columns : List (List Slot)) → agree_in_length columns ≡ true → have_length (rows_of_columns columns) columns ≡ true
have_from [] agree = refl
have_from (column ∷ columns) agree =
    and_from (length column == length column) (have_length (length column) columns) (eq-eqb (length column) (length column) refl) agree

agree_from : (count : ℕ) (columns : List (List Slot)) → have_length count columns ≡ true → agree_in_length columns ≡ true
agree_from count [] have = refl
agree_from count (column ∷ columns) have =
    let parts = and_parts (length column == count) (have_length count columns) have in
    ap (λ n. have_length n columns) (eqb-true (length column) count parts.0) ∙ parts.1

-- columns, where they are of one length
abbrev agreed : Option (List (List Slot)) → Option (List (List Slot))
agreed found = found >>= (λ columns. guard (agree_in_length columns) >>= (λ _. Some columns))

agreed_from : (found : Option (List (List Slot))) (columns : List (List Slot)) → found ≡ Some columns → agree_in_length columns ≡ true
    → agreed found ≡ Some columns
agreed_from found columns there agree = rw (there, agree) refl

guarded : (test : Bool) (found : Bool) → guard test ≡ Some found → test ≡ true
guarded true found e = refl
guarded false found e = absurd cc

agreed_parts : (found : Option (List (List Slot))) (columns : List (List Slot)) → agreed found ≡ Some columns
    → (found ≡ Some columns) × (agree_in_length columns ≡ true)
agreed_parts None columns e = absurd cc
agreed_parts (Some xs) columns e =
    let a = came_of {A = Bool} (guard (agree_in_length xs)) (λ _. Some xs) columns e in
    let same : xs ≡ columns = same_some xs columns a.2 in
    (a.2, ap agree_in_length (sym same) ∙ guarded (agree_in_length xs) a.0 a.1)

-- ---- columns that are given by their numbers

asked_there : (f : ℕ → Option (List Slot)) (rising places : List ℕ) (found : List (List Slot)) → are_below (length rising) places ≡ true
    → agreed (each f rising) ≡ Some found → agreed (each f (chosen places rising)) ≡ Some (chosen places found)
asked_there f rising places found inside e =
    let parts = agreed_parts (each f rising) found e in
    agreed_from (each f (chosen places rising)) (chosen places found) (each_chosen f rising found places parts.0 inside)
    (agree_from (rows_of_columns found) (chosen places found)
    (chosen_pass (λ (column : List Slot). length column == rows_of_columns found) found places (have_from found parts.1)))

none_asked : (f : ℕ → Option (List Slot)) (rising asked : List ℕ) → list_all (λ k. list_any (λ other. nat_eq other k) asked) rising ≡ true
    → agreed (each f rising) ≡ None → agreed (each f asked) ≡ None
none_asked f rising asked wanted none = by_found (agreed (each f asked)) refl
  where
    by_found : (found : Option (List (List Slot))) → agreed (each f asked) ≡ found → found ≡ None
    by_found None e = refl
    by_found (Some columns) e =
        let parts = agreed_parts (each f asked) columns e in
        let long : List Slot → Bool = λ column. length column == rows_of_columns columns in
        let passed = each_pass f long asked columns parts.0 (have_from columns parts.1) in
        let there = each_from f long rising (wanted_pass (λ k. passes long (f k)) asked rising wanted passed) in
        let whole : agreed (each f rising) ≡ Some there.0 =
        agreed_from (each f rising) there.0 there.1 (agree_from (rows_of_columns columns) there.0 there.2) in
        let never : ◌≡◌ {A = Option (List (List Slot))} None (Some there.0) = sym none ∙ whole in
        absurd cc

-- ---- columns of a batch

module _ (layout : Layout) (standing : List Dictionary) (limit : Option ℕ) where
  abbrev column_at : Source → ℕ → Option (List Slot)
  column_at source k = slice_get layout.fields k >>= (λ (field : Field). column_in layout standing source limit k field)

  as_each : (source : Source) (columns : List ℕ) → chosen_columns layout standing source limit columns ≡ each (column_at source) columns
  as_each source [] = refl
  as_each source (k ∷ columns) =
      sym (bind_assoc (slice_get layout.fields k) (λ (field : Field). column_in layout standing source limit k field)
      (λ (column : List Slot). chosen_columns layout standing source limit columns >>= (λ others. Some (column ∷ others))))
      ∙ ap (λ (rest : Option (List (List Slot))). column_at source k >>= (λ column. rest >>= (λ others. Some (column ∷ others))))
      (as_each source columns)

  -- the asked columns, where those that rise are given
  pub batch_asked : (entry : Entry) (table : TablePlace) (rising places : List ℕ) (found : List (List Slot)) → are_below (length rising) places ≡ true
      → chosen_batch_in layout standing entry limit rising table ≡ Some found
      → chosen_batch_in layout standing entry limit (chosen places rising) table ≡ Some (chosen places found)
  unfolding chosen_batch_in
  batch_asked entry table rising places found inside e =
      let a = came_of {A = Source} (source_in layout.is_little_endian entry table)
      (λ source. agreed (chosen_columns layout standing source limit rising)) found e in
      let there = asked_there (column_at a.0) rising places found inside (ap agreed (sym (as_each a.0 rising)) ∙ a.2) in
      ap (λ (given : Option Source). given >>= (λ source. agreed (chosen_columns layout standing source limit (chosen places rising)))) a.1
      ∙ ap agreed (as_each a.0 (chosen places rising)) ∙ there

  by_source : (given : Option Source) (rising asked : List ℕ) → list_all (λ k. list_any (λ other. nat_eq other k) asked) rising ≡ true
      → (given >>= (λ source. agreed (chosen_columns layout standing source limit rising))) ≡ None
      → (given >>= (λ source. agreed (chosen_columns layout standing source limit asked))) ≡ None
  by_source None rising asked wanted none = refl
  by_source (Some source) rising asked wanted none =
      ap agreed (as_each source asked)
      ∙ none_asked (column_at source) rising asked wanted (ap agreed (sym (as_each source rising)) ∙ none)

  -- and none, where those that rise aren't
  pub batch_unasked : (entry : Entry) (table : TablePlace) (rising asked : List ℕ)
      → list_all (λ k. list_any (λ other. nat_eq other k) asked) rising ≡ true → chosen_batch_in layout standing entry limit rising table ≡ None
      → chosen_batch_in layout standing entry limit asked table ≡ None
  unfolding chosen_batch_in
  batch_unasked entry table rising asked wanted none = by_source (source_in layout.is_little_endian entry table) rising asked wanted none

  -- nothing is given of a compressed batch
  pub batch_unsourced : (entry : Entry) (table : TablePlace) (columns : List ℕ) → source_in layout.is_little_endian entry table ≡ None
      → chosen_batch_in layout standing entry limit columns table ≡ None
  unfolding chosen_batch_in
  batch_unsourced entry table columns none = rw none refl
