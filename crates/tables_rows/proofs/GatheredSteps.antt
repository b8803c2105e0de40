-- The chosen columns of messages, gathered one message after another.
use Rattle.std.proofs.Common.{◌≡◌, ◌∙◌, ℕ, suc, ◌+◌, ◌≤◌, Bool, true, false, not, List, [], ◌∷◌, ◌++◌, length, map, drop}
use Rattle.std.proofs.Common.{append-nil, arith, cond, refl, sym, ap, subst}
use Rattle.std.specs.Prelude.{Option, Some, None, IsSomeAnd, Ok, Err, nat_eq, slice_get}
use Rattle.std.specs.List.{All}
use Rattle.std.specs.declared.alloc.Global.{Global}
use Rattle.std.specs.declared.vec.Vec.{Vec}
use Rattle.std.proofs.lemmas.Bool.{eq-eqb, ne_eqb}
use Rattle.std.proofs.lemmas.List.{drop_all, map-append}
use Rattle.std.proofs.lemmas.List.Elements.{All-push, filter-append}
use Rattle.tables_chunks.specs.Messages.{AreOfFields}
use Rattle.tables_chunks.specs.Reading.{slots_of_batches}
use Rattle.tables_chunks.specs.ipc_format.BlockMessages.{dictionary_by}
use Rattle.tables_chunks.specs.ipc_format.Chunks.{rows_of}
use Rattle.tables_chunks.specs.ipc_format.Columns.{Dictionary}
use Rattle.tables_chunks.specs.ipc_format.Dictionaries.{Entry, Layout, dictionary_in}
use Rattle.tables_chunks.specs.ipc_format.Messages.{Header, schema, dictionary_batch, record_batch}
use Rattle.tables_chunks.specs.ipc_format.Reading.{◌>>=◌}
use Rattle.tables_chunks.specs.ipc_format.Standing.{ByLookUps, StandAlike}
use Rattle.tables_chunks.specs.ipc_format.columnar_memory.declared.Error.{Error}
use Rattle.tables_chunks.specs.ipc_format.columnar_memory.declared.Error.TheVariants as errors
use Rattle.tables_chunks.specs.ipc_format.columns.Slots.{Slot}
use Rattle.tables_chunks.specs.ipc_format.columns.StoredColumns.{Column, slots}
use Rattle.tables_chunks.specs.ipc_format.columns.Tables.{chosen, rows_of_columns}
use Rattle.tables_chunks.specs.ipc_format.grammar.Tables.{chosen_batches, chosen_batches_with, left_of}
use Rattle.tables_chunks.proofs.Chunks.{rows_of_chunk}
use Rattle.tables_chunks.proofs.ipc_format_lemmas.FileLists.{behind, behind_none, behind_next, drop_next}
use Rattle.tables_rows.specs.EntryChoices.{GathersEntry, chosen_by}
use Rattle.tables_rows.specs.Gathered.{Batches, GathersBatches, kept}

-- ---- one message, and those behind it

module _ (layout : Layout) (columns : List ℕ) (standing : List Dictionary) (limit : Option ℕ) (entry : Entry) (others : List Entry) where
  -- what those behind it give
  abbrev later : List Dictionary → Option ℕ → Option Batches
  later now left = chosen_batches layout columns now left others

  by_dictionary : (enough : ByLookUps) (standing_after : List Dictionary) (given : Option Dictionary)
      → IsSomeAnd given (λ dictionary. StandAlike standing_after (dictionary ∷ standing))
      → (given >>= (λ dictionary. later (dictionary ∷ standing) limit)) ≡ later standing_after limit
  by_dictionary enough standing_after None is = absurd is
  by_dictionary enough standing_after (Some dictionary) is =
      sym (enough.chosen_messages layout columns standing_after (dictionary ∷ standing) limit others is)

  after_dictionary : (enough : ByLookUps) (standing_after : List Dictionary) (header : Header)
      → IsSomeAnd (dictionary_by layout standing entry header) (λ dictionary. StandAlike standing_after (dictionary ∷ standing))
      → chosen_batches_with layout standing entry limit columns later header ≡ later standing_after limit
  after_dictionary enough standing_after (schema table) is = absurd is
  after_dictionary enough standing_after (dictionary_batch table) is =
      by_dictionary enough standing_after (dictionary_in layout standing entry table) is
  after_dictionary enough standing_after (record_batch table) is = absurd is

  after_batch : (found : List (List Slot)) (header : Header) → chosen_by layout standing entry limit columns header ≡ Some found
      → chosen_batches_with layout standing entry limit columns later header
      ≡ (later standing (left_of limit (rows_of_columns found)) >>= (λ batches. Some (found ∷ batches)))
  after_batch found (schema table) is = absurd cc
  after_batch found (dictionary_batch table) is = absurd cc
  after_batch found (record_batch table) is =
      ap (λ (given : Option (List (List Slot))). given >>= (λ first. later standing (left_of limit (rows_of_columns first))
      >>= (λ batches. Some (first ∷ batches)))) is

  none_after : (header : Header) → dictionary_by layout standing entry header ≡ None
      → chosen_by layout standing entry limit columns header ≡ None
      → chosen_batches_with layout standing entry limit columns later header ≡ None
  none_after (schema table) first second = refl
  none_after (dictionary_batch table) first second =
      ap (λ (given : Option Dictionary). given >>= (λ dictionary. later (dictionary ∷ standing) limit)) first
  none_after (record_batch table) first second =
      ap (λ (given : Option (List (List Slot))). given >>= (λ found. later standing (left_of limit (rows_of_columns found))
      >>= (λ batches. Some (found ∷ batches)))) second

-- ---- the batches that have a row

abbrev has_row : List (List Slot) → Bool
has_row columns = not (nat_eq (rows_of_columns columns) 0)

kept_one : (found : List (List Slot)) (test : Bool) → nat_eq (rows_of_columns found) 0 ≡ test
    → kept (found ∷ []) ≡ cond (not test) (found ∷ []) []
kept_one found test is = ap (λ (has_none : Bool). cond (not has_none) (found ∷ []) []) is

-- a column is seen as itself
abbrev itself : Column → Column
itself column = column

kept_less : (done : Batches) (chunk : List Column) → rows_of itself chunk ≡ 0 → kept (done ++ map slots chunk ∷ []) ≡ kept done
kept_less done chunk none =
    filter-append has_row done (map slots chunk ∷ [])
    ∙ ap (λ more. kept done ++ more) (kept_one (map slots chunk) true (eq-eqb (rows_of_columns (map slots chunk)) 0 (rows_of_chunk chunk ∙ none)))
    ∙ append-nil (kept done)

kept_more : (done : Batches) (chunk : List Column) → (rows_of itself chunk ≡ 0 → ⊥)
    → kept (done ++ map slots chunk ∷ []) ≡ kept done ++ map slots chunk ∷ []
kept_more done chunk some =
    filter-append has_row done (map slots chunk ∷ [])
    ∙ ap (λ more. kept done ++ more) (kept_one (map slots chunk) false
    (ne_eqb (rows_of_columns (map slots chunk)) 0 (λ none. some (sym (rows_of_chunk chunk) ∙ none))))

-- ---- the first messages

-- The first k messages are gathered: under these dictionaries and this limit those are left that stand behind them.
pub record AreGathered (layout : Layout) (columns : List ℕ) (limit : Option ℕ) (entries : List Entry) (k : ℕ) (standing : List Dictionary)
    (left : Option ℕ) (chunks : List (List Column)) : Type 0 where
  pub done : Batches
  pub rest : chosen_batches layout columns [] limit entries ≡ behind done (chosen_batches layout columns standing left (drop k entries))
  pub rows : kept done ≡ slots_of_batches chunks
  pub types : All (AreOfFields (chosen columns layout.fields)) chunks

pub none_gathered : (layout : Layout) (columns : List ℕ) (limit : Option ℕ) (entries : List Entry) (standing : List Dictionary)
    (chunks : List (List Column)) → standing ≡ [] → chunks ≡ [] → AreGathered layout columns limit entries 0 standing limit chunks
none_gathered layout columns limit entries standing chunks none empty = rw (none, empty) (record {
  done = [];
  rest = sym (behind_none (chosen_batches layout columns [] limit entries));
  rows = refl;
  types = λ k d within. absurd (omega (arith, within));
})

module _ (layout : Layout) (columns : List ℕ) (limit : Option ℕ) (entries : List Entry) (k : ℕ) (standing : List Dictionary) (left : Option ℕ)
    (chunks : List (List Column)) (entry : Entry) (here : slice_get entries k ≡ Some entry)
    (are : AreGathered layout columns limit entries k standing left chunks) where
  -- those that stand behind the next one
  abbrev others : List Entry
  others = drop (suc k) entries

  step : chosen_batches layout columns [] limit entries
      ≡ behind are.done (chosen_batches_with layout standing entry left columns
      (λ now after. chosen_batches layout columns now after others) entry.header)
  step = are.rest ∙ ap (λ later. behind are.done (chosen_batches layout columns standing left later)) (drop_next entries k entry here)

  next : (now : List Dictionary) (after : Option ℕ) → chosen_batches layout columns now after others
      ≡ chosen_batches layout columns now after (drop (k + 1) entries)
  next now after =
      let same : suc k ≡ k + 1 = omega arith in
      ap (λ n. chosen_batches layout columns now after (drop n entries)) same

  pub dictionary_gathered : (enough : ByLookUps) (standing_after : List Dictionary)
      → GathersEntry layout columns standing standing_after left entry (Ok None)
      → AreGathered layout columns limit entries (k + 1) standing_after left chunks
  dictionary_gathered enough standing_after taken = record {
    done = are.done;
    rest = step
        ∙ ap (behind are.done) (after_dictionary layout columns standing left entry others enough standing_after entry.header taken
        ∙ next standing_after left);
    rows = are.rows;
    types = are.types;
  }

  batch_step : (standing_after : List Dictionary) (after : Option ℕ) (chunk : List Column)
      → GathersEntry layout columns standing standing_after left entry (Ok (Some chunk)) → after ≡ left_of left (rows_of itself chunk)
      → chosen_batches layout columns [] limit entries
      ≡ behind (are.done ++ map slots chunk ∷ []) (chosen_batches layout columns standing_after after (drop (k + 1) entries))
  batch_step standing_after after chunk found less =
      let same : left_of left (rows_of_columns (map slots chunk)) ≡ after = ap (left_of left) (rows_of_chunk chunk) ∙ sym less in
      step
      ∙ ap (behind are.done) (after_batch layout columns standing left entry others (map slots chunk) entry.header found.0)
      ∙ behind_next are.done (map slots chunk) (chosen_batches layout columns standing (left_of left (rows_of_columns (map slots chunk))) others)
      ∙ ap (λ now. behind (are.done ++ map slots chunk ∷ [])
      (chosen_batches layout columns now (left_of left (rows_of_columns (map slots chunk))) others)) (sym found.1)
      ∙ ap (λ n. behind (are.done ++ map slots chunk ∷ []) (chosen_batches layout columns standing_after n others)) same
      ∙ ap (behind (are.done ++ map slots chunk ∷ [])) (next standing_after after)

  -- a batch without a row
  pub batch_passed : (standing_after : List Dictionary) (after : Option ℕ) (chunk : List Column)
      → GathersEntry layout columns standing standing_after left entry (Ok (Some chunk)) → after ≡ left_of left (rows_of itself chunk)
      → rows_of itself chunk ≡ 0 → AreGathered layout columns limit entries (k + 1) standing_after after chunks
  batch_passed standing_after after chunk found less none = record {
    done = are.done ++ map slots chunk ∷ [];
    rest = batch_step standing_after after chunk found less;
    rows = kept_less are.done chunk none ∙ are.rows;
    types = are.types;
  }

  pub batch_gathered : (standing_after : List Dictionary) (after : Option ℕ) (chunk : List Column) (more : List (List Column))
      → GathersEntry layout columns standing standing_after left entry (Ok (Some chunk)) → after ≡ left_of left (rows_of itself chunk)
      → (rows_of itself chunk ≡ 0 → ⊥) → more ≡ chunks ++ chunk ∷ []
      → AreGathered layout columns limit entries (k + 1) standing_after after more
  batch_gathered standing_after after chunk more found less some pushed = record {
    done = are.done ++ map slots chunk ∷ [];
    rest = batch_step standing_after after chunk found less;
    rows = kept_more are.done chunk some ∙ ap (λ before. before ++ map slots chunk ∷ []) are.rows
        ∙ sym (map-append (map slots) chunks (chunk ∷ [])) ∙ ap slots_of_batches (sym pushed);
    types = subst (All (AreOfFields (chosen columns layout.fields))) (sym pushed)
        (All-push (AreOfFields (chosen columns layout.fields)) chunks chunk are.types found.2);
  }

  none_left : dictionary_by layout standing entry entry.header ≡ None
      → chosen_by layout standing entry left columns entry.header ≡ None → chosen_batches layout columns [] limit entries ≡ None
  none_left first second =
      step ∙ ap (behind are.done) (none_after layout columns standing left entry others entry.header first second)

  pub entry_ungathered : (standing_after : List Dictionary) (error : Error)
      → GathersEntry layout columns standing standing_after left entry (Err error) → GathersBatches layout columns limit entries (Err error)
  entry_ungathered standing_after (errors.OutOfSpec what) refused = none_left refused.0 refused.1
  entry_ungathered standing_after (errors.NotYetImplemented what) refused = (none_left refused.0.0 refused.1.0, (k, rw here (refused.0.1)))
  entry_ungathered standing_after errors.OutOfMemory refused = tt
  entry_ungathered standing_after (errors.Io what) refused = absurd refused.0
  entry_ungathered standing_after (errors.External from what) refused = absurd refused.0
  entry_ungathered standing_after (errors.InvalidArgumentError what) refused = absurd refused.0
  entry_ungathered standing_after (errors.ExternalFormat what) refused = absurd refused.0
  entry_ungathered standing_after errors.Overflow refused = absurd refused.0

-- ---- all messages

pub all_gathered : (layout : Layout) (columns : List ℕ) (limit : Option ℕ) (entries : List Entry) (k : ℕ) (standing : List Dictionary)
    (left : Option ℕ) (chunks : Vec (List Column) Global) → length entries ≤ k
    → AreGathered layout columns limit entries k standing left chunks.items → GathersBatches layout columns limit entries (Ok chunks)
all_gathered layout columns limit entries k standing left chunks past are =
    let there : chosen_batches layout columns [] limit entries ≡ Some are.done =
    are.rest ∙ ap (λ later. behind are.done (chosen_batches layout columns standing left later)) (drop_all k entries past)
    ∙ ap Some (append-nil are.done) in
    (rw there are.rows, are.types)
