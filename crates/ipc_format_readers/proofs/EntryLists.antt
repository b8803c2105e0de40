-- The messages of a file, read block by block.
use Rattle.std.proofs.Common.{◌≡◌, ◌∙◌, ℕ, Bool, true, false, List, [], ◌∷◌, ◌++◌, length, refl, sym, ap, subst, nat_le}
use Rattle.std.specs.Prelude.{Option, Some, None}
use Rattle.ipc_format_chunk_writing.specs.columns.Slots.{Slot}
use Rattle.ipc_format_chunk_writing.specs.columns.Tables.{rows_of_columns}
use Rattle.ipc_format_chunk_writing.specs.flatbuffers.Reading.{◌>>=◌, guard}
use Rattle.ipc_format_chunk_writing.specs.grammar.Columns.{Dictionary}
use Rattle.ipc_format_chunk_writing.specs.grammar.Dictionaries.{Entry, Layout}
use Rattle.ipc_format_chunk_writing.specs.grammar.Files.{Block, entry_at, entries_at, file_entries}
use Rattle.ipc_format_chunk_writing.specs.grammar.Files.{header_in, is_dictionary, is_record_batch, metadata_of}
use Rattle.ipc_format_chunk_writing.specs.grammar.Framing.{Frame, frame_at}
use Rattle.ipc_format_chunk_writing.specs.grammar.Limits.{most_dictionaries}
use Rattle.ipc_format_chunk_writing.specs.grammar.Messages.{Header, Version, schema, dictionary_batch, record_batch, version_in}
use Rattle.ipc_format_chunk_writing.specs.grammar.Tables.{chosen_batches, chosen_batches_with, left_of}
use Rattle.ipc_format_readers.proofs.Binding.{bind_assoc, bind_same, came_of, same_some}
use Rattle.ipc_format_readers.specs.BlockMessages.{dictionary_by, standing_after}
use Rattle.ipc_format_readers.specs.BlockRuns.{batches_at_blocks}
use Rattle.ipc_format_readers.specs.FileReads.{asked_by, dictionaries_before}

abbrev Batches : Type 0
Batches = List (List (List Slot))

-- ---- what a message at a block is

guarded : (test : Bool) (found : Bool) → guard test ≡ Some found → test ≡ true
guarded true found e = refl
guarded false found e = absurd cc

-- a message at a block is of its list's kind
pub of_its_kind : (is_of_kind : Header → Bool) (bytes : List ℕ) (block : Block) (entry : Entry) → entry_at is_of_kind bytes block ≡ Some entry
    → is_of_kind entry.header ≡ true
unfolding entry_at
of_its_kind is_of_kind bytes block entry e =
    let a = came_of {A = Frame} (frame_at bytes block.offset) _ entry e in
    let b = came_of {A = List ℕ} (metadata_of a.0) _ entry a.2 in
    let c = came_of {A = Header} (header_in b.0) _ entry b.2 in
    let d = came_of {A = Bool} (guard (is_of_kind c.0)) _ entry c.2 in
    let f = came_of {A = Version} (version_in b.0) _ entry d.2 in
    let same : c.0 ≡ entry.header = ap (λ (e : Entry). e.header) (same_some {A = Entry} _ entry f.2) in
    subst (λ (h : Header). is_of_kind h ≡ true) same (guarded (is_of_kind c.0) d.0 d.1)

-- ---- one thing after another, in either order

nothing : {A B : Type 0} (r : Option A) → ◌≡◌ {A = Option B} None (r >>= (λ x. None))
nothing None = refl
nothing (Some x) = refl

without : {A B C : Type 0} (r : Option A) (f : A → Option B) (g : B → Option C) → ((x : A) → ◌≡◌ {A = Option C} None (f x >>= g))
    → ◌≡◌ {A = Option C} None ((r >>= f) >>= g)
without None f g none = refl
without (Some x) f g none = none x

joined : {A B : Type 0} (r s : Option (List A)) (f : List A → Option B)
    → ((r >>= (λ xs. s >>= (λ ys. Some (xs ++ ys)))) >>= f) ≡ (s >>= (λ ys. r >>= (λ xs. f (xs ++ ys))))
joined None None f = refl
joined None (Some ys) f = refl
joined (Some xs) None f = refl
joined (Some xs) (Some ys) f = refl

swapped : {A B C : Type 0} (r : Option A) (s : Option B) (f : A → B → Option C)
    → (r >>= (λ x. s >>= (λ y. f x y))) ≡ (s >>= (λ y. r >>= (λ x. f x y)))
swapped None None f = refl
swapped None (Some y) f = refl
swapped (Some x) None f = refl
swapped (Some x) (Some y) f = refl

guard_same : {A B C : Type 0} (test : Bool) (r : Option A) (s : Option B) (f : A → Option C) (g : B → Option C) → (r >>= f) ≡ (s >>= g)
    → ((guard test >>= (λ _. r)) >>= f) ≡ ((guard test >>= (λ _. s)) >>= g)
guard_same true r s f g same = same
guard_same false r s f g same = refl

-- ---- dictionaries, and what stands behind them

-- What reads messages under the dictionaries that stand, so that a dictionary stands for those after it.
abbrev Reads : Layout → (List Dictionary → List Entry → Option Batches) → Type 0
Reads layout read = (standing : List Dictionary) (entry : Entry) (others : List Entry) → is_dictionary entry.header ≡ true
    → read standing (entry ∷ others) ≡ (dictionary_by layout standing entry entry.header >>= (λ d. read (d ∷ standing) others))

module _ (layout : Layout) (bytes : List ℕ) (read : List Dictionary → List Entry → Option Batches) (reads : Reads layout read) where
  dictionaries_by : (standing : List Dictionary) (later : List Entry) (rest : Option (List Entry)) (blocks : List Block) (found : Option Entry)
      → ((entry : Entry) → found ≡ Some entry → is_dictionary entry.header ≡ true)
      → ((now : List Dictionary) → (rest >>= (λ values. read now (values ++ later)))
      ≡ (standing_after layout bytes now blocks >>= (λ then. read then later)))
      → ((found >>= (λ entry. rest >>= (λ others. Some (entry ∷ others)))) >>= (λ values. read standing (values ++ later)))
      ≡ (((found >>= (λ entry. dictionary_by layout standing entry entry.header)) >>= (λ d. standing_after layout bytes (d ∷ standing) blocks))
      >>= (λ then. read then later))
  dictionaries_by standing later rest blocks None kind same = refl
  dictionaries_by standing later None blocks (Some entry) kind same =
      without (dictionary_by layout standing entry entry.header) (λ d. standing_after layout bytes (d ∷ standing) blocks)
      (λ then. read then later) (λ d. same (d ∷ standing))
  dictionaries_by standing later (Some values) blocks (Some entry) kind same =
      reads standing entry (values ++ later) (kind entry refl)
      ∙ bind_same (dictionary_by layout standing entry entry.header) (λ d. read (d ∷ standing) (values ++ later))
      (λ d. standing_after layout bytes (d ∷ standing) blocks >>= (λ then. read then later)) (λ d. same (d ∷ standing))
      ∙ sym (bind_assoc (dictionary_by layout standing entry entry.header) (λ d. standing_after layout bytes (d ∷ standing) blocks)
      (λ then. read then later))

  dictionaries_there : (later : List Entry) (blocks : List Block) (standing : List Dictionary)
      → (entries_at is_dictionary bytes blocks >>= (λ values. read standing (values ++ later)))
      ≡ (standing_after layout bytes standing blocks >>= (λ now. read now later))
  dictionaries_there later [] standing = refl
  dictionaries_there later (block ∷ blocks) standing =
      dictionaries_by standing later (entries_at is_dictionary bytes blocks) blocks (entry_at is_dictionary bytes block)
      (of_its_kind is_dictionary bytes block) (dictionaries_there later blocks)

  both_there : (dictionaries record_batches : List Block) (there : List Dictionary → Option Batches)
      → ((now : List Dictionary) → (entries_at is_record_batch bytes record_batches >>= (λ later. read now later)) ≡ there now)
      → ((entries_at is_dictionary bytes dictionaries >>= (λ values. entries_at is_record_batch bytes record_batches
      >>= (λ batches. Some (values ++ batches)))) >>= (λ entries. read [] entries)) ≡ (standing_after layout bytes [] dictionaries >>= there)
  both_there dictionaries record_batches there same =
      let values = entries_at is_dictionary bytes dictionaries in
      let batches = entries_at is_record_batch bytes record_batches in
      let standing = standing_after layout bytes [] dictionaries in
      joined values batches (λ entries. read [] entries)
      ∙ bind_same batches (λ later. values >>= (λ vs. read [] (vs ++ later))) (λ later. standing >>= (λ now. read now later))
      (λ later. dictionaries_there later dictionaries [])
      ∙ swapped batches standing (λ later now. read now later)
      ∙ bind_same standing (λ now. batches >>= (λ later. read now later)) there same

-- ---- chosen columns, under a limit of rows

choice_with_dictionary : (layout : Layout) (standing : List Dictionary) (entry : Entry) (limit : Option ℕ) (columns : List ℕ)
    (rest : List Dictionary → Option ℕ → Option Batches) (header : Header) → is_dictionary header ≡ true
    → chosen_batches_with layout standing entry limit columns rest header
    ≡ (dictionary_by layout standing entry header >>= (λ d. rest (d ∷ standing) limit))
choice_with_dictionary layout standing entry limit columns rest (schema table) is = absurd cc
choice_with_dictionary layout standing entry limit columns rest (dictionary_batch table) is = refl
choice_with_dictionary layout standing entry limit columns rest (record_batch table) is = absurd cc

choice_with_batch : (layout : Layout) (standing : List Dictionary) (entry : Entry) (limit : Option ℕ) (columns : List ℕ)
    (rest : List Dictionary → Option ℕ → Option Batches) (header : Header) → is_record_batch header ≡ true
    → chosen_batches_with layout standing entry limit columns rest header
    ≡ (asked_by (Some columns) layout standing limit entry header
    >>= (λ found. rest standing (left_of limit (rows_of_columns found)) >>= (λ batches. Some (found ∷ batches))))
choice_with_batch layout standing entry limit columns rest (schema table) is = absurd cc
choice_with_batch layout standing entry limit columns rest (dictionary_batch table) is = absurd cc
choice_with_batch layout standing entry limit columns rest (record_batch table) is = refl

module _ (layout : Layout) (bytes : List ℕ) (columns : List ℕ) where
  choices_by : (standing : List Dictionary) (limit : Option ℕ) (rest : Option (List Entry)) (there : Option ℕ → Option Batches)
      (found : Option Entry) → ((entry : Entry) → found ≡ Some entry → is_record_batch entry.header ≡ true)
      → ((left : Option ℕ) → (rest >>= (λ entries. chosen_batches layout columns standing left entries)) ≡ there left)
      → ((found >>= (λ entry. rest >>= (λ others. Some (entry ∷ others)))) >>= (λ entries. chosen_batches layout columns standing limit entries))
      ≡ ((found >>= (λ entry. asked_by (Some columns) layout standing limit entry entry.header))
      >>= (λ chosen. there (left_of limit (rows_of_columns chosen)) >>= (λ others. Some (chosen ∷ others))))
  choices_by standing limit rest there None kind same = refl
  choices_by standing limit None there (Some entry) kind same =
      nothing (asked_by (Some columns) layout standing limit entry entry.header)
      ∙ bind_same (asked_by (Some columns) layout standing limit entry entry.header) (λ chosen. None)
      (λ chosen. there (left_of limit (rows_of_columns chosen)) >>= (λ others. Some (chosen ∷ others)))
      (λ chosen. ap (λ (later : Option Batches). later >>= (λ others. Some (chosen ∷ others))) (same (left_of limit (rows_of_columns chosen))))
  choices_by standing limit (Some entries) there (Some entry) kind same =
      choice_with_batch layout standing entry limit columns (λ now left. chosen_batches layout columns now left entries) entry.header
      (kind entry refl)
      ∙ bind_same (asked_by (Some columns) layout standing limit entry entry.header)
      (λ chosen. chosen_batches layout columns standing (left_of limit (rows_of_columns chosen)) entries
      >>= (λ others. Some (chosen ∷ others)))
      (λ chosen. there (left_of limit (rows_of_columns chosen)) >>= (λ others. Some (chosen ∷ others)))
      (λ chosen. ap (λ (later : Option Batches). later >>= (λ others. Some (chosen ∷ others))) (same (left_of limit (rows_of_columns chosen))))

  choices_there : (blocks : List Block) (standing : List Dictionary) (limit : Option ℕ)
      → (entries_at is_record_batch bytes blocks >>= (λ entries. chosen_batches layout columns standing limit entries))
      ≡ batches_at_blocks (Some columns) layout standing limit blocks bytes
  choices_there [] standing limit = refl
  choices_there (block ∷ blocks) standing limit =
      choices_by standing limit (entries_at is_record_batch bytes blocks)
      (λ left. batches_at_blocks (Some columns) layout standing left blocks bytes) (entry_at is_record_batch bytes block)
      (of_its_kind is_record_batch bytes block) (λ left. choices_there blocks standing left)

  -- the chosen columns of a file's messages
  pub chosen_there : (dictionaries record_batches : List Block) (limit : Option ℕ)
      → (file_entries bytes dictionaries record_batches >>= (λ entries. chosen_batches layout columns [] limit entries))
      ≡ (dictionaries_before layout bytes dictionaries record_batches
      >>= (λ standing. batches_at_blocks (Some columns) layout standing limit record_batches bytes))
  chosen_there dictionaries [] limit = refl
  chosen_there dictionaries (block ∷ blocks) limit =
      guard_same (nat_le (length dictionaries) most_dictionaries)
      (entries_at is_dictionary bytes dictionaries >>= (λ values. entries_at is_record_batch bytes (block ∷ blocks)
      >>= (λ batches. Some (values ++ batches))))
      (standing_after layout bytes [] dictionaries) (λ entries. chosen_batches layout columns [] limit entries)
      (λ standing. batches_at_blocks (Some columns) layout standing limit (block ∷ blocks) bytes)
      (both_there layout bytes (λ now entries. chosen_batches layout columns now limit entries)
      (λ standing entry others is. choice_with_dictionary layout standing entry limit columns
      (λ now left. chosen_batches layout columns now left others) entry.header is)
      dictionaries (block ∷ blocks) (λ now. batches_at_blocks (Some columns) layout now limit (block ∷ blocks) bytes)
      (λ now. choices_there (block ∷ blocks) now limit))
