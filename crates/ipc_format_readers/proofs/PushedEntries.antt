-- Messages that are put behind others, block by block.
use Rattle.std.proofs.Common.{◌≡◌, ◌∙◌, ℕ, suc, ◌+◌, ◌≤◌, ◌<◌, Bool, List, [], ◌∷◌, ◌++◌, length, drop, refl, sym, ap, arith, append-nil}
use Rattle.std.proofs.lemmas.Bool.{le-leb}
use Rattle.std.proofs.lemmas.List.{drop_all}
use Rattle.std.specs.Prelude.{Option, Some, None, slice_get}
use Rattle.ipc_format_chunk_writing.specs.columnar_memory.declared.Error.{Error}
use Rattle.ipc_format_chunk_writing.specs.flatbuffers.Reading.{◌>>=◌}
use Rattle.ipc_format_chunk_writing.specs.grammar.Dictionaries.{Entry}
use Rattle.ipc_format_chunk_writing.specs.grammar.Files.{Block, entry_at, entries_at, file_entries}
use Rattle.ipc_format_chunk_writing.specs.grammar.Files.{is_dictionary, is_record_batch}
use Rattle.ipc_format_chunk_writing.specs.grammar.Limits.{most_dictionaries}
use Rattle.ipc_format_chunk_writing.specs.grammar.Messages.{Header}
use Rattle.ipc_format_chunk_writing.specs.metadata.Reading.{Refuses}
use Rattle.ipc_format_readers.proofs.Binding.{same_some}
use Rattle.ipc_format_readers.proofs.Lists.{behind, behind_next, drop_next}
use Rattle.ipc_format_readers.proofs.MessageReads.{refused_too}

-- the messages at the first k blocks stand behind others
abbrev pub ArePushed : (Header → Bool) → List ℕ → List Block → List Entry → ℕ → List Entry → Type 0
ArePushed is_of_kind bytes blocks before k read =
    behind before (entries_at is_of_kind bytes blocks) ≡ behind read (entries_at is_of_kind bytes (drop k blocks))

-- what is left of them, by the next one
next_left : (is_of_kind : Header → Bool) (bytes : List ℕ) (blocks : List Block) (before : List Entry) (k : ℕ) (block : Block) (read : List Entry)
    (found : Option Entry) → slice_get blocks k ≡ Some block → entry_at is_of_kind bytes block ≡ found
    → ArePushed is_of_kind bytes blocks before k read
    → behind before (entries_at is_of_kind bytes blocks)
    ≡ behind read (found >>= (λ first. entries_at is_of_kind bytes (drop (suc k) blocks) >>= (λ others. Some (first ∷ others))))
next_left is_of_kind bytes blocks before k block read found here is pushed =
    pushed
    ∙ ap (λ (later : List Block). behind read (entries_at is_of_kind bytes later)) (drop_next blocks k block here)
    ∙ ap (λ (given : Option Entry). behind read (given >>= (λ first. entries_at is_of_kind bytes (drop (suc k) blocks)
    >>= (λ others. Some (first ∷ others))))) is

-- one message more
pub one_pushed : (is_of_kind : Header → Bool) (bytes : List ℕ) (blocks : List Block) (before : List Entry) (k : ℕ) (block : Block)
    (read more : List Entry) (entry : Entry) → slice_get blocks k ≡ Some block → entry_at is_of_kind bytes block ≡ Some entry
    → more ≡ read ++ entry ∷ [] → ArePushed is_of_kind bytes blocks before k read → ArePushed is_of_kind bytes blocks before (k + 1) more
one_pushed is_of_kind bytes blocks before k block read more entry here is grown pushed =
    let next : suc k ≡ k + 1 = omega arith in
    next_left is_of_kind bytes blocks before k block read (Some entry) here is pushed
    ∙ behind_next read entry (entries_at is_of_kind bytes (drop (suc k) blocks))
    ∙ ap (λ (all : List Entry). behind all (entries_at is_of_kind bytes (drop (suc k) blocks))) (sym grown)
    ∙ ap (λ n. behind more (entries_at is_of_kind bytes (drop n blocks))) next

-- where one isn't there, there are none
pub one_lacking : (is_of_kind : Header → Bool) (bytes : List ℕ) (blocks : List Block) (before : List Entry) (k : ℕ) (block : Block)
    (read : List Entry) → slice_get blocks k ≡ Some block → entry_at is_of_kind bytes block ≡ None
    → ArePushed is_of_kind bytes blocks before k read → behind before (entries_at is_of_kind bytes blocks) ≡ None
one_lacking is_of_kind bytes blocks before k block read here is pushed =
    next_left is_of_kind bytes blocks before k block read None here is pushed

-- all of them
pub all_pushed : (is_of_kind : Header → Bool) (bytes : List ℕ) (blocks : List Block) (before : List Entry) (k : ℕ) (read : List Entry)
    → length blocks ≤ k → ArePushed is_of_kind bytes blocks before k read → behind before (entries_at is_of_kind bytes blocks) ≡ Some read
all_pushed is_of_kind bytes blocks before k read past pushed =
    pushed ∙ ap (λ (later : List Block). behind read (entries_at is_of_kind bytes later)) (drop_all k blocks past) ∙ ap Some (append-nil read)

-- ---- dictionaries, and record batches behind them

abbrev joined : Option (List Entry) → Option (List Entry) → Option (List Entry)
joined values batches = values >>= (λ xs. batches >>= (λ ys. Some (xs ++ ys)))

both_found : (values batches : Option (List Entry)) (before all : List Entry) → behind [] values ≡ Some before → behind before batches ≡ Some all
    → joined values batches ≡ Some all
both_found None batches before all first then = absurd cc
both_found (Some xs) None before all first then = absurd cc
both_found (Some xs) (Some ys) before all first then =
    ap (λ (vs : List Entry). Some (vs ++ ys)) (same_some xs before first) ∙ then

none_before : (values batches : Option (List Entry)) → behind [] values ≡ None → joined values batches ≡ None
none_before None batches none = refl
none_before (Some xs) batches none = absurd cc

none_behind : (values batches : Option (List Entry)) (before : List Entry) → behind before batches ≡ None → joined values batches ≡ None
none_behind None batches before none = refl
none_behind (Some xs) None before none = refl
none_behind (Some xs) (Some ys) before none = absurd cc

-- the messages of a file are both, where there is a record batch, and not too many dictionaries
file_joined : (bytes : List ℕ) (dictionaries record_batches : List Block) → 0 < length record_batches → length dictionaries ≤ most_dictionaries
    → file_entries bytes dictionaries record_batches
    ≡ joined (entries_at is_dictionary bytes dictionaries) (entries_at is_record_batch bytes record_batches)
file_joined bytes dictionaries [] some few = absurd (omega (arith, some))
file_joined bytes dictionaries (block ∷ blocks) some few = rw (le-leb (length dictionaries) most_dictionaries few) refl

pub both_pushed : (bytes : List ℕ) (dictionaries record_batches : List Block) (before all : List Entry) → 0 < length record_batches
    → length dictionaries ≤ most_dictionaries → behind [] (entries_at is_dictionary bytes dictionaries) ≡ Some before
    → behind before (entries_at is_record_batch bytes record_batches) ≡ Some all
    → file_entries bytes dictionaries record_batches ≡ Some all
both_pushed bytes dictionaries record_batches before all some few first then =
    file_joined bytes dictionaries record_batches some few
    ∙ both_found (entries_at is_dictionary bytes dictionaries) (entries_at is_record_batch bytes record_batches) before all first then

pub dictionaries_lacking : (bytes : List ℕ) (dictionaries record_batches : List Block) (error : Error) → 0 < length record_batches
    → length dictionaries ≤ most_dictionaries → Refuses ⊥ error (behind [] (entries_at is_dictionary bytes dictionaries))
    → Refuses ⊥ error (file_entries bytes dictionaries record_batches)
dictionaries_lacking bytes dictionaries record_batches error some few refused =
    refused_too ⊥ ⊥ error (behind [] (entries_at is_dictionary bytes dictionaries)) (file_entries bytes dictionaries record_batches)
    (λ none. file_joined bytes dictionaries record_batches some few
    ∙ none_before (entries_at is_dictionary bytes dictionaries) (entries_at is_record_batch bytes record_batches) none) (λ unread. unread) refused

pub batches_lacking : (bytes : List ℕ) (dictionaries record_batches : List Block) (before : List Entry) (error : Error)
    → 0 < length record_batches → length dictionaries ≤ most_dictionaries
    → Refuses ⊥ error (behind before (entries_at is_record_batch bytes record_batches))
    → Refuses ⊥ error (file_entries bytes dictionaries record_batches)
batches_lacking bytes dictionaries record_batches before error some few refused =
    refused_too ⊥ ⊥ error (behind before (entries_at is_record_batch bytes record_batches)) (file_entries bytes dictionaries record_batches)
    (λ none. file_joined bytes dictionaries record_batches some few
    ∙ none_behind (entries_at is_dictionary bytes dictionaries) (entries_at is_record_batch bytes record_batches) before none) (λ unread. unread)
    refused
