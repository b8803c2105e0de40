-- What a file holds, by its footer and the messages at its blocks.
use Rattle.std.proofs.Common.{◌≡◌, ◌∙◌, ℕ, zero, suc, Bool, true, List, [], ◌∷◌, ◌++◌, length, refl, sym, ap, subst, inl, inr}
use Rattle.std.specs.Option.{option_map}
use Rattle.std.specs.Prelude.{Option, Some, None, IsSome, IsSomeAnd, nat_le, slice_get, ◌⊎◌}
use Rattle.tables_chunks.specs.ipc_format.BlockMessages.{HasCompressed, IsCompressedAt, IsUnreadAt}
use Rattle.tables_chunks.specs.ipc_format.BlockMessages as files
use Rattle.tables_chunks.specs.ipc_format.FileStarts.{Start, start_in}
use Rattle.tables_chunks.specs.ipc_format.Dictionaries.{Entry}
use Rattle.tables_chunks.specs.ipc_format.Messages.{Header, schema, dictionary_batch, record_batch}
use Rattle.tables_chunks.specs.ipc_format.Reading.{◌>>=◌, guard}
use Rattle.tables_chunks.specs.ipc_format.Refusals.{compression_in, is_delta}
use Rattle.tables_chunks.specs.ipc_format.grammar.Files.{Block, entry_at, entries_at, file_entries, is_dictionary, is_record_batch}
use Rattle.tables_chunks.specs.ipc_format.grammar.Limits.{most_dictionaries}
use Rattle.tables_chunks.specs.ipc_format.grammar.Tables.{Contents, file, contents_of}
use Rattle.tables_chunks.proofs.ipc_format_lemmas.EntryLists.{of_its_kind}
use Rattle.tables_chunks.proofs.ipc_format_lemmas.FileStarts.{contents_are, contents_with}
use Rattle.tables_chunks.proofs.ipc_format_lemmas.UnreadBlocks.{message_found}
use Rattle.tables_chunks.proofs.ipc_format_lemmas.Binding.{came_of, same_some}
use Rattle.tables_rows.specs.Gathered.{HasUnread}

-- ---- what it holds

abbrev pub contents_by : Start → List Entry → Contents
contents_by start entries = record { schema = start.schema; entries = entries }

-- what a file holds whose footer is known
pub file_holds : (bytes : List ℕ) (start : Start) (given : Option (List Entry)) → start_in bytes ≡ Some start
    → file_entries bytes start.dictionaries start.record_batches ≡ given → contents_of file bytes ≡ option_map (contents_by start) given
file_holds bytes start given e entries =
    contents_are bytes ∙ ap (λ (found : Option Start). found >>= contents_with bytes) e
    ∙ ap (λ (all : Option (List Entry)). all >>= (λ some. Some (contents_by start some))) entries ∙ as_map given
  where
    as_map : (given : Option (List Entry)) → (given >>= (λ some. Some (contents_by start some))) ≡ option_map (contents_by start) given
    as_map None = refl
    as_map (Some entries) = refl

-- where the footer says nothing, nothing is held
pub file_without : (bytes : List ℕ) → start_in bytes ≡ None → contents_of file bytes ≡ None
file_without bytes none = contents_are bytes ∙ ap (λ (found : Option Start). found >>= contents_with bytes) none

-- ---- what isn't read of a file

-- an entry of two lists stands in one of them
in_either : (values batches : List Entry) (k : ℕ) (entry : Entry) → slice_get (values ++ batches) k ≡ Some entry
    → (slice_get values k ≡ Some entry) ⊎ ((j : ℕ) × (slice_get batches j ≡ Some entry))
in_either [] batches k entry there = inr (k, there)
in_either (value ∷ values) batches zero entry there = inl there
in_either (value ∷ values) batches (suc k) entry there = in_either values batches k entry there

-- the message of entry k stands at block k
abbrev StandsAt : (Header → Bool) → List ℕ → List Block → ℕ → Entry → Type 0
StandsAt is_of_kind bytes blocks k entry =
    (block : Block) × (slice_get blocks k ≡ Some block) × (entry_at is_of_kind bytes block ≡ Some entry)

stands_first : (is_of_kind : Header → Bool) (bytes : List ℕ) (block : Block) (blocks : List Block) (first : Entry) (others : List Entry) (k : ℕ)
    (entry : Entry) → ((j : ℕ) → slice_get others j ≡ Some entry → StandsAt is_of_kind bytes blocks j entry)
    → entry_at is_of_kind bytes block ≡ Some first → slice_get (first ∷ others) k ≡ Some entry
    → StandsAt is_of_kind bytes (block ∷ blocks) k entry
stands_first is_of_kind bytes block blocks first others zero entry again e there = (block, refl, e ∙ there)
stands_first is_of_kind bytes block blocks first others (suc k) entry again e there = again k there

stands_at_block : (is_of_kind : Header → Bool) (bytes : List ℕ) (blocks : List Block) (entries : List Entry) (k : ℕ) (entry : Entry)
    → entries_at is_of_kind bytes blocks ≡ Some entries → slice_get entries k ≡ Some entry → StandsAt is_of_kind bytes blocks k entry
stands_at_block is_of_kind bytes [] entries k entry e there =
    let none : [] ≡ entries = same_some {A = List Entry} [] entries e in
    let nothing : slice_get {X = Entry} [] k ≡ Some entry = subst (λ (some : List Entry). slice_get some k ≡ Some entry) (sym none) there in
    absurd cc
stands_at_block is_of_kind bytes (block ∷ blocks) entries k entry e there =
    let a = came_of {A = Entry} (entry_at is_of_kind bytes block) _ entries e in
    let b = came_of {A = List Entry} (entries_at is_of_kind bytes blocks) _ entries a.2 in
    stands_first is_of_kind bytes block blocks a.0 b.0 k entry (λ j. stands_at_block is_of_kind bytes blocks b.0 j entry b.1) a.1
    (subst (λ (some : List Entry). slice_get some k ≡ Some entry) (sym (same_some {A = List Entry} (a.0 ∷ b.0) entries b.2)) there)

-- a message is compressed, or adds to an earlier dictionary
abbrev IsUnread : List ℕ × Header → Type 0
IsUnread found = IsSome (compression_in found) ⊎ (is_delta found.0 found.1 ≡ Some true)

unread_at : (is_of_kind : Header → Bool) (bytes : List ℕ) (block : Block) (entry : Entry) → entry_at is_of_kind bytes block ≡ Some entry
    → IsUnread (entry.metadata, entry.header) → IsUnreadAt bytes block
unread_at is_of_kind bytes block entry e unread =
    subst (λ given. IsSomeAnd given IsUnread) (sym (message_found is_of_kind bytes block entry e)) unread

-- a record batch adds to no dictionary
adds_none : (metadata : List ℕ) (header : Header) → is_record_batch header ≡ true → is_delta metadata header ≡ Some true → ⊥
adds_none metadata (schema table) is delta = absurd cc
adds_none metadata (dictionary_batch table) is delta = absurd cc
adds_none metadata (record_batch table) is delta = absurd cc

compressed_only : (metadata : List ℕ) (header : Header) → is_record_batch header ≡ true → IsUnread (metadata, header)
    → IsSome (compression_in (metadata, header))
compressed_only metadata header is (inl compressed) = compressed
compressed_only metadata header is (inr delta) = absurd (adds_none metadata header is delta)

compressed_at : (bytes : List ℕ) (block : Block) (entry : Entry) → entry_at is_record_batch bytes block ≡ Some entry
    → IsUnread (entry.metadata, entry.header) → IsCompressedAt bytes block
compressed_at bytes block entry e unread =
    subst (λ given. IsSomeAnd given (λ (found : List ℕ × Header). IsSome (compression_in found)))
    (sym (message_found is_record_batch bytes block entry e))
    (compressed_only entry.metadata entry.header (of_its_kind is_record_batch bytes block entry e) unread)

among_blocks : (bytes : List ℕ) (dictionaries record_batches : List Block) (values batches : List Entry) (k : ℕ) (entry : Entry)
    → entries_at is_dictionary bytes dictionaries ≡ Some values → entries_at is_record_batch bytes record_batches ≡ Some batches
    → slice_get (values ++ batches) k ≡ Some entry → IsUnread (entry.metadata, entry.header)
    → files.HasUnread bytes dictionaries ⊎ HasCompressed bytes record_batches
among_blocks bytes dictionaries record_batches values batches k entry v b there unread =
    by_list (in_either values batches k entry there)
  where
    by_list : (slice_get values k ≡ Some entry) ⊎ ((j : ℕ) × (slice_get batches j ≡ Some entry))
        → files.HasUnread bytes dictionaries ⊎ HasCompressed bytes record_batches
    by_list (inl found) =
        let it = stands_at_block is_dictionary bytes dictionaries values k entry v found in
        inl (k, subst (λ given. IsSomeAnd given (IsUnreadAt bytes)) (sym (it.1)) (unread_at is_dictionary bytes it.0 entry it.2 unread))
    by_list (inr found) =
        let it = stands_at_block is_record_batch bytes record_batches batches found.0 entry b found.1 in
        inr (found.0, subst (λ given. IsSomeAnd given (IsCompressedAt bytes)) (sym (it.1)) (compressed_at bytes it.0 entry it.2 unread))

unread_among : (bytes : List ℕ) (dictionaries record_batches : List Block) (entries : List Entry) (k : ℕ) (given : Option Entry)
    → file_entries bytes dictionaries record_batches ≡ Some entries → slice_get entries k ≡ given
    → IsSomeAnd given (λ entry. IsUnread (entry.metadata, entry.header))
    → files.HasUnread bytes dictionaries ⊎ HasCompressed bytes record_batches
unread_among bytes dictionaries record_batches entries k None e there unread = absurd unread
unread_among bytes dictionaries [] entries k (Some entry) e there unread =
    let none : [] ≡ entries = same_some {A = List Entry} [] entries e in
    let nothing : slice_get {X = Entry} [] k ≡ Some entry = subst (λ (some : List Entry). slice_get some k ≡ Some entry) (sym none) there in
    absurd cc
unread_among bytes dictionaries (block ∷ record_batches) entries k (Some entry) e there unread =
    let a = came_of {A = Bool} (guard (nat_le (length dictionaries) most_dictionaries)) _ entries e in
    let b = came_of {A = List Entry} (entries_at is_dictionary bytes dictionaries) _ entries a.2 in
    let c = came_of {A = List Entry} (entries_at is_record_batch bytes (block ∷ record_batches)) _ entries b.2 in
    among_blocks bytes dictionaries (block ∷ record_batches) b.0 c.0 k entry b.1 c.1
    (subst (λ (some : List Entry). slice_get some k ≡ Some entry) (sym (same_some {A = List Entry} (b.0 ++ c.0) entries c.2)) there) unread

pub unread_blocks : (bytes : List ℕ) (dictionaries record_batches : List Block) (entries : List Entry)
    → file_entries bytes dictionaries record_batches ≡ Some entries → HasUnread entries
    → files.HasUnread bytes dictionaries ⊎ HasCompressed bytes record_batches
unread_blocks bytes dictionaries record_batches entries e unread =
    unread_among bytes dictionaries record_batches entries unread.0 (slice_get entries unread.0) e refl unread.1
