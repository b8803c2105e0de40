-- The columns of a batch that are asked for are those in the order in which they stand, put where they were asked for; and under dictionaries that
-- stand alike they are the same.
use Rattle.std.proofs.Common.{◌≡◌, ◌∙◌, ℕ, List, refl, sym, ap}
use Rattle.std.specs.Prelude.{Option, Some, None}
use Rattle.std.specs.Option.{option_map}
use Rattle.ipc_format_readers.specs.Asking.{AreReady, IsReady, as_asked, asked_columns, asked_of, rising_of}
use Rattle.ipc_format_readers.specs.declared.asking.Asked.{Asked}
use Rattle.ipc_format_chunk_writing.specs.Projections.{ChoicesArePutBack, put_back}
use Rattle.ipc_format_chunk_writing.specs.Readable.{HasArrays}
use Rattle.ipc_format_chunk_writing.specs.Standing.{ByLookUps, StandAlike}
use Rattle.ipc_format_chunk_writing.specs.columns.Slots.{Slot}
use Rattle.ipc_format_chunk_writing.specs.flatbuffers.Reading.{◌>>=◌}
use Rattle.ipc_format_chunk_writing.specs.grammar.Columns.{Dictionary}
use Rattle.ipc_format_chunk_writing.specs.grammar.Dictionaries.{Entry, Layout}
use Rattle.ipc_format_chunk_writing.specs.grammar.Files.{Block, entry_at, is_record_batch}
use Rattle.ipc_format_chunk_writing.specs.grammar.Messages.{Header, schema, dictionary_batch, record_batch}
use Rattle.ipc_format_readers.proofs.Binding.{bind_same}
use Rattle.ipc_format_readers.specs.FileReads.{asked_at, asked_by, asked_or_all}

-- ---- under dictionaries that stand alike

alike_by : ByLookUps → (layout : Layout) (old new : List Dictionary) (columns : Option (List ℕ)) (limit : Option ℕ) (entry : Entry)
    (header : Header) → StandAlike old new
    → asked_by columns layout old limit entry header ≡ asked_by columns layout new limit entry header
alike_by enough layout old new columns limit entry (schema table) alike = refl
alike_by enough layout old new columns limit entry (dictionary_batch table) alike = refl
alike_by enough layout old new columns limit entry (record_batch table) alike =
    enough.choices layout old new entry limit (asked_or_all columns layout.fields) table alike

pub asked_alike : ByLookUps → (layout : Layout) (old new : List Dictionary) (columns : Option (List ℕ)) (limit : Option ℕ) (block : Block)
    (bytes : List ℕ) → StandAlike old new → asked_at columns layout old limit block bytes ≡ asked_at columns layout new limit block bytes
asked_alike enough layout old new columns limit block bytes alike =
    bind_same (entry_at is_record_batch bytes block) (λ (e : Entry). asked_by columns layout old limit e e.header)
    (λ (e : Entry). asked_by columns layout new limit e e.header)
    (λ (e : Entry). alike_by enough layout old new columns limit e e.header alike)

-- ---- put where they were asked for

-- what comes of each is mapped, so what comes is
mapped : {A B C : Type 0} (o : Option A) (f : A → Option C) (g : A → Option B) (h : B → C) → ((x : A) → f x ≡ option_map h (g x))
    → (o >>= f) ≡ option_map h (o >>= g)
mapped None f g h same = refl
mapped (Some x) f g h same = same x

back_by : ChoicesArePutBack → (layout : Layout) → HasArrays layout → (standing : List Dictionary) (limit : Option ℕ) (width : ℕ) (asked : Asked)
    → IsReady width asked → (entry : Entry) (header : Header) → asked_by (Some (asked_columns asked)) layout standing limit entry header
    ≡ option_map (put_back asked.places.entries) (asked_by (Some asked.rising.items) layout standing limit entry header)
back_by law layout have standing limit width asked ready entry (schema table) = refl
back_by law layout have standing limit width asked ready entry (dictionary_batch table) = refl
back_by law layout have standing limit width asked ready entry (record_batch table) =
    sym (have.choices standing limit (asked_columns asked) entry table)
    ∙ law layout standing limit entry table (asked_columns asked) asked.rising.items asked.places.entries refl ready.wanted
    ∙ ap (option_map (put_back asked.places.entries)) (have.choices standing limit asked.rising.items entry table)

-- what comes of those that are asked for, by what comes of the rising ones
pub asked_back : ChoicesArePutBack → (layout : Layout) → HasArrays layout → (standing : List Dictionary) (limit : Option ℕ) (width : ℕ)
    (asked : Option Asked) → AreReady width asked → (block : Block) (bytes : List ℕ) (found : Option (List (List Slot)))
    → asked_at (rising_of asked) layout standing limit block bytes ≡ found
    → asked_at (asked_of asked) layout standing limit block bytes ≡ option_map (as_asked asked) found
asked_back law layout have standing limit width None ready block bytes None is = is
asked_back law layout have standing limit width None ready block bytes (Some columns) is = is
asked_back law layout have standing limit width (Some asked) ready block bytes found is =
    mapped (entry_at is_record_batch bytes block) (λ (e : Entry). asked_by (Some (asked_columns asked)) layout standing limit e e.header)
    (λ (e : Entry). asked_by (Some asked.rising.items) layout standing limit e e.header) (put_back asked.places.entries)
    (λ (e : Entry). back_by law layout have standing limit width asked ready e e.header)
    ∙ ap (option_map (put_back asked.places.entries)) is
