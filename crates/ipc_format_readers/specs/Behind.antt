-- What stands behind a stream's schema, and what isn't read of it (Arrow IPC, "IPC Streaming Format", "Dictionary Messages").
use Rattle.std.specs.Prelude.{◌≡◌, ◌⊎◌, ℕ, ◌≤◌, ◌^◌, true, List, [], length, Option, Some, None, IsSome, IsSomeAnd}
use Rattle.ipc_format_chunk_writing.specs.columns.Tables.{rows_of_batches}
use Rattle.ipc_format_chunk_writing.specs.grammar.Dictionaries.{Layout}
use Rattle.ipc_format_chunk_writing.specs.grammar.Framing as framing
use Rattle.ipc_format_chunk_writing.specs.grammar.Framing.{Framed, nothing_whole, next_at, dictionaries_after}
use Rattle.ipc_format_chunk_writing.specs.grammar.Messages.{Version}
use Rattle.ipc_format_chunk_writing.specs.grammar.Refusals.{message_there, next_after, compression_in, is_delta}
use Rattle.ipc_format_readers.specs.Steps.{first_from}

-- the message that stands there, if one does, is compressed, or adds to an earlier dictionary
abbrev pub IsUnreadThere : Option framing.Next → Type 0
IsUnreadThere given = IsSomeAnd given (λ next. IsSomeAnd (message_there next) (λ found.
    IsSome (compression_in found) ⊎ (is_delta found.0 found.1 ≡ Some true)))

-- the message at a place may not stand behind so many messages of dictionaries in a row
abbrev pub IsOutOfTurn : List ℕ → ℕ → ℕ → Type 0
IsOutOfTurn bytes place in_a_row = (framed : Framed) × (after : ℕ) × (next_at bytes place ≡ Some (framing.message_then framed after))
    × (dictionaries_after in_a_row framed.header ≡ None)

-- message n from a place on is compressed, or adds to an earlier dictionary
abbrev pub HasUnreadFrom : List ℕ → ℕ → Type 0
HasUnreadFrom bytes place = (n : ℕ) × IsUnreadThere (next_after n bytes place)

-- the first batches from a place on have more rows than 64 bits count
abbrev pub HasTooManyFrom : Layout → Version → List ℕ → ℕ → Type 0
HasTooManyFrom layout version bytes place =
    (n : ℕ) × IsSomeAnd (first_from layout version [] n bytes place) (λ batches. 2 ^ 64 ≤ length (rows_of_batches batches))

-- the messages from a place on are read up to where the stream is truncated
abbrev pub IsUnfinishedFrom : Layout → Version → List ℕ → ℕ → Type 0
IsUnfinishedFrom layout version bytes place =
    (n : ℕ) × (next_after n bytes place ≡ Some nothing_whole) × IsSome (first_from layout version [] n bytes place)
