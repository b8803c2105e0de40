-- The messages behind a stream's schema, whatever they hold (Arrow IPC, "IPC Streaming Format").
use Rattle.std.specs.Prelude.{◌≡◌, ◌⊎◌, ℕ, ◌<◌, ◌≤◌, true, List, [], ◌∷◌, ◌++◌, length, map, Option, Some, None, Result, Ok, Err}
use Rattle.std.specs.Option.{option_map}
use Rattle.std.specs.declared.alloc.Global.{Global}
use Rattle.std.specs.declared.vec.Vec.{Vec}
use Rattle.tables_chunks.specs.declared.fault.Fault.{Fault}
use Rattle.tables_chunks.specs.declared.fault.Fault.TheVariants as faults
use Rattle.tables_chunks.specs.ipc_format.FileEntries.{entries_view}
use Rattle.tables_chunks.specs.ipc_format.readers.declared.entries.Entry.{Entry}
use Rattle.tables_chunks.specs.ipc_format.Behind.{IsOutOfTurn}
use Rattle.tables_chunks.specs.ipc_format.Dictionaries as format
use Rattle.tables_chunks.specs.ipc_format.Framing.{Framed, nothing_whole, at_end, message_then, next_at}
use Rattle.tables_chunks.specs.ipc_format.Framing.{dictionaries_after, later_messages, truncated_from}
use Rattle.tables_chunks.specs.ipc_format.Messages.{Header, Version}
use Rattle.tables_chunks.specs.ipc_format.columnar_memory.declared.Error.TheVariants as errors
use Rattle.tables_chunks.specs.ipc_format.grammar.Tables.{stream_entry}

-- How many messages of dictionaries stand in a row behind one more message, or it may not stand there.
abbrev pub CountsInARow : ℕ → Header → Result ℕ Fault → Type 0
CountsInARow before header (Ok now) = dictionaries_after before header ≡ Some now
CountsInARow before header (Err (faults.Ipc (errors.OutOfSpec what))) = dictionaries_after before header ≡ None
CountsInARow before header (Err _) = ⊥

-- one message more stands behind others, and so many dictionaries then stand in a row before the next place
abbrev pub IsNext : Version → List ℕ → ℕ → ℕ → ℕ → List format.Entry → List format.Entry → ℕ → Type 0
IsNext version bytes place before now old new after = (framed : Framed) × (next_at bytes place ≡ Some (message_then framed after))
    × (dictionaries_after before framed.header ≡ Some now) × (new ≡ old ++ stream_entry version framed ∷ [])
    × (place < after) × (after ≤ length bytes)

-- why no message is found at a place: the stream ends within the first four bytes of one, the bytes there are none, or it may not stand there
abbrev pub RefusesNext : List ℕ → ℕ → ℕ → Fault → Type 0
RefusesNext bytes place before faults.Memory = Unit {0}
RefusesNext bytes place before faults.Unfinished = next_at bytes place ≡ Some nothing_whole
RefusesNext bytes place before (faults.Ipc (errors.OutOfSpec what)) = (next_at bytes place ≡ None) ⊎ IsOutOfTurn bytes place before
RefusesNext bytes place before _ = ⊥

-- The message at a place is put behind others, and the next place is said; at the end mark all stays.
abbrev pub PushesNext : Version → List ℕ → ℕ → ℕ → ℕ → List format.Entry → List format.Entry → Result (Option ℕ) Fault → Type 0
PushesNext version bytes place before now old new (Ok None) = (next_at bytes place ≡ Some at_end) × (new ≡ old)
PushesNext version bytes place before now old new (Ok (Some after)) = IsNext version bytes place before now old new after
PushesNext version bytes place before now old new (Err fault) = RefusesNext bytes place before fault

-- The messages from a place on, up to the end mark. A stream may end within the first four bytes of one; else the format gives none.
abbrev pub FindsEntries : Version → List ℕ → ℕ → Result (Vec Entry Global) Fault → Type 0
FindsEntries version bytes place (Ok entries) =
    option_map (map (stream_entry version)) (later_messages (length bytes) bytes place 0) ≡ Some (entries_view entries)
FindsEntries version bytes place (Err faults.Memory) = Unit {0}
FindsEntries version bytes place (Err faults.Unfinished) = truncated_from (length bytes) bytes place 0 ≡ Some true
FindsEntries version bytes place (Err (faults.Ipc (errors.OutOfSpec what))) =
    (later_messages (length bytes) bytes place 0 ≡ None) × (truncated_from (length bytes) bytes place 0 ≡ None)
FindsEntries version bytes place (Err _) = ⊥
