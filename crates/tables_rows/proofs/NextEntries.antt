-- Why no message is found at a place of a stream.
use Rattle.std.proofs.Common.{◌≡◌, ℕ, List, inl, inr}
use Rattle.std.specs.Prelude.{Some, Err}
use Rattle.tables_chunks.specs.declared.fault.Fault.{Fault}
use Rattle.tables_chunks.specs.declared.fault.Fault.TheVariants as faults
use Rattle.tables_chunks.specs.ipc_format.Dictionaries.{Entry}
use Rattle.tables_chunks.specs.ipc_format.Framing.{Framed, message_then, next_at}
use Rattle.tables_chunks.specs.ipc_format.Messages.{Version}
use Rattle.tables_chunks.specs.ipc_format.columnar_memory.declared.Error.TheVariants as errors
use Rattle.tables_rows.specs.StreamEntries.{CountsInARow, FindsEntries, RefusesNext}
use Rattle.tables_rows.proofs.FoundEntries.{EntriesFound, found_broken, found_cut, found_out_of_turn}

-- a message that may not stand where it does
pub turn_refused : (fault : Fault) (bytes : List ℕ) (place in_a_row after : ℕ) (framed : Framed)
    → next_at bytes place ≡ Some (message_then framed after) → CountsInARow in_a_row framed.header (Err fault)
    → RefusesNext bytes place in_a_row fault
turn_refused (faults.Ipc (errors.OutOfSpec what)) bytes place in_a_row after framed there refused = inr (framed, after, there, refused)
turn_refused (faults.Ipc (errors.NotYetImplemented what)) bytes place in_a_row after framed there refused = absurd refused
turn_refused (faults.Ipc (errors.External from what)) bytes place in_a_row after framed there refused = absurd refused
turn_refused (faults.Ipc (errors.Io what)) bytes place in_a_row after framed there refused = absurd refused
turn_refused (faults.Ipc (errors.InvalidArgumentError what)) bytes place in_a_row after framed there refused = absurd refused
turn_refused (faults.Ipc (errors.ExternalFormat what)) bytes place in_a_row after framed there refused = absurd refused
turn_refused (faults.Ipc errors.OutOfMemory) bytes place in_a_row after framed there refused = absurd refused
turn_refused (faults.Ipc errors.Overflow) bytes place in_a_row after framed there refused = absurd refused
turn_refused faults.Memory bytes place in_a_row after framed there refused = absurd refused
turn_refused faults.Unfinished bytes place in_a_row after framed there refused = absurd refused
turn_refused (faults.Lower what) bytes place in_a_row after framed there refused = absurd refused
turn_refused (faults.NotSealable bar) bytes place in_a_row after framed there refused = absurd refused
turn_refused faults.RowWidth bytes place in_a_row after framed there refused = absurd refused
turn_refused faults.NoColumns bytes place in_a_row after framed there refused = absurd refused
turn_refused faults.TooManyRows bytes place in_a_row after framed there refused = absurd refused
turn_refused faults.NoSuchColumn bytes place in_a_row after framed there refused = absurd refused

-- what is refused at a place behind messages that were found, said of all messages
pub next_refused : (fault : Fault) (version : Version) (bytes : List ℕ) (first : ℕ) (entries : List Entry) (in_a_row place : ℕ)
    → EntriesFound version bytes first entries in_a_row place → RefusesNext bytes place in_a_row fault
    → FindsEntries version bytes first (Err fault)
next_refused faults.Memory version bytes first entries in_a_row place found refused = tt
next_refused faults.Unfinished version bytes first entries in_a_row place found refused =
    found_cut version bytes first entries in_a_row place refused found
next_refused (faults.Ipc (errors.OutOfSpec what)) version bytes first entries in_a_row place found (inl none) =
    found_broken version bytes first entries in_a_row place none found
next_refused (faults.Ipc (errors.OutOfSpec what)) version bytes first entries in_a_row place found (inr turn) =
    found_out_of_turn version bytes first entries in_a_row place turn.1 turn.0 turn.2 turn.3 found
next_refused (faults.Ipc (errors.NotYetImplemented what)) version bytes first entries in_a_row place found refused = absurd refused
next_refused (faults.Ipc (errors.External from what)) version bytes first entries in_a_row place found refused = absurd refused
next_refused (faults.Ipc (errors.Io what)) version bytes first entries in_a_row place found refused = absurd refused
next_refused (faults.Ipc (errors.InvalidArgumentError what)) version bytes first entries in_a_row place found refused = absurd refused
next_refused (faults.Ipc (errors.ExternalFormat what)) version bytes first entries in_a_row place found refused = absurd refused
next_refused (faults.Ipc errors.OutOfMemory) version bytes first entries in_a_row place found refused = absurd refused
next_refused (faults.Ipc errors.Overflow) version bytes first entries in_a_row place found refused = absurd refused
next_refused (faults.Lower what) version bytes first entries in_a_row place found refused = absurd refused
next_refused (faults.NotSealable bar) version bytes first entries in_a_row place found refused = absurd refused
next_refused faults.RowWidth version bytes first entries in_a_row place found refused = absurd refused
next_refused faults.NoColumns version bytes first entries in_a_row place found refused = absurd refused
next_refused faults.TooManyRows version bytes first entries in_a_row place found refused = absurd refused
next_refused faults.NoSuchColumn version bytes first entries in_a_row place found refused = absurd refused
