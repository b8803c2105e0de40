-- Streams that end early.
use Rattle.std.proofs.Common.{◌≡◌, ℕ, List, subst}
use Rattle.std.specs.Prelude.{Option, None, IsSome}
use Rattle.tables_chunks.specs.ipc_format.Framing.{EndsInLaterMessage}
use Rattle.tables_chunks.specs.ipc_format.grammar.Tables.{stream}
use Rattle.tables_chunks.specs.ipc_format.streams.Starts.{Start, start_in}
use Rattle.tables_rows.specs.ReadChoices.{EndsEarly}

pub ends_early : (bytes : List ℕ) → IsSome (start_in bytes) → EndsInLaterMessage bytes → EndsEarly stream bytes
ends_early bytes begins ends = (begins, ends)

pub ends_in_later : (bytes : List ℕ) → EndsEarly stream bytes → EndsInLaterMessage bytes
ends_in_later bytes ends = ends.1

-- a stream whose schema isn't read
pub never_early : (bytes : List ℕ) → start_in bytes ≡ None → EndsEarly stream bytes → ⊥
never_early bytes none ends =
    let nothing : Option (Start × ℕ) = None in
    let begins : IsSome nothing = subst IsSome none ends.0 in absurd cc
