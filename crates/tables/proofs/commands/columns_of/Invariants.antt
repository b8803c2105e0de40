-- The columns are those that the pieces so far name.
use Rattle.std.proofs.Common.{◌≡◌, map}
use Rattle.std.specs.List.{filter_map}
use Rattle.tables.specs.Number.{number_of}
use Rattle.tables.proofs.commands.columns_of.Given as goal

abbrev pub invariant-loop-piece : goal.invariant-loop-piece
invariant-loop-piece l = l.columns.items ≡ filter_map number_of (map (λ x. x.now) l.yielded)
