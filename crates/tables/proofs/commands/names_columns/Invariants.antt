-- The pieces so far are numbers.
use Rattle.std.proofs.Common.{◌≡◌, map, true}
use Rattle.std.specs.List.{list_all}
use Rattle.tables.specs.Number.{is_number}
use Rattle.tables.proofs.commands.names_columns.Given as goal

abbrev pub invariant-loop-piece : goal.invariant-loop-piece
invariant-loop-piece l = list_all is_number (map (λ x. x.now) l.yielded) ≡ true
