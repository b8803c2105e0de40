-- The tables of the names so far are read, and known contents stay as they were.
use Rattle.std.proofs.Common.{map, take}
use Rattle.std.specs.String.{string_bytes}
use Rattle.tables.specs.Contents.{Keeps}
use Rattle.tables.specs.Inputs.{HoldTables}
use Rattle.tables.proofs.inputs.read_inputs.Given as goal

abbrev pub invariant-loop-name : goal.invariant-loop-name
invariant-loop-name g l = record {
  kept : Keeps (g.P.Places.contents l.fn.places) (g.P.Places.contents l.places);
  read : HoldTables (g.P.Places.contents l.fn.places) (take l.name-index (map string_bytes l.names)) l.tables.items;
}
