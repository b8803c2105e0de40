-- The first cells stand behind the others, and fit there.
use Rattle.std.proofs.Common.{◌≡◌, ℕ, ◌<◌, map, take, get_or, true}
use Rattle.nested_arrays_cells.specs.parts.Open.{Open}
use Rattle.nested_arrays_cells.specs.parts.Scalars.{scalar_slot}
use Rattle.tables_rows.specs.Columns.{is_fitting, with_each}
use Rattle.tables_rows.proofs.pushing.push_each.Given as goal

abbrev pub invariant-loop-place : goal.invariant-loop-place
invariant-loop-place l = record {
  grown : l.columns.items ≡ with_each l.fn.columns.items (take l.place (map scalar_slot l.row));
  fitting : (k : ℕ) (d : Open) → k < l.place → is_fitting (get_or (with_each l.fn.columns.items (map scalar_slot l.row)) k d) ≡ true;
}
