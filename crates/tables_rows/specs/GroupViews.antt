-- Groups as the code keeps them.
use Rattle.tables_rows.specs.Grouping.{Grouped}
use Rattle.tables_rows.specs.declared.groups.Groups.{Groups}

abbrev pub grouped : Groups → Grouped
grouped groups = record { batches = groups.batches.items; columns = groups.columns.items; count = groups.count }
