-- Columns that are asked for in any order, as they are read: in rising order, and then put where they were asked for.
use Rattle.std.specs.Prelude.{◌≡◌, ℕ, true, List, length, nat_eq}
use Rattle.std.specs.List.{list_all, list_any}
use Rattle.tables_chunks.specs.Choices.{are_below}
use Rattle.tables_chunks.specs.ipc_format.BatchReads.{rise_below}
use Rattle.tables_chunks.specs.ipc_format.columns.Tables.{chosen}
use Rattle.tables_rows.specs.declared.order.Order.{Order}

-- the columns as they were asked for: the one at each of these places among those that rise
abbrev pub asked : Order → List ℕ
asked order = chosen order.places.items order.rising.items

-- The columns rise and are below a width, each of them is asked for, and each that is asked for is one of them.
pub record IsOrder (width : ℕ) (order : Order) : Type 0 where
  pub rise : rise_below width order.rising.items ≡ true
  pub inside : are_below (length order.rising.items) order.places.items ≡ true
  pub wanted : list_all (λ k. list_any (λ other. nat_eq other k) (asked order)) order.rising.items ≡ true
