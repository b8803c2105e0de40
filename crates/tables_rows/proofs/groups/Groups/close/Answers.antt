-- The arrays of columns with as many slots each are as long as each other.
use Rattle.std.proofs.Common.{◌∙◌, sym, ap}
use Rattle.std.specs.List.{list_all}
use Rattle.tables_chunks.specs.ipc_format.columns.FreshLaws.{is_buildable}
use Rattle.nested_arrays_cells.specs.parts.Open.{Open}
use Rattle.tables_rows.specs.Grouping.{all_fit}
use Rattle.tables_rows.proofs.ReadyGroups.{taken_as_long}
use Rattle.tables_rows.proofs.groups.Groups.close.Goals as goal

pub new-requires : goal.new-requires
new-requires c =
    taken_as_long c.args.self.now.columns.items c.in_ok-arrays.arrays.items c.args.self.now.count
    (ap all_fit (sym c.deref.ensures.value) ∙ c.are_whole.ensures.fits)
    (ap (list_all (λ (column : Open). is_buildable column.data_type)) (sym c.deref.ensures.value) ∙ c.are_whole.ensures.stored) c.requires
    c.in_ok-arrays.ensures.0
