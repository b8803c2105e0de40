use Rattle.std.proofs.Common.{◌≡◌, ◌∙◌, ap, sym, true}
use Rattle.std.specs.List.{list_all}
use Rattle.nested_arrays_generic_builders.specs.StructBuilders.{is_stored, struct_parts}
use Rattle.nested_arrays_generic_builders.proofs.OpenStructs.{kept_records}
use Rattle.nested_arrays_generic_builders.proofs.structs.MutableStructArray.truncate.Goals as goal

pub returns-clause-column : goal.returns-clause-column
returns-clause-column c =
    let own = c.self.inside in
    let within = rw (← c.self.view_is) at c.requires in
    let stored : list_all is_stored own.values ≡ true = ap (list_all is_stored) (sym c.as_slice.ensures) ∙ c.are_whole.ensures in
    rw (← c.self.view_is, c.truncate.ensures, c.truncate-2.ensures)
    (kept_records (struct_parts own.data_type own.marks own.values) c.args.len within stored)
