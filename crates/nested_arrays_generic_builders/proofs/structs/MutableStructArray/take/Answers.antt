use Rattle.std.proofs.Common.{◌≡◌, ◌∙◌, ap, subst, sym, true}
use Rattle.nested_arrays_nulls.specs.columns.SoundColumns.{is_sound}
use Rattle.nested_arrays_nulls.specs.columns.StoredColumns.{Column}
use Rattle.nested_arrays_cells.specs.taken.OpenColumns.{TakesColumn}
use Rattle.nested_arrays_generic_builders.specs.StructBuilders.{StructParts, struct_parts, structs_column}
use Rattle.nested_arrays_generic_builders.proofs.OpenStructs.{taken_parts}
use Rattle.nested_arrays_generic_builders.proofs.structs.MutableStructArray.take.Goals as goal

pub returns-then-is_whole-clause-column : goal.returns-then-is_whole-clause-column
returns-then-is_whole-clause-column c =
    let own = c.self.inside in
    let old = struct_parts own.data_type own.marks own.values in
    let left = struct_parts own.data_type c.replace-marks.new.dest c.take_whole.new.values in
    let sound : is_sound (structs_column old) ≡ true =
    ap (λ (p : StructParts). is_sound (structs_column p)) c.self.view_is ∙ sym c.is_whole.ensures ∙ c.if-is_whole.true in
    subst (λ (p : StructParts). TakesColumn (structs_column p) (structs_column left) (λ (array : Column). array) c.take_whole.result) c.self.view_is
    (taken_parts old c.replace-marks.result c.replace-marks.new.dest c.take_whole.new.values c.take_whole.result sound c.replace-marks.ensures.value
    (c.replace-marks.ensures.after ∙ c.new.ensures) c.take_whole.ensures.left c.take_whole.ensures.array)
