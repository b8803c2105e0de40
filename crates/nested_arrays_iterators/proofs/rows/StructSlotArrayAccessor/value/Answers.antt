use Rattle.std.proofs.Common.{◌≡◌, ◌∙◌, ◌<◌, ap, arith, length, refl, rules, sym}
use Rattle.std.specs.Prelude.{Some, option_map, slice_get}
use Rattle.std.proofs.lemmas.List.{length-map}
use Rattle.std.proofs.lemmas.Option.{slice_get-map, slice_get_read}
use Rattle.nested_arrays_core.specs.columns.StoredColumns.{Column, slot_at}
use Rattle.nested_arrays_iterators.proofs.rows.StructSlotArrayAccessor.value.Goals as goal

pub offset_bounds-fields-index : goal.offset_bounds-fields-index
offset_bounds-fields-index c =
    let it = c.self.inside in
    let h : c.args.index < length it.fields.now =
    omega (arith, c.requires, ap length c.self.view_is, length-map it.fields.now (λ d. slot_at d it.place)) in
    search rules

pub returns : goal.returns
returns c =
    let it = c.self.inside in
    let fields = it.fields.now in
    let read = λ (d : Column). slot_at d it.place in
    let h : c.args.index < length fields = omega (arith, c.requires, ap length c.self.view_is, length-map fields read) in
    let found = slice_get_read fields (length fields) c.args.index c.index-fields-index.result refl h c.index-fields-index.is in
    ap (λ row. slice_get row c.args.index) (sym c.self.view_is) ∙ slice_get-map read fields c.args.index ∙ ap (option_map read) found
    ∙ ap Some (sym c.new.ensures)
