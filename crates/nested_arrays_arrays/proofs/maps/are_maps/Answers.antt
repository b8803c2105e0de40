use Rattle.std.proofs.Common.{◌∙◌, ap, sym, arith, ◌≤◌, ◌-◌, ◌^◌}
use Rattle.nested_arrays_parts.specs.columnar_memory.Spans.{last_of}
use Rattle.nested_arrays_parts.specs.columns.SoundColumns.{mask_fits}
use Rattle.nested_arrays_parts.specs.columns.StoredColumns.{column_len, type_layer}
use Rattle.nested_arrays_arrays.specs.Entries.{has_entry_type}
use Rattle.nested_arrays_arrays.proofs.ListParts.{map_whole, map_parts}
use Rattle.nested_arrays_arrays.proofs.maps.are_maps.Goals as goal

pub returns : goal.returns
returns c =
    let small : last_of c.args.offsets.now ≤ 2 ^ 31 - 1 = omega (arith, c.last_of.ensures.value, c.last_of.ensures.bound) in
    let within : last_of c.args.offsets.now ≤ column_len c.args.field.now =
    omega (arith, c.last_of.ensures.value, c.if-last_of-len.false, c.len.ensures) in
    let masked = c.fits.ensures ∙ ap (mask_fits c.args.validity.now) c.len_proxy.ensures in (
      λ is. map_whole c.args.data_type.now c.args.validity.now c.args.offsets.now c.args.field.now
          (ap (has_entry_type (type_layer c.args.data_type.now)) (sym c.data_type.ensures) ∙ sym c.has_entries.ensures ∙ c.if-not-has_entries.false)
          small within (sym masked ∙ is) c.whole.ensures,
      λ lies. masked ∙ (map_parts c.args.data_type.now c.args.validity.now c.args.offsets.now c.args.field.now lies).2,
    )
