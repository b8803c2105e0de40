use Rattle.std.proofs.Common.{◌∙◌, ap, sym, arith, ◌≤◌}
use Rattle.std.proofs.lemmas.Bool.{false≢true}
use Rattle.nested_arrays_access.specs.columnar_memory.Spans.{last_of}
use Rattle.nested_arrays_access.specs.columns.SoundColumns.{mask_fits}
use Rattle.nested_arrays_access.specs.columns.StoredColumns.{column_len, type_layer}
use Rattle.nested_arrays_core.specs.ListTypes.{has_list_item_type}
use Rattle.nested_arrays_core.proofs.ListParts.{list_whole, list_parts}
use Rattle.nested_arrays_core.proofs.lists.are_lists.Goals as goal

pub returns : goal.returns
returns g c =
    let small : last_of c.args.offsets.now ≤ g.O.Index.greatest = omega (arith, c.last_of.ensures.value, c.last_of.ensures.bound) in
    let within : last_of c.args.offsets.now ≤ column_len c.args.values.now =
    omega (arith, c.last_of.ensures.value, c.if-last_of-len.false, c.len.ensures) in
    let masked = c.fits.ensures ∙ ap (mask_fits c.args.validity.now) c.len_proxy.ensures in (
      λ is. list_whole g.O.Offset.IS_LARGE g.O.Index.greatest c.args.data_type.now c.args.validity.now c.args.offsets.now c.args.values.now
          g.met.O.Offset.large_law
          (ap (has_list_item_type g.O.Offset.IS_LARGE (type_layer c.args.data_type.now)) (sym c.data_type.ensures) ∙ sym c.has_items.ensures
          ∙ c.if-not-has_items.false)
          small within (sym masked ∙ is) c.whole.ensures,
      λ lies. masked ∙ (list_parts g.O.Offset.IS_LARGE c.args.data_type.now c.args.validity.now c.args.offsets.now c.args.values.now lies).2,
    )

pub returns-then-not-has_items : goal.returns-then-not-has_items
returns-then-not-has_items g c = (
  λ is. absurd (false≢true is),
  λ lies. sym c.if-not-has_items.true ∙ c.has_items.ensures
      ∙ ap (has_list_item_type g.O.Offset.IS_LARGE (type_layer c.args.data_type.now)) c.data_type.ensures
      ∙ (list_parts g.O.Offset.IS_LARGE c.args.data_type.now c.args.validity.now c.args.offsets.now c.args.values.now lies).0,
)

pub returns-then-last_of-len : goal.returns-then-last_of-len
returns-then-last_of-len g c = (
  λ is. absurd (false≢true is),
  λ lies.
      let within = (list_parts g.O.Offset.IS_LARGE c.args.data_type.now c.args.validity.now c.args.offsets.now c.args.values.now lies).1 in
      absurd (omega (arith, within, c.last_of.ensures.value, c.if-last_of-len.true, c.len.ensures)),
)
