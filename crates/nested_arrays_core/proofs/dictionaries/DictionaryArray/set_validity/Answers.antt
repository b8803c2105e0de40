use Rattle.std.proofs.Common.{◌∙◌, ap, sym, rules, length, map}
use Rattle.std.proofs.lemmas.Bool.{false≢true}
use Rattle.nested_arrays_access.specs.columns.SoundColumns.{has_value_at, holds_below, is_sound, mask_fits}
use Rattle.nested_arrays_access.specs.columns.StoredColumns.{column_len}
use Rattle.nested_arrays_access.proofs.flat_lemmas.SoundFlats.{masked_from}
use Rattle.nested_arrays_core.proofs.KeyedMasks.{keyed_masked, keyed_named, keyed_takes, keys_fit}
use Rattle.nested_arrays_core.proofs.dictionaries.DictionaryArray.set_validity.Goals as goal

pub name_values-requires : goal.name_values-requires
name_values-requires g c =
    let keys = c.self.inside.keys in
    ap (λ mask. mask_fits mask (length keys.values)) c.as_ref.ensures.value
    ∙ keys_fit g.K.Number.value c.args.self.now c.self.inside.data_type keys c.self.inside.values.value c.args.validity c.self.view_is
    (ap (mask_fits c.args.validity) (sym c.len.ensures) ∙ sym c.fits.ensures ∙ c.if-not-fits.false)

pub set_validity-requires : goal.set_validity-requires
set_validity-requires g c =
    let keys = c.self.inside.keys in
    masked_from c.args.validity (length keys.values)
    (keys_fit g.K.Number.value c.args.self.now c.self.inside.data_type keys c.self.inside.values.value c.args.validity c.self.view_is
    (ap (mask_fits c.args.validity) (sym c.len.ensures) ∙ sym c.fits.ensures ∙ c.if-not-fits.false))

pub returns-then-not-name_values : goal.returns-then-not-name_values
returns-then-not-name_values g c =
    let keys = c.self.inside.keys in
    let values = c.self.inside.values.value in
    let numbers = map g.K.Number.value keys.values in
    let count = c.len-count.ensures ∙ ap column_len c.deref.ensures in
    let tested = c.name_values.ensures
    ∙ ap (λ mask. holds_below (length keys.values) (has_value_at mask numbers c.len-count.result)) c.as_ref.ensures.value
    ∙ ap (λ n. holds_below (length keys.values) (has_value_at c.args.validity numbers n)) count in (
      tt,
      λ takes. false≢true (sym c.if-not-name_values.true ∙ tested
          ∙ keyed_named g.K.Number.value c.args.self.now c.self.inside.data_type keys values c.args.validity c.self.view_is takes),
      search rules,
    )

pub returns : goal.returns
returns g c =
    let value = g.K.Number.value in
    let t = c.self.inside.data_type in
    let keys = c.self.inside.keys in
    let values = c.self.inside.values.value in
    let numbers = map value keys.values in
    let count = c.len-count.ensures ∙ ap column_len c.deref.ensures in
    let tested = c.name_values.ensures
    ∙ ap (λ mask. holds_below (length keys.values) (has_value_at mask numbers c.len-count.result)) c.as_ref.ensures.value
    ∙ ap (λ n. holds_below (length keys.values) (has_value_at c.args.validity numbers n)) count in (
      keyed_takes value c.args.self.now t keys values c.args.validity c.self.view_is c.self.invariant.0
          (keys_fit value c.args.self.now t keys values c.args.validity c.self.view_is
          (ap (mask_fits c.args.validity) (sym c.len.ensures) ∙ sym c.fits.ensures ∙ c.if-not-fits.false))
          (sym tested ∙ c.if-not-name_values.false),
      keyed_masked value c.args.self.now t keys _ values c.args.validity c.self.view_is c.set_validity.ensures,
    )

pub invariant_of-self : goal.invariant_of-self
invariant_of-self g c = (ap is_sound (returns g c).1 ∙ (returns g c).0.2, c.self.invariant.1)
