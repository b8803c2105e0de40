use Rattle.std.proofs.Common.{◌≡◌, ◌∙◌, ap, sym, refl, length}
use Rattle.std.proofs.lemmas.Bool.{false≢true}
use Rattle.nested_arrays_parts.specs.columnar_memory.Layouts.{physical_type}
use Rattle.nested_arrays_parts.specs.columns.SoundColumns.{mask_fits}
use Rattle.nested_arrays_parts.proofs.KeyCuts.{keys_count}
use Rattle.nested_arrays_parts.specs.Keys.{numbers_in}
use Rattle.nested_arrays_arrays.proofs.KeyMasks.{keyed_replaced}
use Rattle.nested_arrays_arrays.proofs.key_masks.mask_keys.Goals as goal

pub returns-clause-mask : goal.returns-clause-mask
returns-clause-mask c =
    let node = c.args.node.now in
    let long : c.len.result ≡ length (numbers_in node.keys) = c.len.ensures ∙ keys_count (physical_type node.data_type) node.keys c.requires.fits in
    keyed_replaced (physical_type node.data_type) node.data_type node.keys c.set_validity.new.self node.values.value c.args.validity
    c.set_validity.result c.requires.fits c.whole.ensures c.requires.sound
    (ap (mask_fits c.args.validity) (sym long) ∙ sym c.fits.ensures ∙ c.if-not-fits.false)
    (sym c.stays_named.ensures ∙ c.if-not-stays_named.false) c.set_validity.ensures

pub returns-then-not-fits-clause-mask : goal.returns-then-not-fits-clause-mask
returns-then-not-fits-clause-mask c =
    let node = c.args.node.now in
    let long : c.len.result ≡ length (numbers_in node.keys) = c.len.ensures ∙ keys_count (physical_type node.data_type) node.keys c.requires.fits in
    (tt, (λ takes. false≢true (sym c.if-not-fits.true ∙ c.fits.ensures ∙ ap (mask_fits c.args.validity) long ∙ takes.0)), refl)
