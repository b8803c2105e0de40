use Rattle.std.proofs.Common.{◌∙◌, ap}
use Rattle.nested_arrays_core.specs.arrays.flat.FlatColumns.{text_column}
use Rattle.nested_arrays_builder_parts.proofs.FrozenStrings.{is_text, text_frozen}
use Rattle.nested_arrays_builder_parts.proofs.frozen.freeze_texts.Goals as goal

pub new-requires : goal.new-requires
new-requires g c =
    let parts = c.in_ok-parts.parts in
    let is = c.in_ok-parts.ensures in
    is_text c.args.data_type c.args.strings parts.0 parts.1 c.args.validity is.0 is.1 c.requires.masked g.O.Offset.IS_LARGE c.requires.lies
    c.requires.texts

pub returns : goal.returns
returns g c =
    let parts = c.in_ok-parts.parts in
    let is = c.in_ok-parts.ensures in
    ap text_column c.new.ensures
    ∙ text_frozen c.args.data_type c.args.strings parts.0 parts.1 c.args.validity is.0 is.1 c.requires.masked g.O.Offset.IS_LARGE
