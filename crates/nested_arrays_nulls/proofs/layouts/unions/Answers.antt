use Rattle.std.proofs.Common.{◌∙◌, ap, sym, arith, replicate}
use Rattle.std.specs.Prelude.{pos}
use Rattle.nested_arrays_iterators.specs.columns.SoundColumns.{is_sound}
use Rattle.nested_arrays_iterators.specs.columns.StoredColumns.{in_columns, unions}
use Rattle.nested_arrays_nulls.proofs.UnionPlaces.{few_slots}
use Rattle.nested_arrays_nulls.specs.NullColumns.{null_places}
use Rattle.nested_arrays_nulls.proofs.layouts.unions.Goals as goal

pub returns-then-length-gt-DENSE_SLOTS : goal.returns-then-length-gt-DENSE_SLOTS
returns-then-length-gt-DENSE_SLOTS c = λ sound.
    let n = c.args.length in
    let children = in_columns c.args.children.items in
    let ids = replicate n c.args.id in
    let few = few_slots c.args.data_type ids n children
    (ap (λ mode. is_sound (unions c.args.data_type ids (null_places mode n) children)) (sym c.in-Dense.is) ∙ sound) in
    absurd (omega (arith, few, c.if-length-gt-DENSE_SLOTS.true))
