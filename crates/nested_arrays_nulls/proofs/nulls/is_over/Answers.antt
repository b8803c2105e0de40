use Rattle.std.proofs.Common.{refl}
use Rattle.nested_arrays_nulls.proofs.StoredTypes.{stored_within}
use Rattle.nested_arrays_nulls.proofs.nulls.is_over.Goals as goal

pub returns : goal.returns
returns c =
    stored_within c.args._whole.now c.args._extension.now c.args._name.now c.args._inner.now c.args._inner.now c.args._more.now c.requires.same
    c.requires.over refl
