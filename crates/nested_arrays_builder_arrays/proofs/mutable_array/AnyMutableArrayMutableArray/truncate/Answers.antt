use Rattle.std.proofs.Common.{◌≤◌, ℕ, subst}
use Rattle.nested_arrays_builder_arrays.proofs.OpenColumns.{kept_first, open_long}
use Rattle.nested_arrays_builder_arrays.proofs.mutable_array.AnyMutableArrayMutableArray.truncate.Goals as goal

pub truncate-requires : goal.truncate-requires
truncate-requires c =
    subst (λ (n : ℕ). c.args.len ≤ n) (open_long c.args.self.now c.whole.ensures.within c.whole.ensures.stored) c.requires

pub returns : goal.returns
returns c =
    kept_first c.args.self.now c.whole.ensures.within c.whole.ensures.stored c.truncate.new.self c.args.len c.truncate.ensures
