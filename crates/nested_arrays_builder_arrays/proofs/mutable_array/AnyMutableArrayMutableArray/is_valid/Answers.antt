use Rattle.std.proofs.Common.{◌<◌, ◌∙◌, ℕ, ap, length, not, subst, sym}
use Rattle.nested_arrays_builder_arrays.proofs.OpenColumns.{open_long, open_null}
use Rattle.nested_arrays_builder_arrays.proofs.mutable_array.AnyMutableArrayMutableArray.is_valid.Goals as goal

pub is_valid-requires : goal.is_valid-requires
is_valid-requires c =
    subst (λ (n : ℕ). c.args.i < n) (open_long c.args.self.now c.whole.ensures.within c.whole.ensures.stored) c.requires

pub returns : goal.returns
returns c =
    let within : c.args.i < length c.args.self.now.slots =
    subst (λ (n : ℕ). c.args.i < n) (open_long c.args.self.now c.whole.ensures.within c.whole.ensures.stored) c.requires in
    c.is_valid.ensures ∙ ap not (sym (open_null c.args.self.now c.args.i c.whole.ensures.within c.whole.ensures.stored within))
