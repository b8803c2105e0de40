use Rattle.std.proofs.Common.{◌∙◌}
use Rattle.std.specs.Bool.{one_answer}
use Rattle.flat_arrays_bytes.specs.Equal.{same_array, same_array-Decides}
use Rattle.flat_arrays_bytes.proofs.binary.BinaryArrayPartialEq.eq.Goals as goal

pub returns-clause-value : goal.returns-clause-value
returns-clause-value g c =
    let a = c.self.inside.column in
    let b = c.other.inside.column in
    one_answer c.is_equal.result (same_array a b) c.is_equal.ensures (same_array-Decides a b)
    ∙ (λ i. same_array (c.self.view_is i) (c.other.view_is i))
