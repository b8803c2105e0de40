use Rattle.std.proofs.Common.{◌≡◌, subst, sym, rules}
use Rattle.std.specs.Bool.{Decides}
use Rattle.flat_arrays_values.specs.columnar_memory.Equality.{same_type, same_type-Decides}
use Rattle.flat_arrays_bytes.proofs.column.ByteColumn.has_type_of.Goals as goal

pub returns : goal.returns
returns g c =
    let a = c.args.self.now in
    let b = c.args.other.now in
    let same : c.eq.result ≡ same_type a.data_type b.data_type = search rules in
    subst (λ r. Decides r (a.data_type ≡ b.data_type)) (sym same) (same_type-Decides a.data_type b.data_type)
