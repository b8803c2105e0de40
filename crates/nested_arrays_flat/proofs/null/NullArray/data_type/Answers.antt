use Rattle.nested_arrays_flat.proofs.NullTypes.{nulls_laid}
use Rattle.nested_arrays_flat.proofs.null.NullArray.data_type.Goals as goal

pub returns-clause-fits : goal.returns-clause-fits
returns-clause-fits c = nulls_laid c.self.inside.data_type c.self.inside.length c.self.invariant
