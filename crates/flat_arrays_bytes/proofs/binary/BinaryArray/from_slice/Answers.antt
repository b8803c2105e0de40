use Rattle.std.proofs.Common.{rules}
use Rattle.std.proofs.lemmas.Iterator.{YieldsList-from_slice}
use Rattle.flat_arrays_bytes.proofs.Gathered.{values_of_walk}
use Rattle.flat_arrays_bytes.specs.Fits.{binary_type}
use Rattle.flat_arrays_bytes.proofs.binary.BinaryArray.from_slice.Goals as goal

pub returns : goal.returns
returns g c =
    values_of_walk (YieldsList-from_slice c.args.values.now (search rules)) g.T.AsSlice.items (binary_type g.O.Offset.IS_LARGE) g.O.Index.greatest
    c.from_iter_values.result c.from_iter_values.ensures
