use Rattle.std.proofs.Common.{subst, sym}
use Rattle.flat_arrays_bytes.specs.Fits.{IsText}
use Rattle.flat_arrays_bytes.proofs.Nulls.{texts_of_nulls}
use Rattle.flat_arrays_bytes.proofs.utf8.Utf8Array.new_null.Goals as goal

pub invariant_of-result : goal.invariant_of-result
invariant_of-result g c =
    subst (IsText g.O.Offset.IS_LARGE) (sym c.in_ok-column.ensures) (texts_of_nulls g.O.Offset.IS_LARGE c.args.data_type c.args.length c.requires)
