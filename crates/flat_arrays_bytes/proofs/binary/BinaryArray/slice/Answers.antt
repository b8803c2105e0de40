use Rattle.std.proofs.Common.{◌≤◌, ◌+◌, ap, subst, sym, arith}
use Rattle.flat_arrays_bytes.specs.ByteStrings.{len_of}
use Rattle.flat_arrays_bytes.specs.Fits.{IsBinary, binary_layout}
use Rattle.flat_arrays_bytes.proofs.Cuts.{Fits-cut}
use Rattle.flat_arrays_bytes.proofs.binary.BinaryArray.slice.Goals as goal

pub invariant_of-self : goal.invariant_of-self
invariant_of-self g c =
    let a = c.self.inside.column in
    let within : c.args.offset + c.args.count ≤ len_of a = omega (arith, c.requires, ap len_of c.self.view_is) in
    subst (IsBinary g.O.Offset.IS_LARGE) (sym c.slice.ensures)
    (Fits-cut (binary_layout g.O.Offset.IS_LARGE) a c.args.offset c.args.count within c.self.invariant)
