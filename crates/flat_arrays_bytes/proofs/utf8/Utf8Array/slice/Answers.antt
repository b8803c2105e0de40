use Rattle.std.proofs.Common.{◌≤◌, ◌+◌, ap, subst, sym, arith}
use Rattle.flat_arrays_bytes.specs.ByteStrings.{len_of}
use Rattle.flat_arrays_bytes.specs.Fits.{IsText, text_layout}
use Rattle.flat_arrays_bytes.proofs.Cuts.{AllTexts-cut, Fits-cut}
use Rattle.flat_arrays_bytes.proofs.utf8.Utf8Array.slice.Goals as goal

pub invariant_of-self : goal.invariant_of-self
invariant_of-self g c =
    let a = c.self.inside.column in
    let within : c.args.offset + c.args.count ≤ len_of a = omega (arith, c.requires, ap len_of c.self.view_is) in
    subst (IsText g.O.Offset.IS_LARGE) (sym c.slice.ensures) (
      Fits-cut (text_layout g.O.Offset.IS_LARGE) a c.args.offset c.args.count within c.self.invariant.0,
      AllTexts-cut a c.args.offset c.args.count c.self.invariant.1,
    )
