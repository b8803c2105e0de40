use Rattle.std.proofs.Common.{subst, arith}
use Rattle.flat_arrays_bytes.specs.Fits.{IsMaskOf}
use Rattle.flat_arrays_bytes.proofs.column.check_parts.Goals as goal

pub returns : goal.returns
returns g c = record {
  fits = c.has_layout.ensures.0 c.if-not-has_layout.false;
  masked = subst (λ n. IsMaskOf n c.args.validity.now) c.len_proxy.ensures (c.is_mask_of.ensures.0 c.if-not-is_mask_of.false);
  within = omega arith;
}
