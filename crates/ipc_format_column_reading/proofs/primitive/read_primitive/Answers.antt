-- The array of the parts that were read.
use Rattle.std.proofs.Common.{◌≡◌, rules}
use Rattle.std.specs.Prelude.{Err}
use Rattle.ipc_format_column_reading.proofs.primitive.read_primitive.Goals as goal

pub returns-in_err-parts : goal.returns-in_err-parts
returns-in_err-parts g c =
    let is : c.from_residual.result ≡ Err c.in_err-parts.field-0.0 = search rules in
    rw is c.in_err-parts.ensures.read

pub returns : goal.returns
returns g c = rw c.new.ensures c.in_ok-parts.ensures.read
