-- One piece of zeros more.
use Rattle.std.proofs.Common.{rules, ◌≤◌, arith}
use Rattle.ipc_format.proofs.Zeros.{zeros_more, zeros_refused}
use Rattle.ipc_format.proofs.sending.put_zeros.Goals as goal

pub returns-in_err-put : goal.returns-in_err-put
returns-in_err-put g c =
    let inside : c.min-piece.result ≤ c.loop-left.left = omega (arith, c.min-piece.ensures) in
    let few : c.min-piece.result ≤ 4096 = omega (arith, c.min-piece.ensures) in
    let whole = zeros_refused c.in_err-put.field-0.0 _ _ _ c.args.count c.loop-left.left c.min-piece.result 4096 c.loop-left.invariant.0 inside few
    c.loop-left.invariant.1 c.in_err-put.ensures in
    search (rules, whole)

pub loop-left-preserved : goal.loop-left-preserved
loop-left-preserved g c =
    let inside : c.min-piece.result ≤ c.loop-left.left = omega (arith, c.min-piece.ensures) in
    let few : c.min-piece.result ≤ 4096 = omega (arith, c.min-piece.ensures) in (
      omega (arith, c.loop-left.invariant.0),
      zeros_more _ _ _ c.args.count c.loop-left.left c.min-piece.result 4096 c.loop-left.invariant.0 inside few c.loop-left.invariant.1
          c.in_ok-put.ensures,
    )
