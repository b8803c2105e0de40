use Rattle.std.proofs.Common.{◌≡◌, ◌∙◌, ℕ, ◌-◌, ◌%◌, ◌<◌, ◌++◌, List, length, replicate, ap, arith}
use Rattle.ipc_format_column_bytes.proofs.Bodies.{zeros_behind}
use Rattle.ipc_format_column_bytes.proofs.body.pad.Goals as goal

pub returns : goal.returns
returns c =
    let size : c.len.result ≡ length c.args.to.now.items = omega arith in
    let past : 0 < (c.len.result - c.args.start) % 64 = omega arith in
    c.in_ok-extend_from_slice.ensures.items
    ∙ ap (λ (zeros : List ℕ). c.args.to.now.items ++ zeros)
    (zeros_behind (c.len.result - c.args.start) past
    ∙ ap (λ (n : ℕ). replicate {A = ℕ} ((64 - (n - c.args.start) % 64) % 64) 0) size)
