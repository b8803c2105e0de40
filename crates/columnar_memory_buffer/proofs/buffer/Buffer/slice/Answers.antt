use Rattle.std.proofs.Common.{◌≡◌, ◌+◌, ◌≤◌, length, arith, ap, ◌∙◌, sym}
use Rattle.columnar_memory_buffer.specs.Window.{window}
use Rattle.columnar_memory_buffer.proofs.Windows.{windows_join, length-window}
use Rattle.columnar_memory_buffer.proofs.buffer.Buffer.slice.Goals as goal

pub returns : goal.returns
returns g c =
    let held = c.self.inside.data.value in
    let seen : length c.args.self.now ≡ c.self.inside.count = ap length (sym c.self.view_is) ∙ length-window held c.self.inside.offset
    c.self.inside.count c.self.invariant.0 in
    let within : c.args.offset + c.args.count ≤ c.self.inside.count = omega (arith, c.requires, seen) in
    sym (windows_join held c.self.inside.offset c.self.inside.count c.args.offset c.args.count within) ∙ ap (λ xs. window xs c.args.offset
    c.args.count) c.self.view_is
