-- A new writer is fresh, and starts.
use Rattle.std.proofs.Common.{rules, subst}
use Rattle.std.specs.Prelude.{Ok}
use Rattle.ipc_format.specs.FilePhases.{Phase}
use Rattle.ipc_format.specs.FileWriting.{StartsIn}
use Rattle.ipc_format.proofs.Writes.{not_made}
use Rattle.ipc_format.proofs.writer.FileWriter.try_new.Goals as goal

pub returns : goal.returns
returns g c =
    let made = c.in_ok-made.made in (
      made,
      c.in_ok-made.ensures,
      subst (λ (phase : Phase). StartsIn g.W.Write.contents g.W.Faults.failures g.W.Faults.in_memory phase made c.start.new.self (Ok tt))
          c.in_ok-made.ensures.nothing c.in_ok-start.ensures,
    )

pub returns-in_err-start : goal.returns-in_err-start
returns-in_err-start g c =
    let whole = not_made g.W.Write.contents g.W.Faults.failures g.W.Faults.in_memory c.in_ok-made.made c.start.new.self _ _ _ _
    c.in_err-start.field-0.0 c.in_ok-made.ensures c.in_err-start.ensures in
    search (rules, whole)
