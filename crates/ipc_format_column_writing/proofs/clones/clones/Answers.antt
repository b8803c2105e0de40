use Rattle.ipc_format_column_writing.proofs.Copies.{copies_are_same}
use Rattle.ipc_format_column_writing.proofs.clones.clones.Goals as goal

pub returns : goal.returns
returns g c = copies_are_same g.A.Clone.is_clone (λ copies. copies.items) _ _ c.args.arrays.now.items c.clone.result
    g.met.A.CloneArray.clones_are_same c.clone.ensures.cases
