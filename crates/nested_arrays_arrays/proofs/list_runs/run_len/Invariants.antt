use Rattle.nested_arrays_arrays.specs.ListRuns.{AreSameLists}
use Rattle.nested_arrays_arrays.proofs.list_runs.run_len.Given as goal

-- the lists before are as long on each side
abbrev pub invariant-loop-k : goal.invariant-loop-k
invariant-loop-k l = AreSameLists l.left l.i l.right l.j l.k l.len
