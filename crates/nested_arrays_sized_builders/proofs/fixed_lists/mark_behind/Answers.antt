use Rattle.std.proofs.Common.{◌≤◌, arith, length}
use Rattle.nested_arrays_sized_builders.proofs.SettledMarks.{marks_off}
use Rattle.nested_arrays_sized_builders.proofs.fixed_lists.mark_behind.Goals as goal

pub returns-in-Err : goal.returns-in-Err
returns-in-Err c = (
  marks_off c.args.marks.now c.fill_marks.new.marks c.truncate.new.self c.len-held.result c.in-Err.ensures.1 c.len-held.ensures.value
      c.truncate.ensures,
  c.in-Err.ensures.2,
)
