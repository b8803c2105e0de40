-- All arrays were looked at.
use Rattle.std.proofs.Common.{◌∙◌, ◌≤◌, length, ap, sym, arith}
use Rattle.std.specs.List.{list_all}
use Rattle.std.proofs.lemmas.List.{take_all}
use Rattle.ipc_format_batch_reading.specs.columns.SoundColumns.{is_sound}
use Rattle.ipc_format_chunk_writing.proofs.opening.are_whole.Goals as goal

pub returns : goal.returns
returns c =
    let whole : length c.args.arrays.now ≤ c.loop-array.array-index = omega (arith, c.loop-array-test.false) in
    ap (list_all is_sound) (sym (take_all c.loop-array.array-index c.args.arrays.now whole)) ∙ c.loop-array.invariant
