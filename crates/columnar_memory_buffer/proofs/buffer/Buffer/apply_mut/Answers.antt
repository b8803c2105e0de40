use Rattle.std.proofs.Common.{rules}
use Rattle.columnar_memory_buffer.proofs.Windows.{window_whole}
use Rattle.columnar_memory_buffer.proofs.buffer.Buffer.apply_mut.Goals as goal

pub returns-in-Some : goal.returns-in-Some
returns-in-Some g c = (c.take.result, c.f-made.result, search (rules, window_whole), c.f-made.ensures, search (rules, window_whole))

pub returns : goal.returns
returns g c = (c.in_ok-copy.copy, c.f.result, search rules, c.f.ensures, search rules)
