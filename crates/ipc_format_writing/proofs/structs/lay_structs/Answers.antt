use Rattle.std.proofs.Common.{arith}
use Rattle.ipc_format_writing.proofs.Sizes.{elements_over}
use Rattle.ipc_format_writing.proofs.structs.lay_structs.Goals as goal

pub returns-in-Err : goal.returns-in-Err
returns-in-Err c = omega (arith, c.in-Err.ensures, elements_over c.args.count c.args.bytes.now)
