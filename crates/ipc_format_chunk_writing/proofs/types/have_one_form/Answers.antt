use Rattle.ipc_format_chunk_writing.proofs.Forms.{same_form}
use Rattle.ipc_format_chunk_writing.proofs.types.have_one_form.Goals as goal

pub returns-then-eq : goal.returns-then-eq
returns-then-eq c = same_form c.args.a.now c.args.b.now (c.eq.ensures.exact.0 c.if-eq.true)
