use Rattle.ipc_format_chunk_writing.proofs.Tracking.{slots_said}
use Rattle.ipc_format_chunk_writing.proofs.tracker.says_same.Goals as goal

pub returns : goal.returns
returns c = slots_said c.args.a.now c.args.b.now c.data_type.result.now c.data_type-2.result.now c.in_ok-have_one_form.field-0 c.same_slots.result
    c.data_type.ensures c.data_type-2.ensures c.in_ok-have_one_form.ensures c.if-not-branch.false c.same_slots.ensures
