-- What is new is put under its id.
use Rattle.std.proofs.Common.{ℤ, subst, w64}
use Rattle.std.specs.Prelude.{Ok}
use Rattle.std.proofs.lemmas.Int.{to_z-of_z}
use Rattle.ipc_format_chunk_writing.specs.Tracking.{Compares, PutsValues, given_of, tracked}
use Rattle.ipc_format_chunk_writing.proofs.Tracking.{inserts_new}
use Rattle.ipc_format_chunk_writing.proofs.tracker.DictionaryTracker.insert.Goals as goal

pub returns : goal.returns
returns c =
    let old = tracked c.args.self.now in
    let new = tracked c.put.new.self in
    let values = c.args.values.now in
    let same = to_z-of_z w64 c.args.id c.ranges.id in
    inserts_new old new c.args.id values c.in_ok-is_new.field-0
    (subst (λ (id : ℤ). Compares old (given_of id values) (Ok c.in_ok-is_new.field-0)) same c.in_ok-is_new.ensures) c.if-not-branch.false
    (subst (λ (id : ℤ). PutsValues old new id values (Ok tt)) same c.in_ok-put.ensures)
