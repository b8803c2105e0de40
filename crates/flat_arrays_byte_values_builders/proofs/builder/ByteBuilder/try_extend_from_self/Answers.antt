use Rattle.std.proofs.Common.{◌≡◌, ◌≤◌, ◌∙◌, length, refl, rules, subst, sym, arith}
use Rattle.std.proofs.lemmas.Result.{err_from_is_err_and}
use Rattle.std.specs.Prelude.{is_some, true}
use Rattle.std.specs.Result.{is_err}
use Rattle.flat_arrays_bytes.specs.columnar_memory.Spans.{last_of}
use Rattle.flat_arrays_bytes.proofs.columnar_memory_lemmas.buffer_lemmas.Runs.{last_of-extended}
use Rattle.flat_arrays_bytes.specs.ByteStrings.{byte_strings, marks}
use Rattle.flat_arrays_bytes.specs.Fits.{IsMaskOf}
use Rattle.flat_arrays_byte_values_builders.proofs.Growth.{length-marks}
use Rattle.flat_arrays_byte_values_builders.proofs.Masks.{held_marks, kept_front, memory_fault, not_past, restored, undone_marks, unmoved}
use Rattle.flat_arrays_byte_values_builders.specs.Growing.{IsFilled, joined}
use Rattle.flat_arrays_byte_values_builders.proofs.builder.ByteBuilder.try_extend_from_self.Goals as goal

pub returns-in_err-extend_stored-clause-grown : goal.returns-in_err-extend_stored-clause-grown
returns-in_err-extend_stored-clause-grown g c =
    let p = err_from_is_err_and c.from_residual.result c.from_residual.ensures.1 in
    let s = c.self.inside in
    let held = byte_strings s.data_type s.offsets s.values.items s.validity in
    let refused = c.in_err-extend_stored.ensures in
    let same =
    restored held s.offsets c.extend_stored.new.values.items c.extend_stored.new.validity refl refused.1 refused.2 ∙ c.self.view_is in
    let fits = not_past c.would_overflow.result g.O.Index.greatest _ c.would_overflow.ensures c.if-would_overflow.false in
    let o = c.other.inside in
    let more = byte_strings o.data_type o.offsets o.values.items o.validity in
    let inside : last_of (joined held more).offsets ≤ g.O.Index.greatest =
    omega (arith, fits, c.start_of-start.ensures, c.end_of-end.ensures.value, last_of-extended s.offsets o.offsets.lengths) in
    let within =
    subst (λ a. last_of (joined a c.args.other.now).offsets ≤ g.O.Index.greatest) c.self.view_is
    (subst (λ b. last_of (joined held b).offsets ≤ g.O.Index.greatest) c.other.view_is inside) in
    let end = last_of (joined c.args.self.now c.args.other.now).offsets in
    rw (p.1, p.2)
    (same, memory_fault g.O.Index.greatest end c.in_err-extend_stored.field-0.0 refused.0 within)

pub undo_marks-requires : goal.undo_marks-requires
undo_marks-requires g c =
    let n = c.len_proxy-count.result in
    let m = c.len_proxy.result in
    let mask = c.self.inside.validity in
    let more = c.other.inside.validity in
    held_marks n m mask c.extend_stored.new.validity (marks m more)
    (length-marks m more (subst (λ k. IsMaskOf k more) (sym c.len_proxy.ensures) c.other.invariant.masked))
    (subst (λ k. IsMaskOf k mask) (sym c.len_proxy-count.ensures) c.self.invariant.masked) c.in_ok-extend_stored.ensures.1

pub invariant_of-self-then-is_err : goal.invariant_of-self-then-is_err
invariant_of-self-then-is_err g c =
    let s = c.self.inside in
    let n = c.len_proxy-count.result in
    let grown = c.try_extend_from_self-grown in
    let held = byte_strings s.data_type s.offsets s.values.items s.validity in
    let failed : is_err grown.result ≡ true = sym c.is_err.ensures.value ∙ c.if-is_err.true in
    let offsets = unmoved g.O.Index.greatest s.offsets c.other.inside.offsets.lengths grown.new.self grown.result grown.ensures failed in
    let count : c.len-held.result ≡ length s.values.items = search rules in
    let bytes =
    kept_front s.values.items _ c.extend_stored.new.values.items c.truncate.new.self.items c.len-held.result c.in_ok-extend_stored.ensures.0
    c.truncate.ensures.items count in
    let had : c.is_some-had_mask.result ≡ is_some s.validity = c.is_some-had_mask.ensures in
    let mask =
    undone_marks n s.validity c.extend_stored.new.validity c.undo_marks.new.validity (marks c.len_proxy.result c.other.inside.validity)
    c.is_some-had_mask.result (subst (λ k. IsMaskOf k s.validity) (sym c.len_proxy-count.ensures) c.self.invariant.masked) had
    c.in_ok-extend_stored.ensures.1 c.undo_marks.ensures in
    subst IsFilled (sym (restored held grown.new.self c.truncate.new.self.items c.undo_marks.new.validity offsets bytes mask)) c.self.invariant
