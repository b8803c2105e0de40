use Rattle.std.proofs.Common.{◌≡◌, ◌∙◌, ◌+◌, ◌≤◌, ℕ, [], ◌∷◌, ◌++◌, ap, length, subst, sum}
use Rattle.std.specs.List.{concat}
use Rattle.nested_arrays_core.specs.arrays.columnar_memory.Spans.{Spans, last_of}
use Rattle.nested_arrays_core.specs.arrays.flat_arrays.ByteStrings.{cut_by, packed}
use Rattle.nested_arrays_builder_parts.proofs.StringLists.{fault, one_more_end, more_kept, more_view}
use Rattle.nested_arrays_builder_parts.proofs.strings.Strings.push.Goals as goal

pub returns-in-Err : goal.returns-in-Err
returns-in-Err g c =
    let old = c.self.inside in
    let now = c.args.self.now in
    let size = length c.args.value.now in (
      ap (λ (o : Spans). cut_by o.lengths old.bytes.items) c.in-Err.ensures.0 ∙ c.self.view_is,
      fault g.O.Index.greatest (last_of old.offsets + sum (size ∷ [])) (length (concat now) + size) c.in-Err.error
          (one_more_end now old.offsets size (c.self.invariant.spans ∙ ap packed c.self.view_is)) c.in-Err.ensures.1,
    )

pub invariant_of-self-in-Ok : goal.invariant_of-self-in-Ok
invariant_of-self-in-Ok g c =
    let old = c.self.inside in
    more_kept (cut_by old.offsets.lengths old.bytes.items) old.offsets old.bytes.items c.self.invariant c.args.value.now c.try_push.new.self
    c.extend_from_slice.new.self.items c.in_default.ensures.0 c.in-Ok.ensures.items

pub returns-in-Ok : goal.returns-in-Ok
returns-in-Ok g c =
    let old = c.self.inside in
    let now = c.args.self.now in
    let size = length c.args.value.now in (
      more_view (cut_by old.offsets.lengths old.bytes.items) old.offsets old.bytes.items c.self.invariant c.args.value.now c.try_push.new.self
          c.extend_from_slice.new.self.items c.in_default.ensures.0 c.in-Ok.ensures.items ∙ ap (λ ss. ss ++ c.args.value.now ∷ []) c.self.view_is,
      subst (λ (n : ℕ). n ≤ g.O.Index.greatest) (one_more_end now old.offsets size (c.self.invariant.spans ∙ ap packed c.self.view_is))
          c.in_default.ensures.1,
    )
