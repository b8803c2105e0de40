use Rattle.std.proofs.Common.{◌∙◌, ap, sym}
use Rattle.nested_arrays_access.specs.columns.SoundColumns.{is_sound}
use Rattle.nested_arrays_access.proofs.arrays_lemmas.CutNodes.{lists_cut, spans_within, sound_after}
use Rattle.nested_arrays_core.proofs.lists.ListArray.slice.Goals as goal

pub slice_offsets-requires : goal.slice_offsets-requires
slice_offsets-requires g c = spans_within _ _ _ _ _ _ _ c.self.view_is c.requires

pub returns : goal.returns
returns g c = lists_cut _ _ _ _ _ _ _ _ _ c.self.view_is c.slice_mask.ensures c.slice_offsets.ensures
    (spans_within _ _ _ _ _ _ _ c.self.view_is c.requires)

pub invariant_of-self : goal.invariant_of-self
invariant_of-self g c = (
  sound_after c.args.self.now _ c.args.offset c.args.count (ap is_sound (sym c.self.view_is) ∙ c.self.invariant.0) c.requires
      (lists_cut _ _ _ _ _ _ _ _ _ c.self.view_is c.slice_mask.ensures c.slice_offsets.ensures
      (spans_within _ _ _ _ _ _ _ c.self.view_is c.requires)),
  c.self.invariant.1,
)
