use Rattle.std.proofs.Common.{◌∙◌, ap, sym}
use Rattle.nested_arrays_access.specs.columns.SoundColumns.{is_sound}
use Rattle.nested_arrays_access.proofs.arrays_lemmas.CutNodes.{sound_after}
use Rattle.nested_arrays_core.proofs.DictionaryParts.{keyed_by_cut}
use Rattle.nested_arrays_core.proofs.dictionaries.DictionaryArray.slice.Goals as goal

pub returns : goal.returns
returns g c = keyed_by_cut _ _ _ _ _ _ _ _ c.self.view_is c.slice.ensures

pub invariant_of-self : goal.invariant_of-self
invariant_of-self g c = (
  sound_after c.args.self.now _ c.args.offset c.args.count (ap is_sound (sym c.self.view_is) ∙ c.self.invariant.0) c.requires
      (keyed_by_cut _ _ _ _ _ _ _ _ c.self.view_is c.slice.ensures),
  c.self.invariant.1,
)
