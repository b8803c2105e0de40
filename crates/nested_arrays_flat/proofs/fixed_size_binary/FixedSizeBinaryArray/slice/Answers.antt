use Rattle.std.proofs.Common.{◌∙◌, ◌/◌, ap, length, sym}
use Rattle.nested_arrays_columns.specs.SoundColumns.{is_sound}
use Rattle.nested_arrays_flat.proofs.ColumnParts.{sound_after}
use Rattle.nested_arrays_flat.proofs.CutMasks.{marks_within}
use Rattle.nested_arrays_flat.proofs.FixedWidths.{fixed_cut, fixed_parts, slots_within}
use Rattle.nested_arrays_flat.proofs.fixed_size_binary.FixedSizeBinaryArray.slice.Goals as goal

pub slice_mask-requires : goal.slice_mask-requires
slice_mask-requires c =
    let it = c.self.inside in
    marks_within it.validity (length it.values / it.size) c.args.offset c.args.count
    (fixed_parts it.data_type it.size it.values it.validity c.self.invariant).2
    (slots_within c.args.self.now it.data_type it.size it.values it.validity c.args.offset c.args.count c.self.view_is c.requires)

pub slice_strings-requires : goal.slice_strings-requires
slice_strings-requires c =
    let it = c.self.inside in
    slots_within c.args.self.now it.data_type it.size it.values it.validity c.args.offset c.args.count c.self.view_is c.requires

pub returns : goal.returns
returns c =
    let it = c.self.inside in
    fixed_cut c.args.self.now it.data_type it.size it.values _ it.validity _ c.args.offset c.args.count c.self.view_is c.slice_strings.ensures
    c.slice_mask.ensures

pub invariant_of-self : goal.invariant_of-self
invariant_of-self c =
    sound_after c.args.self.now _ c.args.offset c.args.count (ap is_sound (sym c.self.view_is) ∙ c.self.invariant) c.requires (returns c)
