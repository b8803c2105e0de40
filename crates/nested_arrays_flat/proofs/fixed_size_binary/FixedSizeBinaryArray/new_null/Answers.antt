use Rattle.std.proofs.Common.{rules, ◌≡◌, ◌∙◌, ◌*◌, ap, false, replicate, Some}
use Rattle.nested_arrays_columns.specs.SoundColumns.{is_sound}
use Rattle.nested_arrays_flat.specs.FlatColumns.{byte_width, fixed_column}
use Rattle.nested_arrays_flat.proofs.FixedWidths.{nulls_sound}
use Rattle.nested_arrays_flat.proofs.fixed_size_binary.FixedSizeBinaryArray.new_null.Goals as goal

pub new-requires : goal.new-requires
new-requires c =
    let t = c.args.data_type in
    let zeros : c.in_ok-values.values ≡ replicate (byte_width t * c.args.count) 0 =
    c.in_ok-values.ensures ∙ ap (λ size. replicate (size * c.args.count) 0) c.get_size.ensures in
    let unset : c.in_ok-mask.mask ≡ replicate c.args.count false = search rules in
    (λ j. is_sound (fixed_column t (byte_width t) (zeros j) (Some (unset j)))) ∙ nulls_sound t c.args.count c.requires.some
