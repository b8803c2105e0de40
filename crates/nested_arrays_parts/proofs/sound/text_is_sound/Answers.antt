use Rattle.std.proofs.Common.{rules, ◌≡◌, ◌≤◌, true}
use Rattle.std.specs.List.{list_all}
use Rattle.nested_arrays_flat.specs.columnar_memory.Spans.{last_of}
use Rattle.nested_arrays_flat.specs.columns.SoundColumns.{is_byte}
use Rattle.nested_arrays_flat.proofs.SoundStrings.{text_sound}
use Rattle.nested_arrays_parts.proofs.sound.text_is_sound.Goals as goal

pub returns : goal.returns
returns g c =
    let array = c.args.array.now in
    let small : last_of array.offsets ≤ g.O.Index.greatest = search rules in
    let bytes : list_all is_byte array.bytes ≡ true = search rules in
    text_sound g.O.Offset.IS_LARGE g.O.Index.greatest array g.met.O.Offset.large_law c.len-slots.ensures.whole small bytes
