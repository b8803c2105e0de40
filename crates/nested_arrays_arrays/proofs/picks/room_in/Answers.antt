use Rattle.std.proofs.Common.{◌≡◌, ◌∙◌, ap, arith, rules}
use Rattle.std.specs.Prelude.{slice_index}
use Rattle.std.specs.Int.{cast_unsigned, w8}
use Rattle.nested_arrays_arrays.proofs.picks.room_in.Goals as goal

pub returns-then-byte-rooms : goal.returns-then-byte-rooms
returns-then-byte-rooms c =
    let is : c.cast_unsigned-byte.result ≡ cast_unsigned w8 c.args.id = search rules in
    ap (slice_index c.args.rooms.now) is ∙ c.requires c.args.id c.ranges.id (omega (arith, is, c.if-byte-rooms.true))
