use Rattle.std.proofs.Common.{◌≡◌, take, true}
use Rattle.std.specs.List.{list_all}
use Rattle.nested_arrays_generic_builders.specs.nulls.columns.SoundColumns.{is_byte}
use Rattle.nested_arrays_sized_builders.proofs.sized_strings.read_bytes.Given as goal

abbrev pub invariant-loop-byte : goal.invariant-loop-byte
invariant-loop-byte l = list_all is_byte (take l.byte-index l.bytes) ≡ true
