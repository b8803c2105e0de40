use Rattle.std.proofs.Common.{rules, ◌≡◌, true, arith}
use Rattle.nested_arrays_builders.specs.BuiltTypes.{is_invalid}
use Rattle.nested_arrays_builders.proofs.BuiltTypes.{no_bytes_invalid, strings_are_plain}
use Rattle.nested_arrays_builders.proofs.new.new_strings.Goals as goal

pub returns-then-size-eq0 : goal.returns-then-size-eq0
returns-then-size-eq0 c =
    let none : is_invalid c.args.data_type.now ≡ true =
    no_bytes_invalid c.args.data_type.now c.args.size c.requires c.if-size-eq0.true in
    search (rules, none)

pub new_flat-requires : goal.new_flat-requires
new_flat-requires c = strings_are_plain c.args.data_type.now c.args.size c.requires (omega (arith, c.if-size-eq0.false))
