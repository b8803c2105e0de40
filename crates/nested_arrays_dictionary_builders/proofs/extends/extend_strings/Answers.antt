use Rattle.nested_arrays_dictionary_builders.proofs.JoinedStrings.{binary_joined}
use Rattle.nested_arrays_dictionary_builders.proofs.extends.extend_strings.Goals as goal

pub returns : goal.returns
returns g c =
    binary_joined g.O.Offset.IS_LARGE c.args.strings.now c.args.other.now c.whole.ensures c.whole-2.ensures g.O.Index.greatest
    c.join_strings.new.strings c.join_strings.result g.met.O.Offset.large_law c.join_strings.ensures
