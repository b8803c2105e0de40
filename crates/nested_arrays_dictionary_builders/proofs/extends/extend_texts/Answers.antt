use Rattle.nested_arrays_dictionary_builders.proofs.JoinedStrings.{texts_joined}
use Rattle.nested_arrays_dictionary_builders.proofs.extends.extend_texts.Goals as goal

pub returns : goal.returns
returns g c =
    texts_joined g.O.Offset.IS_LARGE c.args.texts.now c.args.other.now c.whole.ensures.layout c.whole-2.ensures.layout g.O.Index.greatest
    c.join_texts.new.texts c.join_texts.result g.met.O.Offset.large_law c.join_texts.ensures
