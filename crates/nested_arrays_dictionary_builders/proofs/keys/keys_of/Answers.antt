use Rattle.std.proofs.Common.{◌≡◌, ◌∙◌, ◌++◌, ◌∷◌, [], get_or, map, refl, ap, arith}
use Rattle.std.specs.Prelude.{pos}
use Rattle.nested_arrays_sized_builders.proofs.taken_lemmas.FrozenParts.{key_within, one_more_key}
use Rattle.nested_arrays_dictionary_builders.proofs.keys.keys_of.Goals as goal

pub from_as_usize-requires : goal.from_as_usize-requires
from_as_usize-requires g c =
    let uses = c.args.uses.now in
    let k = c.loop-need.need-index in
    omega (arith, c.key_of.ensures, key_within uses k 0 (get_or uses k 0) g.K.Index.greatest c.loop-need-test.true refl c.requires)

pub loop-need-preserved : goal.loop-need-preserved
loop-need-preserved g c =
    let uses = c.args.uses.now in
    let k = c.loop-need.need-index in
    let more : c.push.new.self.items ≡ c.loop-need.keys.items ++ c.from_as_usize.result ∷ [] = c.in_ok-push.ensures.items in
    ap (map g.K.Number.value) more
    ∙ one_more_key g.K.Number.value c.loop-need.keys.items uses k 0 (get_or uses k 0) c.from_as_usize.result c.loop-need-test.true refl
    c.loop-need.invariant (c.from_as_usize.ensures.0 ∙ ap pos c.key_of.ensures)
