use Rattle.std.proofs.Common.{arith}
use Rattle.nested_arrays_sized_builders.proofs.values_lemmas.Needs.{greatest_first}
use Rattle.nested_arrays_dictionary_builders.proofs.KeyedParts.{first_kept, first_keyed, hashes_many}
use Rattle.nested_arrays_dictionary_builders.proofs.dictionaries.MutableDictionaryArray.truncate.Goals as goal

pub truncate-requires-2 : goal.truncate-requires-2
truncate-requires-2 g c =
    omega (
      arith,
      c.truncate-named.ensures.need,
      greatest_first c.args.len c.self.inside.uses,
      c.self.invariant.named,
      hashes_many c.self.invariant,
    )

pub truncate-requires-3 : goal.truncate-requires-3
truncate-requires-3 g c =
    omega (arith, c.truncate-named.ensures.need, greatest_first c.args.len c.self.inside.uses, c.self.invariant.named)

pub invariant_of-self : goal.invariant_of-self
invariant_of-self g c =
    let within = rw (← c.self.view_is) at c.requires in
    first_keyed c.self.invariant c.args.len c.truncate-named.result within c.truncate-named.ensures.need
    (g.M.MutableArray.column c.truncate-3.new.self) c.truncate-3.ensures c.truncate.new.self c.truncate-named.new.self c.truncate-2.new.self
    c.truncate.ensures c.truncate-named.ensures.first c.truncate-2.ensures

pub returns-clause-column : goal.returns-clause-column
returns-clause-column g c =
    let within = rw (← c.self.view_is) at c.requires in
    rw (← c.self.view_is)
    (first_kept c.self.invariant c.args.len c.truncate-named.result within c.truncate-named.ensures.need
    (g.M.MutableArray.column c.truncate-3.new.self) c.truncate-3.ensures c.truncate-named.new.self c.truncate-named.ensures.first)
