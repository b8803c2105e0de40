use Rattle.nested_arrays_builders.specs.Nodes.{parts_of}
use Rattle.nested_arrays_builders.proofs.BegunNodes.{made_kept, made_seen}
use Rattle.nested_arrays_builders.proofs.new.of_children.Goals as goal
use Rattle.std.proofs.Common.{◌∙◌}

pub of-requires : goal.of-requires
of-requires c = made_kept c.args.data_type.now c.in_ok-data_type.data_type c.new.result (parts_of c.args.children) c.requires.kept
    c.in_ok-data_type.ensures.cases c.new.ensures

pub returns : goal.returns
returns c = (
  c.of.ensures ∙ made_seen c.args.data_type.now c.in_ok-data_type.data_type c.new.result (parts_of c.args.children) c.requires.kept
      c.in_ok-data_type.ensures.cases c.new.ensures,
  c.requires.built,
)
