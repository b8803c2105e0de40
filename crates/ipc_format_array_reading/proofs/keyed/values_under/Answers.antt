-- The id as the number that it is.
use Rattle.std.proofs.Common.{◌∙◌, ap, w64}
use Rattle.std.specs.Map.{lookup}
use Rattle.std.specs.Ordering.{int_eq}
use Rattle.std.proofs.lemmas.Int.{to_z-of_z}
use Rattle.ipc_format_array_reading.proofs.keyed.values_under.Goals as goal

pub returns : goal.returns
returns c = c.get.ensures.value ∙ ap (λ i. lookup (int_eq i) c.args.dictionaries.now.entries) (to_z-of_z w64 c.args.id c.ranges.id)
