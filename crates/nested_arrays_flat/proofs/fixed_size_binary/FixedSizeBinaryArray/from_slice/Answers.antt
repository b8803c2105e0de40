use Rattle.std.proofs.Common.{◌≡◌, ◌∙◌, ◌*◌, ap, arith, length}
use Rattle.std.proofs.lemmas.Result.{MatchResult-weaker}
use Rattle.std.specs.Prelude.{None}
use Rattle.nested_arrays_flat.proofs.FixedItems.{flattened, whole_bytes}
use Rattle.nested_arrays_flat.specs.FixedSizeItems.{sized_column}
use Rattle.nested_arrays_flat.proofs.fixed_size_binary.FixedSizeBinaryArray.from_slice.Goals as goal

pub from_gathered-requires-clause-whole : goal.from_gathered-requires-clause-whole
from_gathered-requires-clause-whole g c =
    let count : length c.in_ok-bytes.bytes.items ≡ g.row.N * length c.args.values.now =
    ap length c.in_ok-bytes.ensures.items ∙ c.as_flattened.ensures.len ∙ omega arith in
    whole_bytes g.row.N (length c.args.values.now) c.in_ok-bytes.bytes.items c.requires count

pub returns : goal.returns
returns g c = MatchResult-weaker c.from_gathered.result c.from_gathered.ensures
    (λ array same. same ∙ ap (λ bytes. sized_column g.row.N bytes None)
    (c.in_ok-bytes.ensures.items ∙ c.as_flattened.ensures.value ∙ flattened c.args.values.now)) (λ e refused. refused)
