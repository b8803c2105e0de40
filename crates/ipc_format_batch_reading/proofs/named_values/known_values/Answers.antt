-- What stands under the id is what it names.
use Rattle.std.proofs.Common.{◌≡◌, ◌∙◌, ℤ, List, ap, rules, w64}
use Rattle.std.proofs.lemmas.Int.{to_z-of_z}
use Rattle.std.specs.BTreeMap.{BTreeMap}
use Rattle.std.specs.Map.{lookup}
use Rattle.std.specs.Option.{option_map}
use Rattle.std.specs.Ordering.{int_eq}
use Rattle.std.specs.Prelude.{Option, option_copied}
use Rattle.ipc_format_reading.specs.columnar_memory.declared.Field.{Field}
use Rattle.ipc_format_reading.specs.grammar.Dictionaries.{Values, values_of}
use Rattle.ipc_format_reading.specs.grammar.Schemas.{IdsList}
use Rattle.ipc_format_reading.specs.metadata.Views.{ids_views}
use Rattle.ipc_format_batch_reading.specs.NamedValues.{AreValuesOf, known_view}
use Rattle.ipc_format_batch_reading.specs.declared.named_values.KnownValues.{KnownValues}
use Rattle.ipc_format_batch_reading.proofs.named_values.known_values.Goals as goal

known_at : (known : BTreeMap ℤ KnownValues) (fields : List Field) (below : IdsList) (number id : ℤ) (found : Option KnownValues)
    → number ≡ id → AreValuesOf fields below known → found ≡ lookup (int_eq number) known.entries
    → option_map known_view found ≡ values_of fields id below
known_at known fields below number id found same are is =
    ap (option_map known_view) (is ∙ ap (λ (i : ℤ). lookup (int_eq i) known.entries) same) ∙ are id

pub returns-in-Some-get : goal.returns-in-Some-get
returns-in-Some-get c =
    let fields = c.args.fields.now in
    let below = ids_views c.args.ipc_schema.now.fields in
    let are : AreValuesOf fields below c.in-Some.known.now = search rules in
    let there = known_at c.in-Some.known.now fields below _ c.args.id (option_copied c.get.result) (to_z-of_z w64 c.args.id c.ranges.id) are
    c.get.ensures.value in
    search (rules, there)

pub returns-in-None-get : goal.returns-in-None-get
returns-in-None-get c =
    let fields = c.args.fields.now in
    let below = ids_views c.args.ipc_schema.now.fields in
    let are : AreValuesOf fields below c.in-Some.known.now = search rules in
    let there = known_at c.in-Some.known.now fields below _ c.args.id (option_copied c.get.result) (to_z-of_z w64 c.args.id c.ranges.id) are
    c.get.ensures.value in
    search (rules, there)
