-- Nothing is held at first, and no dictionary stands.
use Rattle.std.proofs.Common.{◌≡◌, length, ap, arith}
use Rattle.ipc_format_readers.specs.Asking.{asked_of, given_columns}
use Rattle.ipc_format_readers.proofs.Nexts.{asked_of_normal, made, schema_kept}
use Rattle.ipc_format_readers.proofs.reader.StreamReader.new.Goals as goal

pub ask-requires : goal.ask-requires
ask-requires g c =
    asked_of_normal c.args.metadata.schema c.in_ok-schema.schema (given_columns c.args.projection) c.in_ok-schema.ensures c.requires

pub invariant_of-result : goal.invariant_of-result
invariant_of-result g c =
    let none : length c.new-standing.result.held.items ≡ 0 = ap length c.new-standing.ensures.held in
    let kept = c.in_ok-asked.ensures in (
      c.in_ok-schema.ensures,
      omega (arith, none),
      kept.ready,
      schema_kept c.args.metadata.schema c.in_ok-schema.schema (given_columns c.args.projection) (c.in_ok-asked.asked, c.in_ok-asked.chosen_schema)
          c.in_ok-schema.ensures kept,
    )

pub returns : goal.returns
returns g c =
    made (g.R.Read.remaining c.args.reader) (g.R.Faults.failures c.args.reader) c.args.metadata (asked_of c.in_ok-asked.asked)
    (given_columns c.args.projection) c.new-standing.result.held.items c.new-standing.result.dictionaries c.new-standing.result.in_a_row
    c.in_ok-asked.ensures.same c.new-standing.ensures.held c.new-standing.ensures.dictionaries c.new-standing.ensures.in_a_row
