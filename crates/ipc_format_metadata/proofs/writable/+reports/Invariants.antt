use Rattle.std.proofs.Common.{◌≡◌, take, map, true}
use Rattle.ipc_format_grammar.specs.Writable.{over_all, plain}
use Rattle.ipc_format_metadata.specs.Reports.{capped, field_report, report_view}
use Rattle.ipc_format_metadata.proofs.writable.+reports.Given as goal

abbrev pub invariant-report_of_fields-loop-k : goal.invariant-report_of_fields-loop-k
invariant-report_of_fields-loop-k l = report_view l.all ≡ capped (over_all true plain (map field_report (take l.k l.fields)))
