use Rattle.std.proofs.Common.{◌≡◌, ◌∙◌, ◌+◌, ◌++◌, ◌∷◌, [], take, map, true, sym, ap}
use Rattle.std.proofs.lemmas.List.{map-append, take_more}
use Rattle.ipc_format_grammar.specs.Writable.{over_all, plain}
use Rattle.ipc_format_metadata.specs.Reports.{capped, field_report, report_view}
use Rattle.ipc_format_metadata.proofs.ReportSteps.{reports-more}
use Rattle.ipc_format_metadata.proofs.writable.+reports.Goals as goal

pub report_of_fields-loop-k-preserved : goal.report_of_fields-loop-k-preserved
report_of_fields-loop-k-preserved t c =
    let fields = c.args.fields.now in
    let x = c.index-fields-k.result in
    let more : take (c.loop-k.k + 1) fields ≡ take c.loop-k.k fields ++ x ∷ [] = take_more fields c.loop-k.k x c.loop-k-test.true ∙ ap
    (λ y. take c.loop-k.k fields ++ y ∷ []) (sym c.index-fields-k.is) in
    let list : map field_report (take (c.loop-k.k + 1) fields) ≡ map field_report (take c.loop-k.k fields) ++ field_report x ∷ [] = ap
    (map field_report) more ∙ map-append field_report (take c.loop-k.k fields) (x ∷ []) in
    reports-more (map field_report (take c.loop-k.k fields)) (field_report x) (report_view c.loop-k.all) (report_view c.with_child-all.result)
    (report_view c.report_of_field.result) c.loop-k.invariant c.report_of_field.ensures c.with_child-all.ensures
    ∙ ap (λ xs. capped (over_all true plain xs)) (sym list)
