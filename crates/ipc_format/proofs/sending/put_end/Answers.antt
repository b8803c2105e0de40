-- The end mark, zeros, the footer and what stands behind it, one behind the other.
use Rattle.std.proofs.Common.{rules, ℕ, List, ◌++◌, length, replicate}
use Rattle.ipc_format_readers.specs.chunk_writing.grammar.WrittenFiles.{file_end}
use Rattle.ipc_format_readers.specs.chunk_writing.grammar.WrittenMessages.{end_mark}
use Rattle.ipc_format_readers.proofs.chunk_lemmas.Appending.{appends_both, puts_behind, puts_between, puts_first, puts_same}
use Rattle.ipc_format_readers.proofs.chunk_lemmas.Appending.{refused_same}
use Rattle.ipc_format.specs.Ends.{file_tail}
use Rattle.ipc_format.proofs.FileEndBytes.{end_parts, parts_behind}
use Rattle.ipc_format.proofs.sending.put_end.Goals as goal

pub returns-in_err-put : goal.returns-in_err-put
returns-in_err-put g c =
    let error = c.in_err-put.field-0.0 in
    let zeros : List ℕ = replicate c.args.zeros 0 in
    let whole = puts_first error _ _ (end_mark ++ zeros) (file_end c.args.footer.now) (puts_first error _ _ end_mark zeros c.in_err-put.ensures) in
    search (rules, whole)

pub returns-in_err-put_zeros : goal.returns-in_err-put_zeros
returns-in_err-put_zeros g c =
    let zeros : List ℕ = replicate c.args.zeros 0 in
    let whole = puts_between c.in_err-put_zeros.field-0.0 _ _ _ end_mark zeros (file_end c.args.footer.now) c.in_ok-put.ensures
    c.in_err-put_zeros.ensures in
    search (rules, whole)

pub returns-in_err-put-2 : goal.returns-in_err-put-2
returns-in_err-put-2 g c =
    let error = c.in_err-put-2.field-0.0 in
    let zeros : List ℕ = replicate c.args.zeros 0 in
    let footer : List ℕ = c.args.footer.now in
    let before = appends_both _ _ _ end_mark zeros c.in_ok-put.ensures c.in_ok-put_zeros.ensures in
    let whole = refused_same error _ _ _ (end_mark ++ zeros ++ file_end footer) (parts_behind (end_mark ++ zeros) footer)
    (puts_between error _ _ _ (end_mark ++ zeros) footer (file_tail (length footer)) before c.in_err-put-2.ensures) in
    search (rules, whole)

pub returns : goal.returns
returns g c =
    let zeros : List ℕ = replicate c.args.zeros 0 in
    let footer : List ℕ = c.args.footer.now in
    let before = appends_both _ _ _ end_mark zeros c.in_ok-put.ensures c.in_ok-put_zeros.ensures in
    puts_behind c.put_tail.result _ _ _ (end_mark ++ zeros) (file_end footer) before
    (puts_same c.put_tail.result _ _ _ (file_end footer) (end_parts footer)
    (puts_behind c.put_tail.result _ _ _ footer (file_tail (length footer)) c.in_ok-put-2.ensures c.put_tail.ensures))
