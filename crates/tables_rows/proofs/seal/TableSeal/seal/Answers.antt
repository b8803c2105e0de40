-- The stream of the groups is the seal, which reads back.
use Rattle.std.proofs.Common.{rules, ◌≡◌, true}
use Rattle.tables_chunks.specs.StoredTables.{as_table}
use Rattle.tables_chunks.specs.ipc_format.Seals.{is_sealable}
use Rattle.tables_rows.specs.Seals.{Seals}
use Rattle.tables_rows.proofs.SealAnswers.{seal_answers, seal_reads_back}
use Rattle.tables_rows.proofs.seal.TableSeal.seal.Goals as goal

pub returns : goal.returns
returns c =
    let table = c.args.self.now in
    let can : is_sealable table.schema ≡ true = search rules in
    let is : Seals (as_table table) c.args.n c.stream_of.result =
    seal_answers table c.args.n c.in_ok-groups.groups c.stream_of.result can c.requires c.whole.ensures.batches c.in_ok-groups.ensures
    c.stream_of.ensures in
    record {
      sealed = is;
      reads_back = seal_reads_back c.seals_read_back.ensures (as_table table) c.args.n c.stream_of.result c.whole.ensures.texts is;
    }
