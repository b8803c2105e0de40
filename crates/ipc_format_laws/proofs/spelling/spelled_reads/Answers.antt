use Rattle.ipc_format_laws.proofs.spelling.spelled_reads.Goals as goal
use Rattle.ipc_format_laws.proofs.Contents.{contents_read}
use Rattle.ipc_format_laws.proofs.Readers.{absent_reads, numbers_read, truths_read, tables_read, references_read, elements_read}
use Rattle.ipc_format_laws.proofs.Readers.{texts_read, each_read, roots_read}

pub returns : goal.returns
returns c = record {
  absent = absent_reads;
  numbers = numbers_read;
  truths = truths_read;
  tables = tables_read;
  references = references_read;
  elements = elements_read;
  texts = texts_read;
  each = each_read;
  roots = roots_read;
  contents = contents_read;
}
