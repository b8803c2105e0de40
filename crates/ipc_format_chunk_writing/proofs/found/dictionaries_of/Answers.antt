use Rattle.std.proofs.Common.{◌∙◌, ◌++◌, List, ap, map}
use Rattle.ipc_format_batch_reading.specs.columns.StoredColumns.{in_columns}
use Rattle.ipc_format_batch_reading.specs.grammar.GivenDictionaries.{given_each}
use Rattle.ipc_format_batch_reading.specs.metadata.Views.{ids_views}
use Rattle.ipc_format_chunk_writing.specs.Found.{given_in}
use Rattle.ipc_format_chunk_writing.specs.declared.found.Found.{Found}
use Rattle.ipc_format_chunk_writing.proofs.Finding.{each_is}
use Rattle.ipc_format_chunk_writing.proofs.found.dictionaries_of.Goals as goal

pub returns : goal.returns
returns c =
    let below = ids_views c.args.beside.now in
    c.in_ok-find_each.ensures
    ∙ ap (λ (found : List Found). map given_in found ++ given_each below (in_columns c.args.arrays.now)) c.new-found.ensures.items
    ∙ each_is below c.args.arrays.now
