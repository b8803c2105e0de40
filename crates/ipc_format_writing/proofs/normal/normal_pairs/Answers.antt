use Rattle.std.proofs.Common.{◌≡◌, ap, rules}
use Rattle.ipc_format_messages.specs.columnar_memory.declared.DataType.{out-DataType}
use Rattle.ipc_format_messages.specs.grammar.Schemas.{extension_name_key, extension_metadata_key}
use Rattle.ipc_format_messages.specs.grammar.Writable as format
use Rattle.ipc_format_writing.proofs.NormalLists.{same_given}
use Rattle.ipc_format_writing.proofs.normal.normal_pairs.Goals as goal

pub returns : goal.returns
returns c =
    let first : c.without.result ≡ format.without_key extension_name_key c.args.pairs.now = search rules in
    let both : c.without-others.result ≡ format.without_key extension_metadata_key (format.without_key extension_name_key c.args.pairs.now) =
    search (rules, first) in
    same_given c.with_extension_under.result _ _ (ap (λ pairs. format.with_extension_under pairs (out-DataType c.args.data_type.now)) both)
    c.with_extension_under.ensures
