use Rattle.std.proofs.Common.{◌≡◌, take, true}
use Rattle.std.specs.List.{list_all}
use Rattle.ipc_format_grammar.specs.Writable.{is_union_id}
use Rattle.ipc_format_metadata.proofs.writable.are_in_range.Given as goal

abbrev pub invariant-loop-id : goal.invariant-loop-id
invariant-loop-id l = list_all is_union_id (take l.id-index l.ids) ≡ true
