-- A row makes each column one slot longer.
use Rattle.std.proofs.Common.{◌≡◌, ◌∙◌, ◌+◌, length, sym, ap}
use Rattle.std.proofs.lemmas.List.{length-map}
use Rattle.tables_chunks.specs.SameRows.{stored_row}
use Rattle.tables_rows.proofs.PushedSlots.{as_many}
use Rattle.tables_rows.proofs.ReadyGroups.{is_level, row_level}
use Rattle.tables_rows.proofs.groups.Groups.push.Goals as goal

pub close-requires : goal.close-requires
close-requires c =
    let columns = c.args.self.now.columns.items in
    let arrays = c.args.arrays.now in
    let row = stored_row arrays c.args.row in
    let wide : length row ≡ length columns = length-map arrays _ ∙ sym (as_many columns arrays c.requires.takes.typed) in
    ap (is_level (c.args.self.now.count + 1)) c.in_ok-push_row.ensures.0
    ∙ row_level columns row c.args.self.now.count wide c.requires.ready.level
