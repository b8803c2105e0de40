-- A turn of the columns that are kept is one of those that are asked for.
use Rattle.std.proofs.Common.{length, sym, subst}
use Rattle.std.specs.Option.{option_copied}
use Rattle.ipc_format_chunk_writing.specs.BatchReads.{IsProjection}
use Rattle.ipc_format_chunk_writing.specs.ReadArrays.{standing_in}
use Rattle.ipc_format_chunk_writing.specs.messages.MessageViews.{version_view}
use Rattle.ipc_format_chunk_writing.specs.metadata.Views.{ids_views}
use Rattle.ipc_format_readers.proofs.AskedTurns.{rising_ready, taken_kept, taken_put, taken_refused}
use Rattle.ipc_format_readers.proofs.Turning.{layout_with, spot_of}
use Rattle.ipc_format_readers.proofs.turns.take_asked.Goals as goal

pub take_turn-requires-clause-asked : goal.take_turn-requires-clause-asked
take_turn-requires-clause-asked g c =
    subst (IsProjection (length c.args.fields.now)) (sym c.rising-columns.ensures)
    (rising_ready (length c.args.fields.now) c.args.asked.now c.requires.ready)

pub put_found-requires : goal.put_found-requires
put_found-requires g c =
    let layout = layout_with c.args.fields.now (ids_views c.args.ipc_schema.now.fields) c.args.ipc_schema.now.is_little_endian in
    let old = spot_of c.args.standing.now.held.items (g.R.Read.remaining c.args.device.now) (standing_in c.args.standing.now.dictionaries)
    c.args.standing.now.in_a_row in
    let new = spot_of c.take_turn.new.standing.held.items (g.R.Read.remaining c.take_turn.new.device)
    (standing_in c.take_turn.new.standing.dictionaries) c.take_turn.new.standing.in_a_row in
    taken_kept layout (version_view c.args.version) c.args.asked.now (option_copied c.rising-columns.result) old new c.take_turn.result
    c.requires.ready c.rising-columns.ensures c.take_turn.ensures.taken c.in-Ok.found c.in-Ok.is

pub returns-in-Ok-clause-taken : goal.returns-in-Ok-clause-taken
returns-in-Ok-clause-taken g c =
    let layout = layout_with c.args.fields.now (ids_views c.args.ipc_schema.now.fields) c.args.ipc_schema.now.is_little_endian in
    let old = spot_of c.args.standing.now.held.items (g.R.Read.remaining c.args.device.now) (standing_in c.args.standing.now.dictionaries)
    c.args.standing.now.in_a_row in
    let new = spot_of c.take_turn.new.standing.held.items (g.R.Read.remaining c.take_turn.new.device)
    (standing_in c.take_turn.new.standing.dictionaries) c.take_turn.new.standing.in_a_row in
    taken_put layout (version_view c.args.version) c.args.asked.now (option_copied c.rising-columns.result) old new c.take_turn.result
    c.requires.ready c.rising-columns.ensures c.take_turn.ensures.taken c.choices_are_put_back.ensures c.in-Ok.found c.put_found.result c.in-Ok.is
    c.put_found.ensures

pub returns-in-Err-clause-taken : goal.returns-in-Err-clause-taken
returns-in-Err-clause-taken g c =
    let layout = layout_with c.args.fields.now (ids_views c.args.ipc_schema.now.fields) c.args.ipc_schema.now.is_little_endian in
    let old = spot_of c.args.standing.now.held.items (g.R.Read.remaining c.args.device.now) (standing_in c.args.standing.now.dictionaries)
    c.args.standing.now.in_a_row in
    let new = spot_of c.take_turn.new.standing.held.items (g.R.Read.remaining c.take_turn.new.device)
    (standing_in c.take_turn.new.standing.dictionaries) c.take_turn.new.standing.in_a_row in
    taken_refused layout (version_view c.args.version) c.args.asked.now (option_copied c.rising-columns.result) old new c.take_turn.result
    c.requires.ready c.rising-columns.ensures c.take_turn.ensures.taken c.choices_are_put_back.ensures c.in-Err.error c.in-Err.is
