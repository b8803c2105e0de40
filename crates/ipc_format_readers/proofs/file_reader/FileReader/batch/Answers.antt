-- The batch at a place among the blocks, under the dictionaries that stand.
use Rattle.std.proofs.Common.{rules, ◌<◌, ◌∙◌, length, subst, sym, ap}
use Rattle.std.specs.Prelude.{Err, Ok}
use Rattle.std.specs.Option.{option_copied, option_map}
use Rattle.ipc_format_chunk_writing.specs.ReadArrays.{standing_in}
use Rattle.ipc_format_chunk_writing.specs.grammar.Tables.{left_of}
use Rattle.ipc_format_readers.specs.FileReadings.{FileReading}
use Rattle.ipc_format_readers.specs.ReaderSteps.{GivesAt}
use Rattle.ipc_format_readers.proofs.NextBatches.{given_batch, kept_of, reading_of, refused_batch, refused_before, refused_behind}
use Rattle.ipc_format_readers.proofs.file_reader.FileReader.batch.Goals as goal

pub returns-in_err-take_dictionaries : goal.returns-in_err-take_dictionaries
returns-in_err-take_dictionaries g c =
    let inside = c.self.inside in
    let error = c.in_err-take_dictionaries.field-0.0 in
    let after = option_map standing_in c.take_dictionaries.new.dictionaries in
    let left = reading_of c.take_dictionaries.new.reader inside.metadata inside.asked inside.limit after inside.next in
    let within = subst (λ (it : FileReading g.row.R.Denot). c.args.index < length it.metadata.blocks.items) (sym c.self.view_is) c.requires in
    let whole = refused_before g.R.Room.told inside.metadata inside.asked inside.limit (option_map standing_in inside.dictionaries) inside.next
    inside.reader c.take_dictionaries.new.reader after c.args.index error within c.in_err-take_dictionaries.ensures in
    let given = subst (λ (it : FileReading g.row.R.Denot). GivesAt g.R.Room.told it left c.args.index (Err error)) c.self.view_is whole in
    search (rules, given)

pub returns-in_err-chunk : goal.returns-in_err-chunk
returns-in_err-chunk g c =
    let inside = c.self.inside in
    let error = c.in_err-chunk.field-0.0 in
    let after = option_map standing_in c.take_dictionaries.new.dictionaries in
    let left = reading_of c.read_batch.new.reader inside.metadata inside.asked inside.limit after inside.next in
    let within = subst (λ (it : FileReading g.row.R.Denot). c.args.index < length it.metadata.blocks.items) (sym c.self.view_is) c.requires in
    let whole = refused_batch g.R.Room.told inside.metadata inside.asked inside.limit (option_map standing_in inside.dictionaries) inside.next
    inside.reader c.look_ups_are_enough.ensures c.take_dictionaries.new.reader c.read_batch.new.reader after (standing_in c.in-Some.dictionaries)
    (ap (option_map standing_in) c.in-Some.is) c.args.index within c.in_ok-take_dictionaries.field-0 c.in_ok-take_dictionaries.ensures
    c.choices_are_put_back.ensures inside.metadata.has_arrays c.self.invariant.0 (option_copied c.rising.result) c.rising.ensures error
    c.in_err-chunk.ensures.read in
    let given = subst (λ (it : FileReading g.row.R.Denot). GivesAt g.R.Room.told it left c.args.index (Err error)) c.self.view_is whole in
    search (rules, given)

pub put_asked-requires : goal.put_asked-requires
put_asked-requires g c =
    kept_of c.self.inside.metadata c.self.inside.asked (option_copied c.rising.result) c.in_ok-chunk.chunk c.self.invariant.0 c.rising.ensures
    c.in_ok-chunk.ensures.types

pub returns-in_err-ordered : goal.returns-in_err-ordered
returns-in_err-ordered g c =
    let inside = c.self.inside in
    let result = c.from_residual-in_err-ordered.result in
    let after = option_map standing_in c.take_dictionaries.new.dictionaries in
    let left = reading_of c.read_batch.new.reader inside.metadata inside.asked inside.limit after inside.next in
    let within = subst (λ (it : FileReading g.row.R.Denot). c.args.index < length it.metadata.blocks.items) (sym c.self.view_is) c.requires in
    let whole = refused_behind g.R.Room.told inside.metadata inside.asked inside.limit (option_map standing_in inside.dictionaries) inside.next
    inside.reader c.look_ups_are_enough.ensures c.take_dictionaries.new.reader c.read_batch.new.reader after (standing_in c.in-Some.dictionaries)
    (ap (option_map standing_in) c.in-Some.is) c.args.index within c.in_ok-take_dictionaries.field-0 c.in_ok-take_dictionaries.ensures
    result (search rules) in
    subst (λ (it : FileReading g.row.R.Denot). GivesAt g.R.Room.told it left c.args.index result) c.self.view_is whole

pub returns : goal.returns
returns g c =
    let inside = c.self.inside in
    let ordered = c.in_ok-ordered.ordered in
    let limit = c.left_behind-self-inside.result in
    let after = option_map standing_in c.take_dictionaries.new.dictionaries in
    let left = reading_of c.read_batch.new.reader inside.metadata inside.asked limit after inside.next in
    let within = subst (λ (it : FileReading g.row.R.Denot). c.args.index < length it.metadata.blocks.items) (sym c.self.view_is) c.requires in
    let whole = given_batch g.R.Room.told inside.metadata inside.asked inside.limit (option_map standing_in inside.dictionaries) inside.next
    inside.reader c.look_ups_are_enough.ensures c.take_dictionaries.new.reader c.read_batch.new.reader after (standing_in c.in-Some.dictionaries)
    (ap (option_map standing_in) c.in-Some.is) c.args.index within c.in_ok-take_dictionaries.field-0 c.in_ok-take_dictionaries.ensures
    c.choices_are_put_back.ensures inside.metadata.has_arrays c.self.invariant.0 (option_copied c.rising.result) c.rising.ensures
    c.in_ok-chunk.chunk ordered limit c.in_ok-chunk.ensures.read c.in_ok-chunk.ensures.types c.in_ok-ordered.ensures
    (c.left_behind-self-inside.ensures ∙ ap (left_of inside.limit) c.len.ensures) in
    subst (λ (it : FileReading g.row.R.Denot). GivesAt g.R.Room.told it left c.args.index (Ok ordered)) c.self.view_is whole
