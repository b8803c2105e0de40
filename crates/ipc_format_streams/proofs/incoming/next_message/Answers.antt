-- What the parts of a message say together.
use Rattle.std.proofs.Common.{rules, true, false, List, ℕ}
use Rattle.std.specs.Prelude.{Option, Ok}
use Rattle.std.specs.Io.KnownBytes.{prepend_known}
use Rattle.ipc_format_streams.specs.Arriving.{Fills}
use Rattle.ipc_format_streams.specs.Incoming.{TellsSize}
use Rattle.ipc_format_streams.proofs.Told.{waiting, refused_metadata, refused_body, came_whole}
use Rattle.ipc_format_streams.proofs.incoming.next_message.Goals as goal

pub returns-then-not-branch : goal.returns-then-not-branch
returns-then-not-branch g c =
    let filled : Fills (g.R.Read.remaining c.args.reader.now) (g.R.Read.remaining c.fill.new.reader) c.args.held.now.items
    c.fill.new.into.items 4 (Ok false) = search rules in
    record { taken = waiting _ _ _ _ filled; held = filled.1 }

pub returns-in_err-take_metadata : goal.returns-in_err-take_metadata
returns-in_err-take_metadata g c =
    let filled : Fills (g.R.Read.remaining c.args.reader.now) (g.R.Read.remaining c.fill.new.reader) c.args.held.now.items
    c.fill.new.into.items 4 (Ok true) = search rules in
    let told : TellsSize (g.R.Read.remaining c.fill.new.reader) (g.R.Read.remaining c.size_behind.new.reader) c.fill.new.into.items
    c.size_behind.new.head.items (Ok c.in_ok-size.size) = search rules in
    let new : Option (List ℕ) = prepend_known c.replace-head.new.dest.items (g.R.Read.remaining c.take_metadata.new.reader) in
    let refused = refused_metadata (g.R.Read.remaining c.args.reader.now) (g.R.Read.remaining c.fill.new.reader)
    (g.R.Read.remaining c.size_behind.new.reader) (g.R.Read.remaining c.take_metadata.new.reader) new c.args.held.now.items
    c.fill.new.into.items c.size_behind.new.head.items c.take_metadata.new.metadata.items c.args.body.now.items c.in_ok-size.size
    c.in_err-take_metadata.field-0.0 filled told (search rules) in
    record { taken = search (rules, refused); held = search rules }

pub returns-in_err-take_body : goal.returns-in_err-take_body
returns-in_err-take_body g c =
    let filled : Fills (g.R.Read.remaining c.args.reader.now) (g.R.Read.remaining c.fill.new.reader) c.args.held.now.items
    c.fill.new.into.items 4 (Ok true) = search rules in
    let told : TellsSize (g.R.Read.remaining c.fill.new.reader) (g.R.Read.remaining c.size_behind.new.reader) c.fill.new.into.items
    c.size_behind.new.head.items (Ok c.in_ok-size.size) = search rules in
    let new : Option (List ℕ) = prepend_known c.replace-head.new.dest.items (g.R.Read.remaining c.take_body.new.reader) in
    let refused = refused_body (g.R.Read.remaining c.args.reader.now) (g.R.Read.remaining c.fill.new.reader)
    (g.R.Read.remaining c.size_behind.new.reader) (g.R.Read.remaining c.take_metadata.new.reader) (g.R.Read.remaining c.take_body.new.reader) new
    c.args.held.now.items c.fill.new.into.items c.size_behind.new.head.items c.take_metadata.new.metadata.items c.take_body.new.body.items
    c.in_ok-size.size c.in_err-take_body.field-0.0 filled told (search rules) (search rules) (search rules) in
    record { taken = search (rules, refused); held = search rules }

pub returns : goal.returns
returns g c =
    let filled : Fills (g.R.Read.remaining c.args.reader.now) (g.R.Read.remaining c.fill.new.reader) c.args.held.now.items
    c.fill.new.into.items 4 (Ok true) = search rules in
    let told : TellsSize (g.R.Read.remaining c.fill.new.reader) (g.R.Read.remaining c.size_behind.new.reader) c.fill.new.into.items
    c.size_behind.new.head.items (Ok c.in_ok-size.size) = search rules in
    let new : Option (List ℕ) = prepend_known c.replace-head.new.dest.items (g.R.Read.remaining c.take_body.new.reader) in
    let whole = came_whole (g.R.Read.remaining c.args.reader.now) (g.R.Read.remaining c.fill.new.reader)
    (g.R.Read.remaining c.size_behind.new.reader) (g.R.Read.remaining c.take_metadata.new.reader) (g.R.Read.remaining c.take_body.new.reader)
    c.args.held.now.items c.fill.new.into.items c.size_behind.new.head.items c.take_metadata.new.metadata.items c.take_body.new.body.items
    c.replace-head.new.dest.items c.in_ok-size.size filled told (search rules) (search rules) (search rules) (search rules) in
    record { taken = whole; held = search rules }
