-- What a message says leads on, or is what comes.
use Rattle.std.proofs.Common.{◌≡◌, ℕ, ◌+◌, List, [], length, rules, refl, ap, subst, arith}
use Rattle.std.specs.Prelude.{Option, Some, None, Ok, Err}
use Rattle.std.specs.Option.{option_copied}
use Rattle.std.specs.Io.KnownBytes.{prepend_known}
use Rattle.ipc_format_chunk_writing.specs.ReadArrays.{standing_in}
use Rattle.ipc_format_chunk_writing.specs.columns.StoredColumns.{Column}
use Rattle.ipc_format_chunk_writing.specs.messages.MessageViews.{version_view}
use Rattle.ipc_format_chunk_writing.specs.metadata.Views.{ids_views}
use Rattle.ipc_format_chunk_writing.specs.streams.Incoming.{Holds, TakesNext}
use Rattle.ipc_format_chunk_writing.specs.streams.declared.incoming.Incoming.{Incoming}
use Rattle.ipc_format_chunk_writing.specs.streams.declared.incoming.Incoming.TheVariants as incoming
use Rattle.ipc_format_readers.specs.Hearing.{Hears, TakesTurn}
use Rattle.ipc_format_readers.proofs.Turning.{layout_with, spot_of, hears_same, stays_there, leads_on, gives_batch}
use Rattle.ipc_format_readers.proofs.Turning.{waits_there, ends_there, refused_there, unheard}
use Rattle.ipc_format_readers.proofs.turns.take_turn.Goals as goal

pub messages-init : goal.messages-init
messages-init g c =
    let asked = option_copied c.args.columns in
    let layout = layout_with c.args.fields.now (ids_views c.args.ipc_schema.now.fields) c.args.ipc_schema.now.is_little_endian in
    let spot = spot_of c.args.standing.now.held.items (g.R.Read.remaining c.args.device.now) (standing_in c.args.standing.now.dictionaries)
    c.args.standing.now.in_a_row in
    record { held = c.requires.held; known = λ x is. absurd cc; leads = stays_there asked layout (version_view c.args.version) spot }

pub returns-in_err-next_message-clause-taken : goal.returns-in_err-next_message-clause-taken
returns-in_err-next_message-clause-taken g c =
    let asked = option_copied c.args.columns in
    let layout = layout_with c.args.fields.now (ids_views c.args.ipc_schema.now.fields) c.args.ipc_schema.now.is_little_endian in
    let old = spot_of c.args.standing.now.held.items (g.R.Read.remaining c.args.device.now) (standing_in c.args.standing.now.dictionaries)
    c.args.standing.now.in_a_row in
    let now = spot_of c.messages.standing.held.items (g.R.Read.remaining c.messages.device) (standing_in c.messages.standing.dictionaries)
    c.messages.standing.in_a_row in
    let new = spot_of c.next_message.new.held.items (g.R.Read.remaining c.next_message.new.reader) (standing_in c.messages.standing.dictionaries)
    c.messages.standing.in_a_row in
    let refused : TakesTurn asked layout (version_view c.args.version) old new (Err c.in_err-next_message.field-0.0) =
    refused_there c.look_ups_are_enough.ensures asked layout (version_view c.args.version) old now new c.next_message.new.metadata.items
    c.next_message.new.body.items c.messages.invariant.leads c.in_err-next_message.field-0.0 (search rules) in
    search (rules, refused)

pub returns-in-Waiting-clause-taken : goal.returns-in-Waiting-clause-taken
returns-in-Waiting-clause-taken g c =
    let asked = option_copied c.args.columns in
    let layout = layout_with c.args.fields.now (ids_views c.args.ipc_schema.now.fields) c.args.ipc_schema.now.is_little_endian in
    let old = spot_of c.args.standing.now.held.items (g.R.Read.remaining c.args.device.now) (standing_in c.args.standing.now.dictionaries)
    c.args.standing.now.in_a_row in
    let now = spot_of c.messages.standing.held.items (g.R.Read.remaining c.messages.device) (standing_in c.messages.standing.dictionaries)
    c.messages.standing.in_a_row in
    let new = spot_of c.next_message.new.held.items (g.R.Read.remaining c.next_message.new.reader) (standing_in c.messages.standing.dictionaries)
    c.messages.standing.in_a_row in
    let taken = subst (λ (it : Incoming). TakesNext now.left new.left c.next_message.new.metadata.items c.next_message.new.body.items (Ok it))
    c.in-Waiting.is c.in_ok-next_message.ensures.taken in
    waits_there c.look_ups_are_enough.ensures asked layout (version_view c.args.version) old now new c.next_message.new.metadata.items
    c.next_message.new.body.items c.messages.invariant.leads taken refl refl

pub returns-in-End-clause-taken : goal.returns-in-End-clause-taken
returns-in-End-clause-taken g c =
    let asked = option_copied c.args.columns in
    let layout = layout_with c.args.fields.now (ids_views c.args.ipc_schema.now.fields) c.args.ipc_schema.now.is_little_endian in
    let old = spot_of c.args.standing.now.held.items (g.R.Read.remaining c.args.device.now) (standing_in c.args.standing.now.dictionaries)
    c.args.standing.now.in_a_row in
    let now = spot_of c.messages.standing.held.items (g.R.Read.remaining c.messages.device) (standing_in c.messages.standing.dictionaries)
    c.messages.standing.in_a_row in
    let new = spot_of c.next_message.new.held.items (g.R.Read.remaining c.next_message.new.reader) (standing_in c.messages.standing.dictionaries)
    c.messages.standing.in_a_row in
    let taken = subst (λ (it : Incoming). TakesNext now.left new.left c.next_message.new.metadata.items c.next_message.new.body.items (Ok it))
    c.in-End.is c.in_ok-next_message.ensures.taken in
    ends_there c.look_ups_are_enough.ensures asked layout (version_view c.args.version) old now new c.next_message.new.metadata.items
    c.next_message.new.body.items c.messages.invariant.leads taken

pub returns-in_err-chunk-clause-taken : goal.returns-in_err-chunk-clause-taken
returns-in_err-chunk-clause-taken g c =
    let asked = option_copied c.args.columns in
    let layout = layout_with c.args.fields.now (ids_views c.args.ipc_schema.now.fields) c.args.ipc_schema.now.is_little_endian in
    let old = spot_of c.args.standing.now.held.items (g.R.Read.remaining c.args.device.now) (standing_in c.args.standing.now.dictionaries)
    c.args.standing.now.in_a_row in
    let now = spot_of c.messages.standing.held.items (g.R.Read.remaining c.messages.device) (standing_in c.messages.standing.dictionaries)
    c.messages.standing.in_a_row in
    let new = spot_of c.next_message.new.held.items (g.R.Read.remaining c.next_message.new.reader) (standing_in c.read_message.new.dictionaries)
    c.messages.standing.in_a_row in
    let metadata = c.next_message.new.metadata.items in
    let body = c.next_message.new.body.items in
    let taken = subst (λ (it : Incoming). TakesNext now.left new.left metadata body (Ok it)) c.in-Message.is c.in_ok-next_message.ensures.taken in
    let hears = hears_same asked layout (version_view c.args.version) now.standing new.standing now.in_a_row c.deref.result.now metadata
    c.deref-in-messages.result.now body (Err c.in_err-chunk.field-0.0) c.deref.ensures.value c.deref-in-messages.ensures.value
    c.in_err-chunk.ensures in
    let refused : TakesTurn asked layout (version_view c.args.version) old new (Err c.in_err-chunk.field-0.0) =
    unheard c.look_ups_are_enough.ensures asked layout (version_view c.args.version) old now new metadata body c.messages.invariant.leads new
    c.in_err-chunk.field-0.0 taken hears in
    search (rules, refused)

pub returns-in-Some-clause-taken : goal.returns-in-Some-clause-taken
returns-in-Some-clause-taken g c =
    let asked = option_copied c.args.columns in
    let layout = layout_with c.args.fields.now (ids_views c.args.ipc_schema.now.fields) c.args.ipc_schema.now.is_little_endian in
    let old = spot_of c.args.standing.now.held.items (g.R.Read.remaining c.args.device.now) (standing_in c.args.standing.now.dictionaries)
    c.args.standing.now.in_a_row in
    let now = spot_of c.messages.standing.held.items (g.R.Read.remaining c.messages.device) (standing_in c.messages.standing.dictionaries)
    c.messages.standing.in_a_row in
    let new = spot_of c.next_message.new.held.items (g.R.Read.remaining c.next_message.new.reader) (standing_in c.read_message.new.dictionaries)
    0 in
    let metadata = c.next_message.new.metadata.items in
    let body = c.next_message.new.body.items in
    let taken = subst (λ (it : Incoming). TakesNext now.left new.left metadata body (Ok it)) c.in-Message.is c.in_ok-next_message.ensures.taken in
    let found = subst (λ (it : Option (List Column)). Hears asked layout (version_view c.args.version) now.standing new.standing now.in_a_row
    c.deref.result.now c.deref-in-messages.result.now (Ok it)) c.in-Some.is c.in_ok-chunk.ensures in
    let hears = hears_same asked layout (version_view c.args.version) now.standing new.standing now.in_a_row c.deref.result.now metadata
    c.deref-in-messages.result.now body (Ok (Some c.in-Some.chunk)) c.deref.ensures.value c.deref-in-messages.ensures.value found in
    gives_batch c.look_ups_are_enough.ensures asked layout (version_view c.args.version) old now new metadata body c.messages.invariant.leads
    c.in-Some.chunk taken hears refl

pub messages-preserved : goal.messages-preserved
messages-preserved g c =
    let asked = option_copied c.args.columns in
    let layout = layout_with c.args.fields.now (ids_views c.args.ipc_schema.now.fields) c.args.ipc_schema.now.is_little_endian in
    let old = spot_of c.args.standing.now.held.items (g.R.Read.remaining c.args.device.now) (standing_in c.args.standing.now.dictionaries)
    c.args.standing.now.in_a_row in
    let now = spot_of c.messages.standing.held.items (g.R.Read.remaining c.messages.device) (standing_in c.messages.standing.dictionaries)
    c.messages.standing.in_a_row in
    let new = spot_of c.next_message.new.held.items (g.R.Read.remaining c.next_message.new.reader) (standing_in c.read_message.new.dictionaries)
    (c.messages.standing.in_a_row + 1) in
    let metadata = c.next_message.new.metadata.items in
    let body = c.next_message.new.body.items in
    let taken = subst (λ (it : Incoming). TakesNext now.left new.left metadata body (Ok it)) c.in-Message.is c.in_ok-next_message.ensures.taken in
    let found = subst (λ (it : Option (List Column)). Hears asked layout (version_view c.args.version) now.standing new.standing now.in_a_row
    c.deref.result.now c.deref-in-messages.result.now (Ok it)) c.in-None.is c.in_ok-chunk.ensures in
    let hears = hears_same asked layout (version_view c.args.version) now.standing new.standing now.in_a_row c.deref.result.now metadata
    c.deref-in-messages.result.now body (Ok None) c.deref.ensures.value c.deref-in-messages.ensures.value found in
    let empty : c.next_message.new.held.items ≡ [] = subst (λ (it : Incoming). Holds c.next_message.new.held.items (Ok it)) c.in-Message.is
    c.in_ok-next_message.ensures.held in
    let none : length c.next_message.new.held.items ≡ 0 = ap length empty in
    record {
      held = omega (arith, none);
      known = c.find_values.ensures;
      leads = leads_on c.look_ups_are_enough.ensures asked layout (version_view c.args.version) old now new metadata body c.messages.invariant.leads
          taken hears refl;
    }
