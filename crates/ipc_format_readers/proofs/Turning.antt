-- What is read of a stream message by message is what comes next of it.
use Rattle.std.proofs.Common.{◌≡◌, ◌∙◌, ℕ, zero, suc, ◌+◌, ◌-◌, ◌<◌, ◌≤◌, Bool, true, false, List, [], ◌∷◌, length, map, drop, refl, sym, ap, subst}
use Rattle.std.proofs.Common.{arith, Bor}
use Rattle.std.specs.Prelude.{Option, Some, None, Result, Ok, Err}
use Rattle.std.specs.Io.KnownBytes.{prepend_known}
use Rattle.ipc_format_chunk_writing.specs.Standing.{ByLookUps, StandAlike}
use Rattle.ipc_format_chunk_writing.specs.columnar_memory.declared.Error.{Error}
use Rattle.ipc_format_chunk_writing.specs.columnar_memory.declared.Error.TheVariants as errors
use Rattle.ipc_format_chunk_writing.specs.columnar_memory.declared.Field.{Field}
use Rattle.ipc_format_chunk_writing.specs.columns.StoredColumns.{Column, slots}
use Rattle.ipc_format_chunk_writing.specs.flatbuffers.Reading.{◌>>=◌}
use Rattle.ipc_format_chunk_writing.specs.grammar.Columns.{Dictionary, standing_for}
use Rattle.ipc_format_chunk_writing.specs.grammar.Dictionaries.{Layout}
use Rattle.ipc_format_chunk_writing.specs.grammar.Framing.{Framed, Next, nothing_whole, at_end, message_then, next_at, by_next}
use Rattle.ipc_format_chunk_writing.specs.grammar.Limits.{most_dictionaries}
use Rattle.ipc_format_chunk_writing.specs.grammar.Messages.{Message, Version, message_in}
use Rattle.ipc_format_chunk_writing.specs.grammar.Schemas.{IdsList}
use Rattle.ipc_format_chunk_writing.specs.streams.Incoming.{ForLeft, IsNextMessage, TakesNext}
use Rattle.ipc_format_chunk_writing.specs.streams.declared.incoming.Incoming.TheVariants as incoming
use Rattle.ipc_format_readers.specs.Hearing.{HasTypes, Hears, Spot, StandsAt, TakesTurn, heard_in, is_not_read_in, turn_at}
use Rattle.ipc_format_readers.specs.Turns.{Said, dictionary_stands, columns_come, heard, Turn, waits, ends, gives, turn_with, turn_within}
use Rattle.ipc_format_readers.specs.Turns.{next_turn, is_not_read, is_not_read_behind, HasNotRead}
use Rattle.ipc_format_readers.specs.declared.state.StreamState.TheVariants as states
use Rattle.ipc_format_readers.proofs.Dropped.{bind_is, some_is}
use Rattle.ipc_format_readers.proofs.Headers.{says}
use Rattle.ipc_format_readers.proofs.Alike.{alike_same, alike_further, alike_back, alike_before, heard_alike}

-- ---- one message more

-- what comes of what stands first
turn_by : (asked : Option (List ℕ)) (layout : Layout) (version : Version) (bytes : List ℕ) (standing : List Dictionary) (row : ℕ)
    (next : Option Next) → next_at bytes 0 ≡ next
    → next_turn asked layout version bytes standing row ≡ (next >>= by_next (Some (waits bytes standing row)) (Some ends) (λ message after.
    heard asked layout version standing row message >>= turn_with
    (λ now stand. turn_within asked layout version (most_dictionaries - row) (drop after bytes) stand now) (drop after bytes) standing))
unfolding next_turn
turn_by asked layout version bytes standing row next e =
    ap (λ (it : Option Next). it >>= by_next (Some (waits bytes standing row)) (Some ends) (λ message after.
    heard asked layout version standing row message >>= turn_with
    (λ now stand. turn_within asked layout version (most_dictionaries - row) (drop after bytes) stand now) (drop after bytes) standing)) e

turn_of_message : (asked : Option (List ℕ)) (layout : Layout) (version : Version) (bytes : List ℕ) (standing : List Dictionary) (row : ℕ)
    (message : Framed) (after : ℕ) (found : Option (ℕ × Said)) → next_at bytes 0 ≡ Some (message_then message after)
    → heard asked layout version standing row message ≡ found
    → next_turn asked layout version bytes standing row
    ≡ (found >>= turn_with (λ now stand. turn_within asked layout version (most_dictionaries - row) (drop after bytes) stand now) (drop after bytes)
    standing)
turn_of_message asked layout version bytes standing row message after found e heard_is =
    turn_by asked layout version bytes standing row (Some (message_then message after)) e
    ∙ ap (λ (it : Option (ℕ × Said)). it >>= turn_with
    (λ now stand. turn_within asked layout version (most_dictionaries - row) (drop after bytes) stand now) (drop after bytes) standing) heard_is

-- behind a dictionary one message less is looked at
one_less : (asked : Option (List ℕ)) (layout : Layout) (version : Version) (bytes : List ℕ) (standing : List Dictionary) (row : ℕ)
    → row < most_dictionaries
    → turn_within asked layout version (most_dictionaries - row) bytes standing (row + 1) ≡ next_turn asked layout version bytes standing (row + 1)
unfolding next_turn
one_less asked layout version bytes standing row few =
    let less : most_dictionaries - row ≡ suc (most_dictionaries - (row + 1)) = omega (arith, few) in
    ap (λ (most : ℕ). turn_within asked layout version most bytes standing (row + 1)) less

-- ---- messages that are not read

not_read_first : (bytes : List ℕ) (message : Framed) (after : ℕ) → next_at bytes 0 ≡ Some (message_then message after)
    → is_not_read message.metadata message.header ≡ true → HasNotRead bytes
not_read_first bytes message after e is =
    (0, ap (λ (next : Option Next). next >>= by_next None None (λ it place. Some (is_not_read it.metadata it.header))) e ∙ ap Some is)

-- what is said of a message's metadata
not_read_is : (metadata : List ℕ) (it : Message) → message_in metadata ≡ Some it → is_not_read_in metadata ≡ Some true
    → is_not_read metadata it.header ≡ true
not_read_is metadata it there is =
    some_is (is_not_read metadata it.header) true
    (sym (bind_is (message_in metadata) (λ (found : Message). Some (is_not_read metadata found.header)) it there) ∙ is)

not_read_later : (bytes : List ℕ) (message : Framed) (after : ℕ) → next_at bytes 0 ≡ Some (message_then message after)
    → HasNotRead (drop after bytes) → HasNotRead bytes
not_read_later bytes message after e later =
    (suc later.0, ap (λ (next : Option Next). next >>= by_next None None (λ it place. is_not_read_behind later.0 (drop place bytes))) e ∙ later.1)

-- ---- what was read leads from one spot to another

-- where a reader stands that holds some bytes before those that its device has left
abbrev pub spot_of : List ℕ → Option (List ℕ) → List Dictionary → ℕ → Spot
spot_of held left standing row = record { left = prepend_known held left; standing = standing; in_a_row = row }

abbrev pub layout_with : List Field → IdsList → Bool → Layout
layout_with fields below little = record { fields = fields; below = below; is_little_endian = little }

-- Some dictionaries stand between two spots: what comes next of the first is what comes next of the second.
abbrev pub LeadsTo : Option (List ℕ) → Layout → Version → Spot → Spot → List ℕ → Type 0
LeadsTo asked layout version old now bytes = (rest : List ℕ) × (standing : List Dictionary) × (now.left ≡ Some rest)
    × StandAlike standing now.standing × (turn_at asked layout version old bytes ≡ next_turn asked layout version rest standing now.in_a_row)
    × (HasNotRead rest → HasNotRead bytes)

abbrev pub Leads : Option (List ℕ) → Layout → Version → Spot → Spot → Type 0
Leads asked layout version old now = ForLeft old.left (LeadsTo asked layout version old now)

pub stays_there : (asked : Option (List ℕ)) (layout : Layout) (version : Version) (spot : Spot) → Leads asked layout version spot spot
stays_there asked layout version spot bytes e = (bytes, spot.standing, e, alike_same spot.standing, refl, λ it. it)

-- what is heard of the same metadata and body
pub hears_same : (asked : Option (List ℕ)) (layout : Layout) (version : Version) (standing standing_after : List Dictionary) (row : ℕ)
    (m metadata b body : List ℕ) (result : Result (Option (List Column)) Error) → m ≡ metadata → b ≡ body
    → Hears asked layout version standing standing_after row m b result
    → Hears asked layout version standing standing_after row metadata body result
hears_same asked layout version standing standing_after row m metadata b body result first second hears =
    subst (λ (x : List ℕ). Hears asked layout version standing standing_after row metadata x result) second
    (subst (λ (x : List ℕ). Hears asked layout version standing standing_after row x b result) first hears)

-- a message that came, and what is heard of it
abbrev message_of : List ℕ → List ℕ → Message → Framed
message_of metadata body it = record { metadata = metadata; header = it.header; body = body }

pub record Came (bytes : List ℕ) (left : Option (List ℕ)) (metadata body : List ℕ) : Type 0 where
  pub it : Message
  pub after : ℕ
  pub there : message_in metadata ≡ Some it
  pub first : next_at bytes 0 ≡ Some (message_then (message_of metadata body it) after)
  pub behind : left ≡ Some (drop after bytes)

came : (bytes : List ℕ) (left : Option (List ℕ)) (metadata body : List ℕ) → IsNextMessage left metadata body bytes → Came bytes left metadata body
came bytes left metadata body next =
    let said = says bytes (record { metadata = metadata; header = next.0; body = body }) next.1 next.2 in
    record {
      it = said.0;
      after = next.1;
      there = said.1;
      first = next.2 ∙ ap (λ h. Some (message_then (record { metadata = metadata; header = h; body = body }) next.1)) (sym said.2);
      behind = next.3;
    }

module _ (law : ByLookUps) (asked : Option (List ℕ)) (layout : Layout) (version : Version) where
  -- what is heard under dictionaries that stand alike
  hears_as : (metadata body : List ℕ) (it : Message) (old new : List Dictionary) (row : ℕ) (found : Option (ℕ × Said))
      → message_in metadata ≡ Some it → StandAlike old new → heard_in asked layout version new row metadata body ≡ found
      → heard asked layout version old row (message_of metadata body it) ≡ found
  hears_as metadata body it old new row found there alike e =
      heard_alike law asked layout version old new row (message_of metadata body it) alike
      ∙ sym (bind_is (message_in metadata) (λ (m : Message). heard asked layout version new row (message_of metadata body m)) it there) ∙ e

  module _ (old now new : Spot) (metadata body : List ℕ) (leads : Leads asked layout version old now) where
    -- a dictionary stands
    pub leads_on : TakesNext now.left new.left metadata body (Ok incoming.Message)
        → Hears asked layout version now.standing new.standing now.in_a_row metadata body (Ok None) → new.in_a_row ≡ now.in_a_row + 1
        → Leads asked layout version old new
    leads_on next hears row bytes e =
        let here = leads bytes e in
        let message = came here.0 new.left metadata body (next here.0 here.2) in
        let said = hears_as metadata body message.it here.1 now.standing now.in_a_row
        (Some (now.in_a_row + 1, dictionary_stands hears.1.0)) message.there here.3 hears.1.1 in (
          drop message.after here.0,
          hears.1.0 ∷ here.1,
          message.behind,
          alike_further (hears.1.0 ∷ here.1) (hears.1.0 ∷ now.standing) new.standing (alike_before hears.1.0 here.1 now.standing here.3) hears.1.2,
          here.4 ∙ turn_of_message asked layout version here.0 here.1 now.in_a_row (message_of metadata body message.it) message.after _
              message.first said
              ∙ one_less asked layout version (drop message.after here.0) (hears.1.0 ∷ here.1) now.in_a_row hears.0
              ∙ ap (λ (n : ℕ). next_turn asked layout version (drop message.after here.0) (hears.1.0 ∷ here.1) n) (sym row),
          λ later. here.5 (not_read_later here.0 (message_of metadata body message.it) message.after message.first later),
        )

    -- the columns of a record batch come
    pub gives_batch : (chunk : List Column) → TakesNext now.left new.left metadata body (Ok incoming.Message)
        → Hears asked layout version now.standing new.standing now.in_a_row metadata body (Ok (Some chunk)) → new.in_a_row ≡ 0
        → TakesTurn asked layout version old new (Ok (Some (states.Some chunk)))
    gives_batch chunk next hears row = (
      hears.1,
      λ bytes e.
          let here = leads bytes e in
          let message = came here.0 new.left metadata body (next here.0 here.2) in
          let said = hears_as metadata body message.it here.1 now.standing now.in_a_row (Some (0, columns_come (map slots chunk)))
          message.there here.3 hears.0 in (
            drop message.after here.0,
            here.1,
            here.4 ∙ turn_of_message asked layout version here.0 here.1 now.in_a_row (message_of metadata body message.it) message.after _
                message.first said,
            (message.behind, alike_further here.1 now.standing new.standing here.3 (λ id. ap (standing_for id) (sym hears.2)), row),
          ),
    )

    -- fewer than four bytes are left
    pub waits_there : TakesNext now.left new.left metadata body (Ok incoming.Waiting) → new.standing ≡ now.standing → new.in_a_row ≡ now.in_a_row
        → TakesTurn asked layout version old new (Ok (Some states.Waiting))
    waits_there next stays row bytes e =
        let here = leads bytes e in
        let left = next here.0 here.2 in (
          here.0,
          here.1,
          now.in_a_row,
          here.4 ∙ turn_by asked layout version here.0 here.1 now.in_a_row (Some nothing_whole) left.0,
          (left.1, alike_further here.1 now.standing new.standing here.3 (λ id. ap (standing_for id) (sym stays)), row),
        )

    -- the end mark
    pub ends_there : TakesNext now.left new.left metadata body (Ok incoming.End) → TakesTurn asked layout version old new (Ok None)
    ends_there next bytes e =
        let here = leads bytes e in
        here.4 ∙ turn_by asked layout version here.0 here.1 now.in_a_row (Some at_end) (next here.0 here.2)

    -- the bytes are refused
    pub refused_there : (error : Error) → TakesNext now.left new.left metadata body (Err error) → TakesTurn asked layout version old new (Err error)
    refused_there (errors.OutOfSpec text) next = λ bytes e.
        let here = leads bytes e in
        here.4 ∙ turn_by asked layout version here.0 here.1 now.in_a_row None (next here.0 here.2)
    refused_there (errors.Io what) next = tt
    refused_there errors.OutOfMemory next = tt
    refused_there _ next = absurd next

    -- what a message says is refused
    pub unheard : (between : Spot) (error : Error) → TakesNext now.left between.left metadata body (Ok incoming.Message)
        → Hears asked layout version now.standing new.standing now.in_a_row metadata body (Err error)
        → TakesTurn asked layout version old new (Err error)
    unheard between (errors.OutOfSpec text) next hears = λ bytes e.
        let here = leads bytes e in
        let message = came here.0 between.left metadata body (next here.0 here.2) in
        here.4 ∙ turn_of_message asked layout version here.0 here.1 now.in_a_row (message_of metadata body message.it) message.after None
        message.first (hears_as metadata body message.it here.1 now.standing now.in_a_row None message.there here.3 hears)
    unheard between (errors.NotYetImplemented text) next hears = λ bytes e.
        let here = leads bytes e in
        let message = came here.0 between.left metadata body (next here.0 here.2) in (
          here.4 ∙ turn_of_message asked layout version here.0 here.1 now.in_a_row (message_of metadata body message.it) message.after None
              message.first (hears_as metadata body message.it here.1 now.standing now.in_a_row None message.there here.3 hears.0),
          here.5 (not_read_first here.0 (message_of metadata body message.it) message.after message.first
              (not_read_is metadata message.it message.there hears.1)),
        )
    unheard between errors.OutOfMemory next hears = tt
    unheard between _ next hears = absurd hears
