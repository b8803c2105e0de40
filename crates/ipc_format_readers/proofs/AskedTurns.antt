-- What comes next of a stream of the columns in the order in which they stand, put where they were asked for, is what comes of the asked ones.
use Rattle.std.proofs.Common.{◌≡◌, ◌∙◌, ℕ, zero, suc, ◌-◌, List, ◌∷◌, length, map, drop, refl, sym, ap, subst}
use Rattle.std.specs.Prelude.{MatchResult, Option, Some, None, Result, Ok, Err}
use Rattle.std.specs.List.{All, Contains}
use Rattle.std.specs.Option.{option_map}
use Rattle.ipc_format_chunk_writing.specs.Below.{type_of}
use Rattle.ipc_format_chunk_writing.specs.BatchReads.{IsProjection, chosen_record_arrays}
use Rattle.ipc_format_chunk_writing.specs.DictionaryReads.{dictionary_array}
use Rattle.ipc_format_chunk_writing.specs.Projections.{ChoicesArePutBack, fits_map, put_back}
use Rattle.ipc_format_chunk_writing.specs.columnar_memory.Error.{IsOutOfMemory}
use Rattle.ipc_format_chunk_writing.specs.columnar_memory.declared.Error.{Error}
use Rattle.ipc_format_chunk_writing.specs.columnar_memory.declared.Error.TheVariants as errors
use Rattle.ipc_format_chunk_writing.specs.columns.Slots.{Slot}
use Rattle.ipc_format_chunk_writing.specs.columns.StoredColumns.{Column, column_type, slots}
use Rattle.ipc_format_chunk_writing.specs.flatbuffers.Reading.{◌>>=◌}
use Rattle.ipc_format_chunk_writing.specs.grammar.Columns.{Dictionary}
use Rattle.ipc_format_chunk_writing.specs.grammar.Dictionaries.{Entry, Layout}
use Rattle.ipc_format_chunk_writing.specs.grammar.Framing.{Framed, Next, nothing_whole, at_end, message_then, next_at, by_next}
use Rattle.ipc_format_chunk_writing.specs.grammar.Framing.{dictionaries_after}
use Rattle.ipc_format_chunk_writing.specs.grammar.Limits.{most_dictionaries}
use Rattle.ipc_format_chunk_writing.specs.grammar.Messages as message
use Rattle.ipc_format_chunk_writing.specs.grammar.Messages.{Header, Version}
use Rattle.ipc_format_chunk_writing.specs.grammar.Tables.{stream_entry}
use Rattle.ipc_format_readers.specs.AskedStates.{HasKeptFound, found_as_asked}
use Rattle.ipc_format_readers.specs.Asking.{AreReady, HasKept, IsReady, asked_columns, asked_of, rising_of}
use Rattle.ipc_format_readers.specs.Hearing.{HasTypes, Spot, TakesTurn, turn_at}
use Rattle.ipc_format_readers.specs.Turns.{Said, dictionary_stands, columns_come, said_by, heard}
use Rattle.ipc_format_readers.specs.Turns.{Turn, waits, ends, gives, turn_with, turn_within, next_turn}
use Rattle.ipc_format_readers.specs.declared.asking.Asked.{Asked}
use Rattle.ipc_format_readers.specs.declared.state.StreamState.{StreamState}
use Rattle.ipc_format_readers.specs.declared.state.StreamState.TheVariants as states
use Rattle.ipc_format_readers.proofs.AskedPlaces.{alike_back, alike_long, map_back}

-- ---- what is put back

abbrev said_back : List (ℕ × ℕ) → Said → Said
said_back entries (dictionary_stands dictionary) = dictionary_stands dictionary
said_back entries (columns_come columns) = columns_come (put_back entries columns)

abbrev heard_back : List (ℕ × ℕ) → ℕ × Said → ℕ × Said
heard_back entries found = (found.0, said_back entries found.1)

abbrev turn_back : List (ℕ × ℕ) → Turn → Turn
turn_back entries (waits bytes standing row) = waits bytes standing row
turn_back entries ends = ends
turn_back entries (gives columns bytes standing) = gives (put_back entries columns) bytes standing

-- ---- one thing after another

-- what is put back behind is put back before
mapped_first : {A B C D : Type 0} (o : Option A) (f : A → C) (g : A → Option B) (h : C → Option D) (k : B → D)
    → ((x : A) → h (f x) ≡ option_map k (g x)) → (option_map f o >>= h) ≡ option_map k (o >>= g)
mapped_first None f g h k same = refl
mapped_first (Some x) f g h k same = same x

-- what comes of the same thing is put back
mapped : {A B C : Type 0} (o : Option A) (f : A → Option C) (g : A → Option B) (k : B → C) → ((x : A) → f x ≡ option_map k (g x))
    → (o >>= f) ≡ option_map k (o >>= g)
mapped None f g k same = refl
mapped (Some x) f g k same = same x

module _ (law : ChoicesArePutBack) (layout : Layout) (version : Version) (asked rising : List ℕ) (entries : List (ℕ × ℕ))
    (back : put_back entries rising ≡ asked) (wanted : All (Contains asked) rising) where
  -- ---- one message

  said_is : (standing : List Dictionary) (entry : Entry) (header : Header)
      → said_by (Some asked) layout standing entry header ≡ option_map (said_back entries) (said_by (Some rising) layout standing entry header)
  said_is standing entry (message.schema table) = refl
  said_is standing entry (message.dictionary_batch table) =
      mapped (dictionary_array layout standing entry table) (λ (dictionary : Dictionary). Some (dictionary_stands dictionary))
      (λ (dictionary : Dictionary). Some (dictionary_stands dictionary)) (said_back entries) (λ (dictionary : Dictionary). refl)
  said_is standing entry (message.record_batch table) =
      ap (λ (found : Option (List (List Slot))). found >>= (λ (columns : List (List Slot)). Some (columns_come columns)))
      (law layout standing None entry table asked rising entries back wanted)
      ∙ mapped_first (chosen_record_arrays layout standing None rising entry table) (put_back entries)
      (λ (columns : List (List Slot)). Some (columns_come columns)) (λ (columns : List (List Slot)). Some (columns_come columns))
      (said_back entries) (λ (columns : List (List Slot)). refl)

  heard_is : (standing : List Dictionary) (row : ℕ) (framed : Framed)
      → heard (Some asked) layout version standing row framed
      ≡ option_map (heard_back entries) (heard (Some rising) layout version standing row framed)
  heard_is standing row framed =
      mapped (dictionaries_after row framed.header)
      (λ (in_a_row : ℕ). said_by (Some asked) layout standing (stream_entry version framed) framed.header
      >>= (λ (said : Said). Some (in_a_row, said)))
      (λ (in_a_row : ℕ). said_by (Some rising) layout standing (stream_entry version framed) framed.header
      >>= (λ (said : Said). Some (in_a_row, said))) (heard_back entries) (λ (in_a_row : ℕ).
      ap (λ (found : Option Said). found >>= (λ (said : Said). Some (in_a_row, said)))
      (said_is standing (stream_entry version framed) framed.header)
      ∙ mapped_first (said_by (Some rising) layout standing (stream_entry version framed) framed.header) (said_back entries)
      (λ (said : Said). Some (in_a_row, said)) (λ (said : Said). Some (in_a_row, said)) (heard_back entries) (λ (said : Said). refl))

  -- ---- messages up to a record batch

  -- what comes of some bytes, of either
  abbrev Same : ℕ → Type 0
  Same most = (bytes : List ℕ) (standing : List Dictionary) (row : ℕ) → turn_within (Some asked) layout version most bytes standing row
      ≡ option_map (turn_back entries) (turn_within (Some rising) layout version most bytes standing row)

  abbrev rest_of : Option (List ℕ) → ℕ → List ℕ → ℕ → List Dictionary → Option Turn
  rest_of columns most bytes now stand = turn_within columns layout version most bytes stand now

  with_is : (most : ℕ) → Same most → (bytes : List ℕ) (standing : List Dictionary) (found : ℕ × Said)
      → turn_with (rest_of (Some asked) most bytes) bytes standing (heard_back entries found)
      ≡ option_map (turn_back entries) (turn_with (rest_of (Some rising) most bytes) bytes standing found)
  with_is most same bytes standing (row, dictionary_stands dictionary) = same bytes (dictionary ∷ standing) row
  with_is most same bytes standing (row, columns_come columns) = refl

  next_is : (most : ℕ) → Same most → (bytes : List ℕ) (standing : List Dictionary) (row : ℕ) (next : Next)
      → by_next (Some (waits bytes standing row)) (Some ends) (λ framed after. heard (Some asked) layout version standing row framed
      >>= turn_with (rest_of (Some asked) most (drop after bytes)) (drop after bytes) standing) next
      ≡ option_map (turn_back entries) (by_next (Some (waits bytes standing row)) (Some ends) (λ framed after.
      heard (Some rising) layout version standing row framed
      >>= turn_with (rest_of (Some rising) most (drop after bytes)) (drop after bytes) standing) next)
  next_is most same bytes standing row nothing_whole = refl
  next_is most same bytes standing row at_end = refl
  next_is most same bytes standing row (message_then framed after) =
      ap (λ (found : Option (ℕ × Said)). found >>= turn_with (rest_of (Some asked) most (drop after bytes)) (drop after bytes) standing)
      (heard_is standing row framed)
      ∙ mapped_first (heard (Some rising) layout version standing row framed) (heard_back entries)
      (turn_with (rest_of (Some rising) most (drop after bytes)) (drop after bytes) standing)
      (turn_with (rest_of (Some asked) most (drop after bytes)) (drop after bytes) standing) (turn_back entries)
      (with_is most same (drop after bytes) standing)

  within_is : (most : ℕ) → Same most
  within_is zero bytes standing row = refl
  within_is (suc most) bytes standing row =
      mapped (next_at bytes 0)
      (by_next (Some (waits bytes standing row)) (Some ends) (λ framed after. heard (Some asked) layout version standing row framed
      >>= turn_with (rest_of (Some asked) most (drop after bytes)) (drop after bytes) standing))
      (by_next (Some (waits bytes standing row)) (Some ends) (λ framed after. heard (Some rising) layout version standing row framed
      >>= turn_with (rest_of (Some rising) most (drop after bytes)) (drop after bytes) standing))
      (turn_back entries) (next_is most (within_is most) bytes standing row)

  pub turn_is : (bytes : List ℕ) (standing : List Dictionary) (row : ℕ) → next_turn (Some asked) layout version bytes standing row
      ≡ option_map (turn_back entries) (next_turn (Some rising) layout version bytes standing row)
  unfolding next_turn
  turn_is bytes standing row = within_is (suc (most_dictionaries - row)) bytes standing row

-- ---- what a reader keeps of the columns that are asked for

pub rising_ready : (width : ℕ) (asked : Option Asked) → AreReady width asked → IsProjection width (rising_of asked)
rising_ready width None ready = tt
rising_ready width (Some asked) ready = ready.rise

-- as many columns were read as are kept
pub chunk_kept : (layout : Layout) (asked : Option Asked) (chunk : List Column) → AreReady (length layout.fields) asked
    → HasTypes (rising_of asked) layout chunk → HasKept asked chunk
chunk_kept layout None chunk ready types = tt
chunk_kept layout (Some asked) chunk ready types =
    ap (λ (width : ℕ). fits_map width asked.places.entries)
    (alike_long column_type type_of chunk layout.fields asked.rising.items ready.rise types) ∙ ready.fit

abbrev pub turned_as_asked : Option Asked → Result (Option StreamState) Error → Result (Option StreamState) Error
turned_as_asked asked (Ok found) = Ok (found_as_asked asked found)
turned_as_asked asked (Err error) = Err error

module _ (law : ChoicesArePutBack) (layout : Layout) (version : Version) (asked : Asked) (ready : IsReady (length layout.fields) asked)
    (old new : Spot) where
  abbrev entries : List (ℕ × ℕ)
  entries = asked.places.entries

  abbrev columns : Option (List ℕ)
  columns = Some (asked_columns asked)

  abbrev rising : Option (List ℕ)
  rising = Some asked.rising.items

  -- what comes of the asked columns, by what comes of the rising ones
  comes : (bytes : List ℕ) (found : Option Turn) → turn_at rising layout version old bytes ≡ found
      → turn_at columns layout version old bytes ≡ option_map (turn_back entries) found
  comes bytes found is =
      turn_is law layout version (asked_columns asked) asked.rising.items entries refl ready.wanted bytes old.standing old.in_a_row
      ∙ ap (option_map (turn_back entries)) is

  by_asked : (result : Result (Option StreamState) Error) → TakesTurn rising layout version old new result
      → TakesTurn columns layout version old new (turned_as_asked (Some asked) result)
  by_asked (Ok None) takes = λ bytes e. comes bytes (Some ends) (takes bytes e)
  by_asked (Ok (Some states.Waiting)) takes = λ bytes e.
      let here = takes bytes e in (here.0, here.1, here.2, comes bytes (Some (waits here.0 here.1 here.2)) here.3, here.4)
  by_asked (Ok (Some (states.Some chunk))) takes = (
    alike_back column_type type_of chunk layout.fields asked.rising.items entries ready.rise takes.0,
    λ bytes e.
        let here = takes.1 bytes e in (
          here.0,
          here.1,
          comes bytes (Some (gives (map slots chunk) here.0 here.1)) here.2
              ∙ ap (λ (given : List (List Slot)). Some (gives given here.0 here.1)) (sym (map_back slots chunk entries)),
          here.3,
        ),
  )
  by_asked (Err (errors.OutOfSpec text)) takes = λ bytes e. comes bytes None (takes bytes e)
  by_asked (Err (errors.NotYetImplemented text)) takes = λ bytes e.
      let here = takes bytes e in (comes bytes None here.0, here.1)
  by_asked (Err (errors.Io what)) takes = tt
  by_asked (Err errors.OutOfMemory) takes = tt
  by_asked (Err _) takes = absurd takes

takes_asked : (law : ChoicesArePutBack) (layout : Layout) (version : Version) (asked : Option Asked) → AreReady (length layout.fields) asked
    → (old new : Spot) (result : Result (Option StreamState) Error) → TakesTurn (rising_of asked) layout version old new result
    → TakesTurn (asked_of asked) layout version old new (turned_as_asked asked result)
takes_asked law layout version None ready old new (Ok None) takes = takes
takes_asked law layout version None ready old new (Ok (Some states.Waiting)) takes = takes
takes_asked law layout version None ready old new (Ok (Some (states.Some chunk))) takes = takes
takes_asked law layout version None ready old new (Err error) takes = takes
takes_asked law layout version (Some asked) ready old new result takes = by_asked law layout version asked ready old new result takes

-- ---- a turn that was taken of the columns that are kept

module _ (layout : Layout) (version : Version) (asked : Option Asked) (columns : Option (List ℕ)) (old new : Spot)
    (taken : Result (Option StreamState) Error) (ready : AreReady (length layout.fields) asked) (kept : columns ≡ rising_of asked)
    (takes : TakesTurn columns layout version old new taken) where
  takes_rising : (result : Result (Option StreamState) Error) → taken ≡ result → TakesTurn (rising_of asked) layout version old new result
  takes_rising result is =
      subst (TakesTurn (rising_of asked) layout version old new) is
      (subst (λ (them : Option (List ℕ)). TakesTurn them layout version old new taken) kept takes)

  found_kept : (found : Option StreamState) → TakesTurn (rising_of asked) layout version old new (Ok found) → HasKeptFound asked found
  found_kept None of_rising = tt
  found_kept (Some states.Waiting) of_rising = tt
  found_kept (Some (states.Some chunk)) of_rising = chunk_kept layout asked chunk ready of_rising.0

  -- its columns are as many as are kept
  pub taken_kept : (found : Option StreamState) → taken ≡ Ok found → HasKeptFound asked found
  taken_kept found is = found_kept found (takes_rising (Ok found) is)

  -- where its columns are put where they were asked for, it is a turn of those
  pub taken_put : (law : ChoicesArePutBack) (found : Option StreamState) (result : Result (Option StreamState) Error) → taken ≡ Ok found
      → MatchResult result (λ put. put ≡ found_as_asked asked found) IsOutOfMemory → TakesTurn (asked_of asked) layout version old new result
  taken_put law found (Ok put) is same =
      subst (λ (it : Option StreamState). TakesTurn (asked_of asked) layout version old new (Ok it)) (sym same)
      (takes_asked law layout version asked ready old new (Ok found) (takes_rising (Ok found) is))
  taken_put law found (Err errors.OutOfMemory) is same = tt
  taken_put law found (Err _) is same = absurd same

  pub taken_refused : (law : ChoicesArePutBack) (error : Error) → taken ≡ Err error → TakesTurn (asked_of asked) layout version old new (Err error)
  taken_refused law error is = takes_asked law layout version asked ready old new (Err error) (takes_rising (Err error) is)
