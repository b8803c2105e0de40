-- What a stream holds, by its start and the messages behind it.
use Rattle.std.proofs.Common.{◌≡◌, ◌∙◌, ℕ, zero, suc, Bool, true, false, List, [], ◌∷◌, length, map, refl, sym, ap, subst}
use Rattle.std.proofs.lemmas.Option.{slice_get-map}
use Rattle.std.specs.Option.{option_map}
use Rattle.std.specs.Prelude.{Option, Some, None, IsSome, IsSomeAnd, slice_get, ◌⊎◌}
use Rattle.tables_chunks.specs.ipc_format.Behind.{HasUnreadFrom}
use Rattle.tables_chunks.specs.ipc_format.Dictionaries.{Entry}
use Rattle.tables_chunks.specs.ipc_format.Framing.{Framed, Next, nothing_whole, at_end, message_then, by_next, next_at}
use Rattle.tables_chunks.specs.ipc_format.Framing.{dictionaries_after, first_of, messages_of, later_messages, truncated_from}
use Rattle.tables_chunks.specs.ipc_format.Messages.{Version, version_in}
use Rattle.tables_chunks.specs.ipc_format.Reading.{◌>>=◌}
use Rattle.tables_chunks.specs.ipc_format.Refusals.{compression_in, is_delta, next_after}
use Rattle.tables_chunks.specs.ipc_format.Schemas.{SchemaIn}
use Rattle.tables_chunks.specs.ipc_format.grammar.Tables.{Contents, stream, contents_of, schema_of, stream_entry}
use Rattle.tables_chunks.specs.ipc_format.streams.Starts.{Start, start_in}
use Rattle.tables_chunks.proofs.ipc_format_lemmas.Binding.{came_of, same_some}
use Rattle.tables_rows.specs.Gathered.{HasUnread}

-- ---- what it holds

abbrev pub contents_by : Start → List Framed → Contents
contents_by start later = record { schema = start.schema; entries = map (stream_entry start.version) later }

held_by : (bytes : List ℕ) (first : Framed × ℕ) (version : Version) (found : SchemaIn) (given : Option (List Framed))
    → first_of bytes ≡ Some first → later_messages (length bytes) bytes first.1 0 ≡ given → version_in first.0.metadata ≡ Some version
    → schema_of first.0 first.0.header ≡ Some found
    → contents_of stream bytes ≡ option_map (contents_by (record { version = version; schema = found })) given
unfolding contents_of messages_of
held_by bytes first version found None begins later v s = rw (begins, later) refl
held_by bytes first version found (Some more) begins later v s = rw (begins, later, v, s) refl

-- what a stream holds whose start is known
pub stream_holds : (bytes : List ℕ) (start : Start) (place : ℕ) (given : Option (List Framed)) → start_in bytes ≡ Some (start, place)
    → later_messages (length bytes) bytes place 0 ≡ given → contents_of stream bytes ≡ option_map (contents_by start) given
stream_holds bytes start place given e later =
    let a = came_of {A = Framed × ℕ} (first_of bytes) _ (start, place) e in
    let b = came_of {A = Version} (version_in a.0.0.metadata) _ (start, place) a.2 in
    let c = came_of {A = SchemaIn} (schema_of a.0.0 a.0.0.header) _ (start, place) b.2 in
    let pair : (record { version = b.0; schema = c.0 }, a.0.1) ≡ (start, place) =
    same_some {A = Start × ℕ} (record { version = b.0; schema = c.0 }, a.0.1) (start, place) c.2 in
    held_by bytes a.0 b.0 c.0 given a.1 (ap (λ (p : Start × ℕ). later_messages (length bytes) bytes p.1 0) pair ∙ later) b.1 c.1
    ∙ ap (λ (p : Start × ℕ). option_map (contents_by p.0) given) pair

-- ---- streams that end early

-- what the messages behind one are, and whether they end early
abbrev messages_behind : ℕ → List ℕ → ℕ → Framed → ℕ → Option (List Framed)
messages_behind most bytes dictionaries framed after =
    dictionaries_after dictionaries framed.header >>= (λ in_a_row. later_messages most bytes after in_a_row >>= (λ others. Some (framed ∷ others)))

abbrev cut_behind : ℕ → List ℕ → ℕ → Framed → ℕ → Option Bool
cut_behind most bytes dictionaries framed after =
    dictionaries_after dictionaries framed.header >>= (λ in_a_row. truncated_from most bytes after in_a_row)

whole_next : (most : ℕ) (bytes : List ℕ) (dictionaries : ℕ) (next : Next) (later : List Framed)
    → ((after in_a_row : ℕ) (others : List Framed) → later_messages most bytes after in_a_row ≡ Some others
    → truncated_from most bytes after in_a_row ≡ Some true → ⊥)
    → by_next None (Some []) (messages_behind most bytes dictionaries) next ≡ Some later
    → by_next (Some true) (Some false) (cut_behind most bytes dictionaries) next ≡ Some true → ⊥
whole_next most bytes dictionaries nothing_whole later others e cut = absurd cc
whole_next most bytes dictionaries at_end later others e cut = absurd cc
whole_next most bytes dictionaries (message_then framed after) later others e cut =
    let a = came_of {A = ℕ} (dictionaries_after dictionaries framed.header) _ later e in
    let b = came_of {A = List Framed} (later_messages most bytes after a.0) _ later a.2 in
    others after a.0 b.0 b.1
    (subst (λ (given : Option ℕ). (given >>= (λ in_a_row. truncated_from most bytes after in_a_row)) ≡ Some true) a.1 cut)

-- messages up to the end mark don't end early
pub whole_to_end : (most : ℕ) (bytes : List ℕ) (place dictionaries : ℕ) (later : List Framed)
    → later_messages most bytes place dictionaries ≡ Some later → truncated_from most bytes place dictionaries ≡ Some true → ⊥
whole_to_end zero bytes place dictionaries later e cut = absurd cc
whole_to_end (suc most) bytes place dictionaries later e cut =
    let a = came_of {A = Next} (next_at bytes place) (by_next None (Some []) (messages_behind most bytes dictionaries)) later e in
    whole_next most bytes dictionaries a.0 later (λ after in_a_row others. whole_to_end most bytes after in_a_row others) a.2
    (subst (λ (given : Option Next). (given >>= by_next (Some true) (Some false) (cut_behind most bytes dictionaries)) ≡ Some true) a.1 cut)

-- so where they end early, there are none up to an end mark
pub none_to_end : (bytes : List ℕ) (place : ℕ) (given : Option (List Framed)) → later_messages (length bytes) bytes place 0 ≡ given
    → truncated_from (length bytes) bytes place 0 ≡ Some true → given ≡ None
none_to_end bytes place None e cut = refl
none_to_end bytes place (Some later) e cut = absurd (whole_to_end (length bytes) bytes place 0 later e cut)

-- ---- what isn't read of a stream

-- message k of those that are found from a place on stands behind k others
abbrev StandBehind : ℕ → List ℕ → Type 0
StandBehind most bytes = (place dictionaries k : ℕ) (later : List Framed) (framed : Framed)
    → later_messages most bytes place dictionaries ≡ Some later → slice_get later k ≡ Some framed
    → (after : ℕ) × (next_after k bytes place ≡ Some (message_then framed after))

stands_in : (most : ℕ) (bytes : List ℕ) (place in_a_row k after : ℕ) (first : Framed) (others later : List Framed) (framed : Framed)
    → StandBehind most bytes → next_at bytes place ≡ Some (message_then first after) → later_messages most bytes after in_a_row ≡ Some others
    → first ∷ others ≡ later → slice_get later k ≡ Some framed
    → (behind : ℕ) × (next_after k bytes place ≡ Some (message_then framed behind))
stands_in most bytes place in_a_row zero after first others later framed again is e same there =
    let found : Some first ≡ Some framed = subst (λ (some : List Framed). slice_get some 0 ≡ Some framed) (sym same) there in
    (after, is ∙ ap (λ (f : Framed). Some (message_then f after)) (same_some {A = Framed} first framed found))
stands_in most bytes place in_a_row (suc k) after first others later framed again is e same there =
    let found : slice_get others k ≡ Some framed = subst (λ (some : List Framed). slice_get some (suc k) ≡ Some framed) (sym same) there in
    let it = again after in_a_row k others framed e found in
    (it.0, ap (λ (given : Option Next). given >>= by_next None None (λ framed after. next_after k bytes after)) is ∙ it.1)

stands_next : (most : ℕ) (bytes : List ℕ) (place dictionaries k : ℕ) (next : Next) (later : List Framed) (framed : Framed)
    → StandBehind most bytes → next_at bytes place ≡ Some next
    → by_next None (Some []) (messages_behind most bytes dictionaries) next ≡ Some later → slice_get later k ≡ Some framed
    → (after : ℕ) × (next_after k bytes place ≡ Some (message_then framed after))
stands_next most bytes place dictionaries k nothing_whole later framed again is e there = absurd cc
stands_next most bytes place dictionaries k at_end later framed again is e there =
    let none : [] ≡ later = same_some {A = List Framed} [] later e in
    let nothing : slice_get {X = Framed} [] k ≡ Some framed = subst (λ (some : List Framed). slice_get some k ≡ Some framed) (sym none) there in
    absurd cc
stands_next most bytes place dictionaries k (message_then first after) later framed again is e there =
    let a = came_of {A = ℕ} (dictionaries_after dictionaries first.header) _ later e in
    let b = came_of {A = List Framed} (later_messages most bytes after a.0) _ later a.2 in
    stands_in most bytes place a.0 k after first b.0 later framed again is b.1 (same_some {A = List Framed} (first ∷ b.0) later b.2) there

stands_behind : (most : ℕ) (bytes : List ℕ) → StandBehind most bytes
stands_behind zero bytes place dictionaries k later framed e there = absurd cc
stands_behind (suc most) bytes place dictionaries k later framed e there =
    let a = came_of {A = Next} (next_at bytes place) (by_next None (Some []) (messages_behind most bytes dictionaries)) later e in
    stands_next most bytes place dictionaries k a.0 later framed (stands_behind most bytes) a.1 a.2 there

-- a message is compressed, or adds to an earlier dictionary
abbrev IsUnread : Entry → Type 0
IsUnread entry = IsSome (compression_in (entry.metadata, entry.header)) ⊎ (is_delta entry.metadata entry.header ≡ Some true)

unread_message : (version : Version) (bytes : List ℕ) (place k : ℕ) (later : List Framed) (given : Option Framed)
    → later_messages (length bytes) bytes place 0 ≡ Some later → slice_get later k ≡ given
    → IsSomeAnd (option_map (stream_entry version) given) IsUnread → HasUnreadFrom bytes place
unread_message version bytes place k later None e there unread = absurd unread
unread_message version bytes place k later (Some framed) e there unread =
    let it = stands_behind (length bytes) bytes place 0 k later framed e there in
    (k, rw (it.1) unread)

pub unread_from : (version : Version) (bytes : List ℕ) (place : ℕ) (later : List Framed)
    → later_messages (length bytes) bytes place 0 ≡ Some later → HasUnread (map (stream_entry version) later) → HasUnreadFrom bytes place
unread_from version bytes place later e unread =
    unread_message version bytes place unread.0 later (slice_get later unread.0) e refl
    (subst (λ given. IsSomeAnd given IsUnread) (slice_get-map (stream_entry version) later unread.0) unread.1)
