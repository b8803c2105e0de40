-- The messages of a stream, found one after another.
use Rattle.std.proofs.Common.{◌≡◌, ◌∙◌, ℕ, suc, ◌+◌, ◌-◌, ◌≤◌, ◌<◌, true, List, [], ◌∷◌, ◌++◌, length, map, refl, sym, ap, arith, append-nil}
use Rattle.std.proofs.Common.{append_assoc}
use Rattle.std.specs.Option.{option_map}
use Rattle.std.specs.Prelude.{Option, Some, None}
use Rattle.tables_chunks.specs.ipc_format.Dictionaries.{Entry}
use Rattle.tables_chunks.specs.ipc_format.Framing.{Framed, nothing_whole, at_end, message_then, next_at}
use Rattle.tables_chunks.specs.ipc_format.Framing.{dictionaries_after, later_messages, truncated_from}
use Rattle.tables_chunks.specs.ipc_format.Messages.{Version}
use Rattle.tables_chunks.specs.ipc_format.Reading.{◌>>=◌}
use Rattle.tables_chunks.specs.ipc_format.grammar.Tables.{stream_entry}

-- messages behind those that are there, where there are any
abbrev pub behind : List Entry → Option (List Entry) → Option (List Entry)
behind before rest = option_map (λ others. before ++ others) rest

-- the messages from a place on, at most so many
abbrev pub entries_from : Version → ℕ → List ℕ → ℕ → ℕ → Option (List Entry)
entries_from version most bytes place in_a_row = option_map (map (stream_entry version)) (later_messages most bytes place in_a_row)

-- Some messages from a place on were found. So many messages of dictionaries stand in a row before the next place.
pub record EntriesFound (version : Version) (bytes : List ℕ) (first : ℕ) (entries : List Entry) (in_a_row place : ℕ) : Type 0 where
  pub count : ℕ
  pub few : count < place
  pub inside : place ≤ length bytes
  pub left : (most : ℕ) → count + most ≡ length bytes
      → entries_from version (length bytes) bytes first 0 ≡ behind entries (entries_from version most bytes place in_a_row)
  pub whole : (most : ℕ) → count + most ≡ length bytes → truncated_from (length bytes) bytes first 0 ≡ truncated_from most bytes place in_a_row

behind_none : (rest : Option (List Entry)) → behind [] rest ≡ rest
behind_none None = refl
behind_none (Some later) = refl

behind_behind : (before between : List Entry) (rest : Option (List Entry)) → behind before (behind between rest) ≡ behind (before ++ between) rest
behind_behind before between None = refl
behind_behind before between (Some later) = ap Some (sym (append_assoc before between later))

pub nothing_found : (version : Version) (bytes : List ℕ) (first : ℕ) → 0 < first → first ≤ length bytes
    → EntriesFound version bytes first [] 0 first
nothing_found version bytes first begun inside = record {
  count = 0;
  few = begun;
  inside = inside;
  left = λ most all.
      let same : most ≡ length bytes = omega arith in
      rw same (sym (behind_none (entries_from version (length bytes) bytes first 0)));
  whole = λ most all. let same : most ≡ length bytes = omega arith in rw same refl;
}

-- ---- one message more

before_others : (version : Version) (framed : Framed) (others : Option (List Framed))
    → option_map (map (stream_entry version)) (others >>= (λ more. Some (framed ∷ more)))
    ≡ behind (stream_entry version framed ∷ []) (option_map (map (stream_entry version)) others)
before_others version framed None = refl
before_others version framed (Some more) = refl

-- a message and those behind it, by how many dictionaries then stand in a row
abbrev messages_by : ℕ → List ℕ → Framed → ℕ → Option ℕ → Option (List Framed)
messages_by most bytes framed after counted =
    counted >>= (λ now. later_messages most bytes after now >>= (λ others. Some (framed ∷ others)))

one_more : (version : Version) (most : ℕ) (bytes : List ℕ) (place in_a_row after now : ℕ) (framed : Framed)
    → next_at bytes place ≡ Some (message_then framed after) → dictionaries_after in_a_row framed.header ≡ Some now
    → entries_from version (suc most) bytes place in_a_row
    ≡ behind (stream_entry version framed ∷ []) (entries_from version most bytes after now)
one_more version most bytes place in_a_row after now framed there counts =
    rw there (ap (λ (counted : Option ℕ). option_map (map (stream_entry version)) (messages_by most bytes framed after counted)) counts
    ∙ before_others version framed (later_messages most bytes after now))

whole_more : (most : ℕ) (bytes : List ℕ) (place in_a_row after now : ℕ) (framed : Framed)
    → next_at bytes place ≡ Some (message_then framed after) → dictionaries_after in_a_row framed.header ≡ Some now
    → truncated_from (suc most) bytes place in_a_row ≡ truncated_from most bytes after now
whole_more most bytes place in_a_row after now framed there counts =
    rw there (ap (λ (counted : Option ℕ). counted >>= (λ row. truncated_from most bytes after row)) counts)

pub one_found : (version : Version) (bytes : List ℕ) (first : ℕ) (entries more : List Entry) (in_a_row place after now : ℕ) (framed : Framed)
    → next_at bytes place ≡ Some (message_then framed after) → dictionaries_after in_a_row framed.header ≡ Some now → place < after
    → after ≤ length bytes → more ≡ entries ++ stream_entry version framed ∷ [] → EntriesFound version bytes first entries in_a_row place
    → EntriesFound version bytes first more now after
one_found version bytes first entries more in_a_row place after now framed there counts on inside grown found = record {
  count = found.count + 1;
  few = omega (arith, found.few);
  inside = inside;
  left = λ most all.
      found.left (suc most) (omega arith)
      ∙ ap (behind entries) (one_more version most bytes place in_a_row after now framed there counts)
      ∙ behind_behind entries (stream_entry version framed ∷ []) (entries_from version most bytes after now)
      ∙ ap (λ (xs : List Entry). behind xs (entries_from version most bytes after now)) (sym grown);
  whole = λ most all. found.whole (suc most) (omega arith) ∙ whole_more most bytes place in_a_row after now framed there counts;
}

-- ---- how it ends

-- so many messages are still looked for
abbrev left_to_find : List ℕ → ℕ → ℕ
left_to_find bytes count = length bytes - count - 1

some_left : (version : Version) (bytes : List ℕ) (first : ℕ) (entries : List Entry) (in_a_row place : ℕ)
    (found : EntriesFound version bytes first entries in_a_row place) → found.count + suc (left_to_find bytes found.count) ≡ length bytes
some_left version bytes first entries in_a_row place found = omega (arith, found.few, found.inside)

pub all_found : (version : Version) (bytes : List ℕ) (first : ℕ) (entries : List Entry) (in_a_row place : ℕ)
    → next_at bytes place ≡ Some at_end → EntriesFound version bytes first entries in_a_row place
    → entries_from version (length bytes) bytes first 0 ≡ Some entries
all_found version bytes first entries in_a_row place there found =
    let most = left_to_find bytes found.count in
    let here : entries_from version (suc most) bytes place in_a_row ≡ Some [] = rw there refl in
    found.left (suc most) (some_left version bytes first entries in_a_row place found) ∙ ap (behind entries) here ∙ ap Some (append-nil entries)

pub found_cut : (version : Version) (bytes : List ℕ) (first : ℕ) (entries : List Entry) (in_a_row place : ℕ)
    → next_at bytes place ≡ Some nothing_whole → EntriesFound version bytes first entries in_a_row place
    → truncated_from (length bytes) bytes first 0 ≡ Some true
found_cut version bytes first entries in_a_row place there found =
    let most = left_to_find bytes found.count in
    let here : truncated_from (suc most) bytes place in_a_row ≡ Some true = rw there refl in
    found.whole (suc most) (some_left version bytes first entries in_a_row place found) ∙ here

not_mapped : (version : Version) (given : Option (List Framed)) → option_map (map (stream_entry version)) given ≡ None → given ≡ None
not_mapped version None none = refl
not_mapped version (Some messages) none = absurd cc

-- where the next message isn't there, there are none, and nothing is truncated
none_found : (version : Version) (bytes : List ℕ) (first : ℕ) (entries : List Entry) (in_a_row place : ℕ)
    (found : EntriesFound version bytes first entries in_a_row place)
    → entries_from version (suc (left_to_find bytes found.count)) bytes place in_a_row ≡ None
    → truncated_from (suc (left_to_find bytes found.count)) bytes place in_a_row ≡ None
    → (later_messages (length bytes) bytes first 0 ≡ None) × (truncated_from (length bytes) bytes first 0 ≡ None)
none_found version bytes first entries in_a_row place found none not_cut =
    let all = some_left version bytes first entries in_a_row place found in
    let most = suc (left_to_find bytes found.count) in (
      not_mapped version (later_messages (length bytes) bytes first 0) (found.left most all ∙ ap (behind entries) none),
      found.whole most all ∙ not_cut,
    )

pub found_broken : (version : Version) (bytes : List ℕ) (first : ℕ) (entries : List Entry) (in_a_row place : ℕ)
    → next_at bytes place ≡ None → EntriesFound version bytes first entries in_a_row place
    → (later_messages (length bytes) bytes first 0 ≡ None) × (truncated_from (length bytes) bytes first 0 ≡ None)
found_broken version bytes first entries in_a_row place there found =
    none_found version bytes first entries in_a_row place found (rw there refl) (rw there refl)

pub found_out_of_turn : (version : Version) (bytes : List ℕ) (first : ℕ) (entries : List Entry) (in_a_row place after : ℕ) (framed : Framed)
    → next_at bytes place ≡ Some (message_then framed after) → dictionaries_after in_a_row framed.header ≡ None
    → EntriesFound version bytes first entries in_a_row place
    → (later_messages (length bytes) bytes first 0 ≡ None) × (truncated_from (length bytes) bytes first 0 ≡ None)
found_out_of_turn version bytes first entries in_a_row place after framed there counts found =
    let most = left_to_find bytes found.count in
    let none : entries_from version (suc most) bytes place in_a_row ≡ None =
    rw there (ap (λ (counted : Option ℕ). option_map (map (stream_entry version)) (messages_by most bytes framed after counted)) counts) in
    let not_cut : truncated_from (suc most) bytes place in_a_row ≡ None =
    rw there (ap (λ (counted : Option ℕ). counted >>= (λ row. truncated_from most bytes after row)) counts) in
    none_found version bytes first entries in_a_row place found none not_cut
