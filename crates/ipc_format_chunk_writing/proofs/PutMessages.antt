-- Messages, put one after another.
use Rattle.std.proofs.Common.{◌≡◌, ◌∙◌, ℕ, ◌+◌, ◌≤◌, ◌<◌, List, [], ◌∷◌, ◌++◌, length, map, take, drop, get_or, sym, ap, subst, append_assoc, true}
use Rattle.std.specs.Prelude.{Option, nat_le, nat_lt}
use Rattle.std.specs.List.{list_all}
use Rattle.std.specs.Io.KnownBytes.{Appends}
use Rattle.std.proofs.lemmas.Bool.{and_parts, leb-true}
use Rattle.std.proofs.lemmas.Grind.{flat_map-append, take_at_read}
use Rattle.std.proofs.lemmas.List.{append-nil, map-append, take-append-drop}
use Rattle.std.proofs.lemmas.List.Folds.{list_all-append}
use Rattle.columnar_memory_types.specs.Error.{IsIo}
use Rattle.ipc_format_batch_reading.specs.columnar_memory.declared.Error.{Error}
use Rattle.ipc_format_batch_reading.specs.grammar.WrittenMessages.{Written, body_limit, fits_limit, message_bytes, most_metadata}
use Rattle.ipc_format_batch_reading.specs.grammar.WrittenMessages.{prefix_size}
use Rattle.ipc_format_batch_reading.specs.grammar.WrittenStreams.{bytes_of_messages}
use Rattle.ipc_format_batch_reading.specs.streams.Devices.{AppendsBeginning, Puts}
use Rattle.ipc_format_batch_reading.proofs.Appending.{appends_both, begins_behind, begins_first, begins_same, puts_behind, puts_first}

-- ---- one message

-- the metadata of a message that fits has few bytes
pub prefix_fits : (message : Written) (metadata : List ℕ) → metadata ≡ message.metadata → fits_limit message ≡ true
    → prefix_size + length metadata ≤ most_metadata
prefix_fits message metadata same fits =
    subst (λ (bytes : List ℕ). prefix_size + length bytes ≤ most_metadata) (sym same)
    (leb-true (prefix_size + length message.metadata) most_metadata
    (and_parts (nat_lt (length message.body) body_limit) (nat_le (prefix_size + length message.metadata) most_metadata) fits).1)

-- ---- messages one after another

-- the messages of some first things
module _ {A : Type 0} (message : A → Written) where
  abbrev pub FirstMessages : List A → ℕ → List Written
  FirstMessages all i = map message (take i all)

  more_taken : (all : List A) (i : ℕ) (x : A) → i < length all → get_or all i x ≡ x → take (i + 1) all ≡ take i all ++ x ∷ []
  more_taken all i x inside here = (take_at_read all i x inside).1 ∙ ap (λ (y : A). take i all ++ y ∷ []) here

  parts : (all : List A) (i : ℕ) (x : A) → i < length all → get_or all i x ≡ x → all ≡ take i all ++ x ∷ drop (i + 1) all
  parts all i x inside here =
      sym (take-append-drop (i + 1) all) ∙ ap (λ (front : List A). front ++ drop (i + 1) all) (more_taken all i x inside here)
      ∙ append_assoc (take i all) (x ∷ []) (drop (i + 1) all)

  bytes_append : (xs ys : List A)
      → bytes_of_messages (map message (xs ++ ys)) ≡ bytes_of_messages (map message xs) ++ bytes_of_messages (map message ys)
  bytes_append xs ys = ap bytes_of_messages (map-append message xs ys) ∙ flat_map-append message_bytes (map message xs) (map message ys)

  -- each of them is short
  pub message_fits : (all : List A) (i : ℕ) (x : A) → i < length all → get_or all i x ≡ x → list_all fits_limit (map message all) ≡ true
      → fits_limit (message x) ≡ true
  message_fits all i x inside here fit =
      let split = ap (map message) (parts all i x inside here) ∙ map-append message (take i all) (x ∷ drop (i + 1) all) in
      let both = sym (list_all-append fits_limit (map message (take i all)) (map message (x ∷ drop (i + 1) all)))
      ∙ sym (ap (list_all fits_limit) split) ∙ fit in
      let second = and_parts (list_all fits_limit (map message (take i all))) (list_all fits_limit (map message (x ∷ drop (i + 1) all))) both in
      (and_parts (fits_limit (message x)) (list_all fits_limit (map message (drop (i + 1) all))) second.1).0

  -- one more is put
  pub message_more : (old between new : Option (List ℕ)) (all : List A) (i : ℕ) (x : A) → i < length all → get_or all i x ≡ x
      → Appends old between (bytes_of_messages (FirstMessages all i)) → Appends between new (message_bytes (message x))
      → Appends old new (bytes_of_messages (FirstMessages all (i + 1)))
  message_more old between new all i x inside here first next =
      let same = ap (λ (some : List A). bytes_of_messages (map message some)) (more_taken all i x inside here)
      ∙ bytes_append (take i all) (x ∷ [])
      ∙ ap (λ (bytes : List ℕ). bytes_of_messages (FirstMessages all i) ++ bytes) (append-nil (message_bytes (message x))) in
      subst (λ (bytes : List ℕ). Appends old new bytes) (sym same)
      (appends_both old between new (bytes_of_messages (FirstMessages all i)) (message_bytes (message x)) first next)

  -- one is refused
  pub message_refused : (error : Error) (old between new : Option (List ℕ)) (all : List A) (i : ℕ) (x : A) → i < length all → get_or all i x ≡ x
      → Appends old between (bytes_of_messages (FirstMessages all i)) → IsIo error × AppendsBeginning between new (message_bytes (message x))
      → IsIo error × AppendsBeginning old new (bytes_of_messages (map message all))
  message_refused error old between new all i x inside here first refused =
      let done = bytes_of_messages (FirstMessages all i) in
      let rest = bytes_of_messages (map message (drop (i + 1) all)) in
      let same = ap (λ (some : List A). bytes_of_messages (map message some)) (parts all i x inside here)
      ∙ bytes_append (take i all) (x ∷ drop (i + 1) all) in (
        refused.0,
        begins_same old new _ _ (sym same)
            (begins_behind old between new done (message_bytes (message x) ++ rest) first
            (begins_first between new (message_bytes (message x)) rest refused.1)),
      )

-- ---- messages, and another behind them

-- all of them fit, so do those before the last one, and that
pub parts_fit : (before : List Written) (last : Written) → list_all fits_limit (before ++ last ∷ []) ≡ true
    → (list_all fits_limit before ≡ true) × (fits_limit last ≡ true)
parts_fit before last fits =
    let parts = and_parts (list_all fits_limit before) (list_all fits_limit (last ∷ []))
    (sym (list_all-append fits_limit before (last ∷ [])) ∙ fits) in
    (parts.0, (and_parts (fits_limit last) true parts.1).0)

pub bytes_behind : (before : List Written) (last : Written)
    → bytes_of_messages before ++ message_bytes last ≡ bytes_of_messages (before ++ last ∷ [])
bytes_behind before last =
    ap (λ (bytes : List ℕ). bytes_of_messages before ++ bytes) (sym (append-nil (message_bytes last)))
    ∙ sym (flat_map-append message_bytes before (last ∷ []))
