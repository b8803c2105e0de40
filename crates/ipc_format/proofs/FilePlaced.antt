-- Messages that stand one behind the other.
use Rattle.std.proofs.Common.{◌≡◌, ◌∙◌, ℕ, ◌+◌, ◌≤◌, ◌<◌, List, [], ◌∷◌, ◌++◌, length, map, take, drop, get_or, sym, ap, subst}
use Rattle.std.proofs.Math.Nat.{add-zero, add_assoc, le-add_right, le_trans}
use Rattle.std.proofs.lemmas.Grind.{flat_map-append, take_at_read}
use Rattle.std.proofs.lemmas.List.{append-nil, length-append, map-append, take-append-drop}
use Rattle.ipc_format_readers.specs.chunk_writing.grammar.WrittenFiles as files
use Rattle.ipc_format_readers.specs.chunk_writing.grammar.WrittenFiles.{block_of, place_after}
use Rattle.ipc_format_readers.specs.chunk_writing.grammar.WrittenMessages.{Written, message_bytes}
use Rattle.ipc_format_readers.specs.chunk_writing.grammar.WrittenStreams.{bytes_of_messages}
use Rattle.ipc_format_readers.proofs.chunk_lemmas.PutMessages.{FirstMessages}
use Rattle.ipc_format.specs.BlockPlacing.{blocks_of, place_behind}

-- ---- places

-- behind messages, and others behind them
pub place_both : (place : ℕ) (xs ys : List Written) → place_behind place (xs ++ ys) ≡ place_behind (place_behind place xs) ys
place_both place xs ys =
    ap (λ (bytes : List ℕ). place + length bytes) (flat_map-append message_bytes xs ys)
    ∙ ap (λ (n : ℕ). place + n) (length-append (bytes_of_messages xs) (bytes_of_messages ys))
    ∙ sym (add_assoc place (length (bytes_of_messages xs)) (length (bytes_of_messages ys)))

pub place_one : (place : ℕ) (message : Written) → place_behind place (message ∷ []) ≡ place_after place message
place_one place message = ap (λ (bytes : List ℕ). place + length bytes) (append-nil (message_bytes message))

pub place_next : (place : ℕ) (message : Written) (others : List Written)
    → place_behind place (message ∷ others) ≡ place_behind (place_after place message) others
place_next place message others =
    ap (λ (n : ℕ). place + n) (length-append (message_bytes message) (bytes_of_messages others))
    ∙ sym (add_assoc place (length (message_bytes message)) (length (bytes_of_messages others)))

-- behind one message more
pub place_more : (place : ℕ) (messages : List Written) (next : Written)
    → place_behind place (messages ++ next ∷ []) ≡ place_after (place_behind place messages) next
place_more place messages next = place_both place messages (next ∷ []) ∙ place_one (place_behind place messages) next

-- messages behind others go no place back
pub place_grows : (place : ℕ) (xs ys : List Written) → place_behind place xs ≤ place_behind place (xs ++ ys)
place_grows place xs ys =
    subst (λ (n : ℕ). place_behind place xs ≤ n) (sym (place_both place xs ys))
    (le-add_right (place_behind place xs) (length (bytes_of_messages ys)))

-- ---- blocks

pub blocks_more : (place : ℕ) (messages : List Written) (next : Written)
    → blocks_of place (messages ++ next ∷ []) ≡ blocks_of place messages ++ block_of (place_behind place messages) next ∷ []
blocks_more place [] next = ap (λ (here : ℕ). block_of here next ∷ []) (sym (add-zero place))
blocks_more place (message ∷ messages) next =
    ap (λ (blocks : List files.WrittenBlock). block_of place message ∷ blocks) (blocks_more (place_after place message) messages next)
    ∙ ap (λ (here : ℕ). block_of place message ∷ (blocks_of (place_after place message) messages ++ block_of here next ∷ []))
    (sym (place_next place message messages))

-- ---- a loop over messages

module _ {A : Type 0} (message : A → Written) where
  first_more : (all : List A) (i : ℕ) (x : A) → i < length all → get_or all i x ≡ x
      → FirstMessages message all (i + 1) ≡ FirstMessages message all i ++ message x ∷ []
  first_more all i x inside here =
      ap (map message) ((take_at_read all i x inside).1 ∙ ap (λ (y : A). take i all ++ y ∷ []) here)
      ∙ map-append message (take i all) (x ∷ [])

  -- one more has its block
  pub block_more : (place at behind : ℕ) (all : List A) (i : ℕ) (x : A) (blocks : List files.WrittenBlock) (block : files.WrittenBlock)
      → i < length all
      → get_or all i x ≡ x → blocks ≡ blocks_of place (FirstMessages message all i) → at ≡ place_behind place (FirstMessages message all i)
      → block ≡ block_of at (message x) → behind ≡ place_after at (message x)
      → (blocks ++ block ∷ [] ≡ blocks_of place (FirstMessages message all (i + 1)))
      × (behind ≡ place_behind place (FirstMessages message all (i + 1)))
  block_more place at behind all i x blocks block inside here before is next follows =
      let more = first_more all i x inside here in (
        (λ j. before j ++ (next ∙ ap (λ (it : ℕ). block_of it (message x)) is) j ∷ [])
            ∙ sym (blocks_more place (FirstMessages message all i) (message x)) ∙ ap (blocks_of place) (sym more),
        follows ∙ ap (λ (it : ℕ). place_after it (message x)) is ∙ sym (place_more place (FirstMessages message all i) (message x))
            ∙ ap (place_behind place) (sym more),
      )

  -- where the place behind one is past a limit, so is that behind all
  pub past_all : (limit place at : ℕ) (all : List A) (i : ℕ) (x : A) → i < length all → get_or all i x ≡ x
      → at ≡ place_behind place (FirstMessages message all i) → limit ≤ place_after at (message x) → limit ≤ place_behind place (map message all)
  past_all limit place at all i x inside here is past =
      let more = first_more all i x inside here in
      let all_of = sym (map-append message (take (i + 1) all) (drop (i + 1) all)) ∙ ap (map message) (take-append-drop (i + 1) all) in
      let reached = ap (λ (it : ℕ). place_after it (message x)) is ∙ sym (place_more place (FirstMessages message all i) (message x))
      ∙ ap (place_behind place) (sym more) in
      le_trans (subst (λ (n : ℕ). limit ≤ n) reached past)
      (subst (λ (messages : List Written). place_behind place (FirstMessages message all (i + 1)) ≤ place_behind place messages) all_of
      (place_grows place (FirstMessages message all (i + 1)) (map message (drop (i + 1) all))))
