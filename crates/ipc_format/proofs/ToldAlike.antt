-- Dictionaries that are told alike: the same is written after either of them.
use Rattle.std.proofs.Common.{◌≡◌, ◌∙◌, ℕ, ℤ, Bool, true, false, ◌&&◌, ◌||◌, List, [], ◌∷◌, ◌++◌, map, refl, sym, ap}
use Rattle.std.specs.Prelude.{Option, Some, None, is_none, if◌then◌else◌}
use Rattle.std.specs.BTreeMap.{BTreeMap}
use Rattle.std.specs.Ordering.{int_eq}
use Rattle.std.proofs.lemmas.List.{map-id}
use Rattle.ipc_format_readers.specs.chunk_writing.ReadArrays.{dictionary_of, standing_in}
use Rattle.ipc_format_readers.specs.chunk_writing.Standing.{StandAlike}
use Rattle.ipc_format_readers.specs.chunk_writing.Tracking.{given_of, told_by}
use Rattle.ipc_format_readers.specs.chunk_writing.columns.StoredColumns.{Column}
use Rattle.ipc_format_readers.specs.chunk_writing.grammar.AppendedFiles.{as_told}
use Rattle.ipc_format_readers.specs.chunk_writing.grammar.Columns.{Dictionary, standing_for}
use Rattle.ipc_format_readers.specs.chunk_writing.grammar.GivenDictionaries.{Given, last_under, stands_for, to_write, written_after}
use Rattle.ipc_format_readers.specs.chunk_writing.grammar.WrittenFiles.{Blocks, batch_blocks, block_of, dictionary_blocks}
use Rattle.ipc_format_readers.specs.chunk_writing.grammar.WrittenFiles.{none_replaced, place_after, with_dictionary, with_record_batch}
use Rattle.ipc_format_readers.specs.chunk_writing.grammar.WrittenMessages.{dictionary_message, record_message}
use Rattle.ipc_format_readers.specs.chunk_writing.grammar.WrittenStreams.{Batch, messages_after}
use Rattle.ipc_format.specs.Appending.{ToldAlike}

-- one more is told after either
one_more : (given : Given) (a b : List Given) → ToldAlike a b → ToldAlike (given ∷ a) (given ∷ b)
one_more given a b alike = record {
  known = λ id. known_after id (int_eq id given.id);
  same = λ other. same_after other (int_eq other.id given.id);
}
  where
    known_after : (id : ℤ) (test : Bool)
        → is_none (if test then Some given else last_under id a) ≡ is_none (if test then Some given else last_under id b)
    known_after id true = refl
    known_after id false = alike.known id

    same_after : (other : Given) (test : Bool)
        → stands_for other (if test then Some given else last_under other.id a)
        ≡ stands_for other (if test then Some given else last_under other.id b)
    same_after other true = refl
    same_after other false = alike.same other

-- either of two lists by tests that are the same
alike_either : (here there : Bool) (a b c d : List Given) → here ≡ there → ToldAlike a b → ToldAlike c d
    → ToldAlike (if here then a else c) (if there then b else d)
alike_either true true a b c d is first second = first
alike_either true false a b c d is first second = absurd cc
alike_either false true a b c d is first second = absurd cc
alike_either false false a b c d is first second = second

pub written_alike : (a b given : List Given) → ToldAlike a b → ToldAlike (written_after a given) (written_after b given)
written_alike a b [] alike = alike
written_alike a b (given ∷ others) alike =
    alike_either (stands_for given (last_under given.id a)) (stands_for given (last_under given.id b))
    (written_after a others) (written_after b others) (written_after (given ∷ a) others) (written_after (given ∷ b) others) (alike.same given)
    (written_alike a b others alike) (written_alike (given ∷ a) (given ∷ b) others (one_more given a b alike))

pub to_write_alike : (a b given : List Given) → ToldAlike a b → to_write a given ≡ to_write b given
to_write_alike a b [] alike = refl
to_write_alike a b (given ∷ others) alike =
    let same = to_write_alike a b others alike in
    let more = to_write_alike (given ∷ a) (given ∷ b) others (one_more given a b alike) in
    λ j. if alike.same given j then same j else given ∷ more j

pub once_alike : (a b given : List Given) → ToldAlike a b → none_replaced a given ≡ none_replaced b given
once_alike a b [] alike = refl
once_alike a b (given ∷ others) alike = λ j.
    is_or (alike.known given.id j) (alike.same given j)
    && once_alike (written_after a (given ∷ [])) (written_after b (given ∷ [])) others (written_alike a b (given ∷ []) alike) j
  where
    is_or : Bool → Bool → Bool
    is_or first same = first || same

-- ---- batches

pub messages_alike : (a b : List Given) (batches : List Batch) → ToldAlike a b → messages_after a batches ≡ messages_after b batches
messages_alike a b [] alike = refl
messages_alike a b (batch ∷ batches) alike = λ j.
    (map dictionary_message (to_write_alike a b batch.given alike j) ++ record_message batch.rows batch.columns ∷ [])
    ++ messages_alike (written_after a batch.given) (written_after b batch.given) batches (written_alike a b batch.given alike) j

-- the blocks of dictionaries by what comes of the place behind them
blocks_by : (place : ℕ) (given : List Given) (first second : ℕ → Blocks) → ((here : ℕ) → first here ≡ second here)
    → dictionary_blocks place given first ≡ dictionary_blocks place given second
blocks_by place [] first second same = same place
blocks_by place (given ∷ others) first second same =
    ap (with_dictionary (block_of place (dictionary_message given)))
    (blocks_by (place_after place (dictionary_message given)) others first second same)

pub blocks_alike : (place : ℕ) (a b : List Given) (batches : List Batch) → ToldAlike a b
    → batch_blocks place a batches ≡ batch_blocks place b batches
blocks_alike place a b [] alike = refl
blocks_alike place a b (batch ∷ batches) alike =
    let own = record_message batch.rows batch.columns in
    let behind = λ (told : List Given) (here : ℕ).
    with_record_batch (block_of here own) (batch_blocks (place_after here own) (written_after told batch.given) batches) in
    ap (λ (given : List Given). dictionary_blocks place given (behind a)) (to_write_alike a b batch.given alike)
    ∙ blocks_by place (to_write b batch.given) (behind a) (behind b) (λ (here : ℕ). ap (with_record_batch (block_of here own))
    (blocks_alike (place_after here own) (written_after a batch.given) (written_after b batch.given) batches (written_alike a b batch.given alike)))

-- ---- dictionaries that stand

-- whether a dictionary that stands, if there is one, says the same
abbrev stands_as : Given → Option Dictionary → Bool
stands_as given None = false
stands_as given (Some dictionary) = stands_for given (Some (as_told dictionary))

-- what is told of some values, and what stands as they, each under the same id and saying the same
module _ {A : Type 0} (told : A → Given) (dictionary : A → Dictionary) (same_id : (x : A) → (told x).id ≡ (dictionary x).id)
    (says : (given : Given) (x : A) → stands_for given (Some (told x)) ≡ stands_as given (Some (dictionary x))) where
  known_as : (id : ℤ) (xs : List A) → is_none (last_under id (map told xs)) ≡ is_none (standing_for id (map dictionary xs))
  known_as id [] = refl
  known_as id (x ∷ xs) =
      ap (λ (n : ℤ). is_none (if int_eq id n then Some (told x) else last_under id (map told xs))) (same_id x)
      ∙ by_test (int_eq id (dictionary x).id) (known_as id xs)
    where
      by_test : (test : Bool) → is_none (last_under id (map told xs)) ≡ is_none (standing_for id (map dictionary xs))
          → is_none (if test then Some (told x) else last_under id (map told xs))
          ≡ is_none (if test then Some (dictionary x) else standing_for id (map dictionary xs))
      by_test true later = refl
      by_test false later = later

  says_as : (given : Given) (id : ℤ) (xs : List A)
      → stands_for given (last_under id (map told xs)) ≡ stands_as given (standing_for id (map dictionary xs))
  says_as given id [] = refl
  says_as given id (x ∷ xs) =
      ap (λ (n : ℤ). stands_for given (if int_eq id n then Some (told x) else last_under id (map told xs))) (same_id x)
      ∙ by_test (int_eq id (dictionary x).id) (says_as given id xs)
    where
      by_test : (test : Bool) → stands_for given (last_under id (map told xs)) ≡ stands_as given (standing_for id (map dictionary xs))
          → stands_for given (if test then Some (told x) else last_under id (map told xs))
          ≡ stands_as given (if test then Some (dictionary x) else standing_for id (map dictionary xs))
      by_test true later = says given x
      by_test false later = later

pub standing_alike : (dictionaries : BTreeMap ℤ Column) (standing : List Dictionary) → StandAlike (standing_in dictionaries) standing
    → ToldAlike (told_by dictionaries.entries) (map as_told standing)
standing_alike dictionaries standing alike =
    let entries = dictionaries.entries in
    let told = λ (entry : ℤ × Column). given_of entry.0 entry.1 in
    let itself = λ (dictionary : Dictionary). dictionary in
    let found = λ (id : ℤ). alike id ∙ ap (standing_for id) (sym (map-id standing)) in
    record {
      known = λ id. known_as told dictionary_of (λ (x : ℤ × Column). refl) (λ (given : Given) (x : ℤ × Column). refl) id entries
          ∙ ap is_none (found id)
          ∙ sym (known_as as_told itself (λ (x : Dictionary). refl) (λ (given : Given) (x : Dictionary). refl) id standing);
      same = λ given. says_as told dictionary_of (λ (x : ℤ × Column). refl) (λ (given : Given) (x : ℤ × Column). refl) given given.id entries
          ∙ ap (stands_as given) (found given.id)
          ∙ sym (says_as as_told itself (λ (x : Dictionary). refl) (λ (given : Given) (x : Dictionary). refl) given given.id standing);
    }
