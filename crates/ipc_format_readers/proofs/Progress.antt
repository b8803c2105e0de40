-- The messages of a stream, read one after another.
use Rattle.std.proofs.Common.{◌≡◌, ◌∙◌, ℕ, zero, suc, ◌+◌, ◌-◌, ◌≤◌, ◌<◌, ◌^◌, true, List, [], ◌∷◌, ◌++◌, length, map, refl, sym}
use Rattle.std.proofs.Common.{ap, subst, arith, append_assoc, inl, inr}
use Rattle.std.proofs.lemmas.Bool.{cases_lt, lt-ltb}
use Rattle.std.proofs.lemmas.List.{append-nil}
use Rattle.std.specs.Prelude.{Option, Some, None, IsSome, IfSome, IsSomeAnd, ◌⊎◌, nat_lt}
use Rattle.ipc_format_chunk_writing.specs.columns.Slots.{Slot}
use Rattle.ipc_format_chunk_writing.specs.columns.Tables.{rows_of_columns, rows_of_batches}
use Rattle.ipc_format_chunk_writing.specs.flatbuffers.Reading.{◌>>=◌, guard}
use Rattle.ipc_format_chunk_writing.specs.grammar.Columns.{Dictionary}
use Rattle.ipc_format_chunk_writing.specs.grammar.Dictionaries.{Entry, Layout}
use Rattle.ipc_format_chunk_writing.specs.grammar.Framing.{Framed, nothing_whole, message_then, next_at, later_messages, truncated_from}
use Rattle.ipc_format_chunk_writing.specs.grammar.Limits.{most_dictionaries}
use Rattle.ipc_format_chunk_writing.specs.grammar.Messages.{Version}
use Rattle.ipc_format_chunk_writing.specs.grammar.Refusals.{first_messages, next_after}
use Rattle.ipc_format_chunk_writing.specs.grammar.Tables.{batches_of, batches_behind, stream_entry}
use Rattle.ipc_format_readers.specs.Steps.{Batches, Step, cut_off, ended, dictionary_then, batch_then, step_at, behind, first_from}
use Rattle.ipc_format_readers.specs.Behind.{IsOutOfTurn, IsUnreadThere, HasUnreadFrom, HasTooManyFrom, IsUnfinishedFrom}
use Rattle.ipc_format_readers.proofs.Binding.{bind_same}
use Rattle.ipc_format_readers.proofs.Rows.{rows_more, rows_behind}
use Rattle.ipc_format_readers.proofs.Steps.{by_step, under_dictionary, batches_step, first_step, batch_at, dictionary_at, cut_at}
use Rattle.ipc_format_readers.proofs.Steps.{cut_step, after_one, cut_after_batch, cut_after_dictionary, cut_here}

-- ---- what was read so far

-- Some messages from a place on were read: their batches, the dictionaries that stand behind them, how many messages of dictionaries stand in a
-- row before the next place, and this place.
pub record MessagesRead (layout : Layout) (version : Version) (bytes : List ℕ) (first : ℕ) (batches : Batches) (standing : List Dictionary)
    (in_a_row place : ℕ) : Type 0 where
  pub count : ℕ
  pub few : count < place
  pub inside : place ≤ length bytes
  pub left : (most : ℕ) → count + most ≡ length bytes → batches_behind layout version [] (length bytes) bytes first 0
      ≡ behind batches (batches_behind layout version standing most bytes place in_a_row)
  pub whole : (most : ℕ) → count + most ≡ length bytes → truncated_from (length bytes) bytes first 0 ≡ truncated_from most bytes place in_a_row
  pub begun : (n : ℕ) → first_from layout version [] (count + n) bytes first ≡ behind batches (first_from layout version standing n bytes place)
  pub reached : (n : ℕ) → next_after (count + n) bytes first ≡ next_after n bytes place
  pub before : (n : ℕ) → n < count → next_after n bytes first ≡ Some nothing_whole → ⊥

behind_none : (rest : Option Batches) → behind [] rest ≡ rest
behind_none None = refl
behind_none (Some later) = refl

behind_behind : (before between : Batches) (rest : Option Batches) → behind before (behind between rest) ≡ behind (before ++ between) rest
behind_behind before between None = refl
behind_behind before between (Some later) = ap (λ (all : Batches). Some all) (sym (append_assoc before between later))

pub nothing_read : (layout : Layout) (version : Version) (bytes : List ℕ) (first : ℕ) → 0 < first → first ≤ length bytes
    → MessagesRead layout version bytes first [] [] 0 first
nothing_read layout version bytes first begun inside = record {
  count = 0;
  few = begun;
  inside = inside;
  left = λ most all.
      let same : most ≡ length bytes = omega arith in
      rw same (sym (behind_none (batches_behind layout version [] (length bytes) bytes first 0)));
  whole = λ most all. let same : most ≡ length bytes = omega arith in rw same refl;
  begun = λ n.
      ap (λ k. first_from layout version [] k bytes first) (omega arith) ∙ sym (behind_none (first_from layout version [] n bytes first));
  reached = λ n. ap (λ k. next_after k bytes first) (omega arith);
  before = λ n less. absurd (omega arith);
}

-- dictionaries under which each message gives the same
pub read_alike : (layout : Layout) (version : Version) (bytes : List ℕ) (first : ℕ) (batches : Batches) (old new : List Dictionary)
    (in_a_row place : ℕ) → ((entries : List Entry) → batches_of layout old entries ≡ batches_of layout new entries)
    → MessagesRead layout version bytes first batches old in_a_row place → MessagesRead layout version bytes first batches new in_a_row place
read_alike layout version bytes first batches old new in_a_row place alike read = record {
  count = read.count;
  few = read.few;
  inside = read.inside;
  left = λ most all. read.left most all ∙ ap (behind batches)
      (bind_same (later_messages most bytes place in_a_row) _ _ (λ (later : List Framed). alike (map (stream_entry version) later)));
  whole = read.whole;
  begun = λ n. read.begun n ∙ ap (behind batches)
      (bind_same (first_messages n bytes place) _ _ (λ (later : List Framed). alike (map (stream_entry version) later)));
  reached = read.reached;
  before = read.before;
}

-- ---- one message more

-- one step of the definition
step_left : (layout : Layout) (version : Version) (bytes : List ℕ) (first : ℕ) (batches : Batches) (standing : List Dictionary) (in_a_row place : ℕ)
    (read : MessagesRead layout version bytes first batches standing in_a_row place) (most : ℕ) (step : Option Step)
    → step_at layout version standing bytes place ≡ step → read.count + suc most ≡ length bytes
    → batches_behind layout version [] (length bytes) bytes first 0
    ≡ behind batches (step >>= by_step (Some []) (under_dictionary layout version standing most bytes in_a_row)
    (λ after. batches_behind layout version standing most bytes after 0))
step_left layout version bytes first batches standing in_a_row place read most step e all =
    read.left (suc most) all
    ∙ ap (behind batches) (batches_step layout version standing most bytes place in_a_row) ∙ rw e refl

-- one step of the first messages
first_left : (layout : Layout) (version : Version) (bytes : List ℕ) (first : ℕ) (batches : Batches) (standing : List Dictionary) (in_a_row place : ℕ)
    (read : MessagesRead layout version bytes first batches standing in_a_row place) (n : ℕ) (step : Option Step)
    → step_at layout version standing bytes place ≡ step
    → first_from layout version [] (read.count + suc n) bytes first
    ≡ behind batches (step >>= by_step None (λ dictionary after. first_from layout version (dictionary ∷ standing) n bytes after)
    (λ after. first_from layout version standing n bytes after))
first_left layout version bytes first batches standing in_a_row place read n step e =
    read.begun (suc n) ∙ ap (behind batches) (first_step layout version standing n bytes place) ∙ rw e refl

-- what was not whole before some messages and one more
before_more : (bytes : List ℕ) (first place after count : ℕ) (framed : Framed) → next_at bytes place ≡ Some (message_then framed after)
    → ((n : ℕ) → n < count → next_after n bytes first ≡ Some nothing_whole → ⊥)
    → ((n : ℕ) → next_after (count + n) bytes first ≡ next_after n bytes place)
    → (n : ℕ) → (n < count) ⊎ (count ≤ n) → n < count + 1 → next_after n bytes first ≡ Some nothing_whole → ⊥
before_more bytes first place after count framed there before reached n (inl less) h ends = before n less ends
before_more bytes first place after count framed there before reached n (inr last) h ends =
    let here : n ≡ count + 0 = omega arith in
    let cut : next_at bytes place ≡ Some nothing_whole = sym (reached 0) ∙ sym (ap (λ k. next_after k bytes first) here) ∙ ends in
    let both : Some (message_then framed after) ≡ Some nothing_whole = sym there ∙ cut in
    absurd cc

pub batch_read : (layout : Layout) (version : Version) (bytes : List ℕ) (first : ℕ) (batches more : Batches) (standing : List Dictionary)
    (in_a_row place after : ℕ) (columns : List (List Slot)) → MessagesRead layout version bytes first batches standing in_a_row place
    → step_at layout version standing bytes place ≡ Some (batch_then columns after) → place < after → after ≤ length bytes
    → more ≡ batches ++ columns ∷ [] → MessagesRead layout version bytes first more standing 0 after
batch_read layout version bytes first batches more standing in_a_row place after columns read e on inside pushed =
    let it = batch_at layout version standing bytes place after columns e in
    record {
      count = read.count + 1;
      few = omega (arith, read.few);
      inside = inside;
      left = λ most all.
          step_left layout version bytes first batches standing in_a_row place read most (Some (batch_then columns after)) e (omega arith)
          ∙ behind_behind batches (columns ∷ []) (batches_behind layout version standing most bytes after 0)
          ∙ ap (λ xs. behind xs (batches_behind layout version standing most bytes after 0)) (sym pushed);
      whole = λ most all. read.whole (suc most) (omega arith) ∙ cut_after_batch most bytes place after in_a_row it;
      begun = λ n.
          ap (λ k. first_from layout version [] k bytes first) (omega arith)
          ∙ first_left layout version bytes first batches standing in_a_row place read n (Some (batch_then columns after)) e
          ∙ behind_behind batches (columns ∷ []) (first_from layout version standing n bytes after)
          ∙ ap (λ xs. behind xs (first_from layout version standing n bytes after)) (sym pushed);
      reached = λ n.
          ap (λ k. next_after k bytes first) (omega arith) ∙ read.reached (suc n) ∙ after_one n bytes place after it.framed it.there;
      before = λ n less ends.
          before_more bytes first place after read.count it.framed it.there read.before read.reached n (cases_lt n read.count) less ends;
    }

few_enough : (in_a_row : ℕ) (given : Option Batches) → in_a_row < most_dictionaries
    → (guard (nat_lt in_a_row most_dictionaries) >>= (λ _. given)) ≡ given
few_enough in_a_row given few = rw (lt-ltb in_a_row most_dictionaries few) refl

pub dictionary_read : (layout : Layout) (version : Version) (bytes : List ℕ) (first : ℕ) (batches : Batches) (standing : List Dictionary)
    (in_a_row place after : ℕ) (dictionary : Dictionary) → MessagesRead layout version bytes first batches standing in_a_row place
    → step_at layout version standing bytes place ≡ Some (dictionary_then dictionary after) → place < after → after ≤ length bytes
    → in_a_row < most_dictionaries → MessagesRead layout version bytes first batches (dictionary ∷ standing) (in_a_row + 1) after
dictionary_read layout version bytes first batches standing in_a_row place after dictionary read e on inside few =
    let it = dictionary_at layout version standing bytes place after dictionary e in
    record {
      count = read.count + 1;
      few = omega (arith, read.few);
      inside = inside;
      left = λ most all.
          step_left layout version bytes first batches standing in_a_row place read most (Some (dictionary_then dictionary after)) e (omega arith)
          ∙ ap (behind batches) (few_enough in_a_row
          (batches_behind layout version (dictionary ∷ standing) most bytes after (in_a_row + 1)) few);
      whole = λ most all. read.whole (suc most) (omega arith) ∙ cut_after_dictionary most bytes place after in_a_row it few;
      begun = λ n.
          ap (λ k. first_from layout version [] k bytes first) (omega arith)
          ∙ first_left layout version bytes first batches standing in_a_row place read n (Some (dictionary_then dictionary after)) e;
      reached = λ n.
          ap (λ k. next_after k bytes first) (omega arith) ∙ read.reached (suc n) ∙ after_one n bytes place after it.framed it.there;
      before = λ n less ends.
          before_more bytes first place after read.count it.framed it.there read.before read.reached n (cases_lt n read.count) less ends;
    }

-- ---- how it ends

pub read_ended : (layout : Layout) (version : Version) (bytes : List ℕ) (first : ℕ) (batches : Batches) (standing : List Dictionary)
    (in_a_row place : ℕ) → MessagesRead layout version bytes first batches standing in_a_row place
    → step_at layout version standing bytes place ≡ Some ended
    → batches_behind layout version [] (length bytes) bytes first 0 ≡ Some batches
read_ended layout version bytes first batches standing in_a_row place read e =
    let all : read.count + suc (length bytes - read.count - 1) ≡ length bytes = omega (arith, read.few, read.inside) in
    step_left layout version bytes first batches standing in_a_row place read (length bytes - read.count - 1) (Some ended) e all
    ∙ ap (λ (xs : Batches). Some xs) (append-nil batches)

pub read_refused : (layout : Layout) (version : Version) (bytes : List ℕ) (first : ℕ) (batches : Batches) (standing : List Dictionary)
    (in_a_row place : ℕ) → MessagesRead layout version bytes first batches standing in_a_row place
    → step_at layout version standing bytes place ≡ None
    → batches_behind layout version [] (length bytes) bytes first 0 ≡ None
read_refused layout version bytes first batches standing in_a_row place read e =
    let all : read.count + suc (length bytes - read.count - 1) ≡ length bytes = omega (arith, read.few, read.inside) in
    step_left layout version bytes first batches standing in_a_row place read (length bytes - read.count - 1) None e all

pub read_cut : (layout : Layout) (version : Version) (bytes : List ℕ) (first : ℕ) (batches : Batches) (standing : List Dictionary)
    (in_a_row place : ℕ) → MessagesRead layout version bytes first batches standing in_a_row place
    → step_at layout version standing bytes place ≡ Some cut_off
    → (batches_behind layout version [] (length bytes) bytes first 0 ≡ None) × (truncated_from (length bytes) bytes first 0 ≡ Some true)
read_cut layout version bytes first batches standing in_a_row place read e =
    let most = length bytes - read.count - 1 in
    let all : read.count + suc most ≡ length bytes = omega (arith, read.few, read.inside) in (
      step_left layout version bytes first batches standing in_a_row place read most (Some cut_off) e all,
      read.whole (suc most) all ∙ cut_here most bytes place in_a_row (cut_at layout version standing bytes place e),
    )

-- ---- a message that may not stand there

later_none : (most : ℕ) (bytes : List ℕ) (place in_a_row : ℕ) → IsOutOfTurn bytes place in_a_row
    → later_messages (suc most) bytes place in_a_row ≡ None
later_none most bytes place in_a_row it = rw it.2 (ap (λ (counted : Option ℕ). counted >>= (λ now. later_messages most bytes it.1 now
    >>= (λ others. Some (it.0 ∷ others)))) it.3)

cut_none : (most : ℕ) (bytes : List ℕ) (place in_a_row : ℕ) → IsOutOfTurn bytes place in_a_row
    → truncated_from (suc most) bytes place in_a_row ≡ None
cut_none most bytes place in_a_row it =
    rw it.2 (ap (λ (counted : Option ℕ). counted >>= (λ now. truncated_from most bytes it.1 now)) it.3)

pub turn_refused : (layout : Layout) (version : Version) (bytes : List ℕ) (first : ℕ) (batches : Batches) (standing : List Dictionary)
    (in_a_row place : ℕ) → MessagesRead layout version bytes first batches standing in_a_row place → IsOutOfTurn bytes place in_a_row
    → (batches_behind layout version [] (length bytes) bytes first 0 ≡ None) × (truncated_from (length bytes) bytes first 0 ≡ None)
turn_refused layout version bytes first batches standing in_a_row place read it =
    let most = length bytes - read.count - 1 in
    let all : read.count + suc most ≡ length bytes = omega (arith, read.few, read.inside) in (
      read.left (suc most) all ∙ ap (λ (later : Option (List Framed)). behind batches (later >>= (λ more.
          batches_of layout standing (map (stream_entry version) more)))) (later_none most bytes place in_a_row it),
      read.whole (suc most) all ∙ cut_none most bytes place in_a_row it,
    )

-- ---- too many rows

pub read_many : (layout : Layout) (version : Version) (bytes : List ℕ) (first : ℕ) (batches : Batches) (standing : List Dictionary)
    (in_a_row place after : ℕ) (columns : List (List Slot)) → MessagesRead layout version bytes first batches standing in_a_row place
    → step_at layout version standing bytes place ≡ Some (batch_then columns after)
    → 2 ^ 64 ≤ length (rows_of_batches batches) + rows_of_columns columns
    → IfSome (batches_behind layout version [] (length bytes) bytes first 0) (λ all. 2 ^ 64 ≤ length (rows_of_batches all))
    × HasTooManyFrom layout version bytes first
read_many layout version bytes first batches standing in_a_row place after columns read e many =
    let most = length bytes - read.count - 1 in
    let all : read.count + suc most ≡ length bytes = omega (arith, read.few, read.inside) in
    let more = batches ++ columns ∷ [] in
    let rows : 2 ^ 64 ≤ length (rows_of_batches more) = omega (arith, rows_more batches columns, many) in
    let whole : batches_behind layout version [] (length bytes) bytes first 0
    ≡ behind more (batches_behind layout version standing most bytes after 0) =
    step_left layout version bytes first batches standing in_a_row place read most (Some (batch_then columns after)) e all
    ∙ behind_behind batches (columns ∷ []) (batches_behind layout version standing most bytes after 0) in
    let begun : first_from layout version [] (read.count + 1) bytes first ≡ Some more =
    first_left layout version bytes first batches standing in_a_row place read 0 (Some (batch_then columns after)) e in (
      subst (λ given. IfSome given (λ all. 2 ^ 64 ≤ length (rows_of_batches all))) (sym whole)
          (rows_behind (2 ^ 64) more (batches_behind layout version standing most bytes after 0) rows),
      (read.count + 1, subst (λ given. IsSomeAnd given (λ all. 2 ^ 64 ≤ length (rows_of_batches all))) (sym begun) rows),
    )

-- ---- a message that is refused

-- behind messages that were read nothing is truncated where what stands there is refused
not_ended : (layout : Layout) (version : Version) (bytes : List ℕ) (first : ℕ) (batches : Batches) (standing : List Dictionary) (in_a_row place : ℕ)
    (read : MessagesRead layout version bytes first batches standing in_a_row place) (n : ℕ) → step_at layout version standing bytes place ≡ None
    → next_after n bytes place ≡ Some nothing_whole → IsSome (first_from layout version [] (read.count + n) bytes first) → ⊥
not_ended layout version bytes first batches standing in_a_row place read zero e ends some =
    let a : None ≡ Some cut_off = sym e ∙ cut_step layout version standing bytes place ends in absurd cc
not_ended layout version bytes first batches standing in_a_row place read (suc n) e ends some =
    let none : first_from layout version [] (read.count + suc n) bytes first ≡ None =
    first_left layout version bytes first batches standing in_a_row place read n None e in
    let nothing : Option Batches = None in
    let holds : IsSome nothing = subst IsSome none some in absurd cc

not_before : (layout : Layout) (version : Version) (bytes : List ℕ) (first : ℕ) (batches : Batches) (standing : List Dictionary) (in_a_row place : ℕ)
    (read : MessagesRead layout version bytes first batches standing in_a_row place) (n : ℕ) → step_at layout version standing bytes place ≡ None
    → (n < read.count) ⊎ (read.count ≤ n) → next_after n bytes first ≡ Some nothing_whole
    → IsSome (first_from layout version [] n bytes first) → ⊥
not_before layout version bytes first batches standing in_a_row place read n e (inl less) ends some = read.before n less ends
not_before layout version bytes first batches standing in_a_row place read n e (inr more) ends some =
    let further = n - read.count in
    let same : n ≡ read.count + further = omega arith in
    not_ended layout version bytes first batches standing in_a_row place read further e
    (sym (read.reached further) ∙ ap (λ k. next_after k bytes first) (sym same) ∙ ends)
    (subst (λ k. IsSome (first_from layout version [] k bytes first)) same some)

pub not_unfinished : (layout : Layout) (version : Version) (bytes : List ℕ) (first : ℕ) (batches : Batches) (standing : List Dictionary)
    (in_a_row place : ℕ) → MessagesRead layout version bytes first batches standing in_a_row place
    → step_at layout version standing bytes place ≡ None → IsUnfinishedFrom layout version bytes first → ⊥
not_unfinished layout version bytes first batches standing in_a_row place read e found =
    not_before layout version bytes first batches standing in_a_row place read found.0 e (cases_lt found.0 read.count) found.1 found.2

-- what stands at a place and is not read stands behind the messages before it
pub unread_from : (layout : Layout) (version : Version) (bytes : List ℕ) (first : ℕ) (batches : Batches) (standing : List Dictionary)
    (in_a_row place : ℕ) → MessagesRead layout version bytes first batches standing in_a_row place → IsUnreadThere (next_at bytes place)
    → HasUnreadFrom bytes first
unread_from layout version bytes first batches standing in_a_row place read there =
    (read.count + 0, subst IsUnreadThere (sym (read.reached 0)) there)
