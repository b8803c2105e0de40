-- The dictionaries of a batch, told one after another.
use Rattle.std.proofs.Common.{◌≡◌, ◌∙◌, Bool, true, false, not, ◌&&◌, ◌||◌, List, [], ◌∷◌, ◌++◌, map, refl, sym, ap, subst, inl, inr}
use Rattle.std.specs.Prelude.{ℤ, ◌⊎◌, Option, Some, None, option_map, Result, Ok, Err, if◌then◌else◌}
use Rattle.std.specs.List.{list_all, list_any}
use Rattle.std.specs.Map.{lookup}
use Rattle.std.specs.Ordering.{int_eq}
use Rattle.std.specs.Cmp.{signed_Decides}
use Rattle.std.proofs.lemmas.Bool.{and_from, and_left, and_right, false≢true, false_from_ne_true, not-false, not-true}
use Rattle.std.proofs.lemmas.List.{append-nil, append_assoc, map-append}
use Rattle.std.proofs.lemmas.List.Folds.{list_all-append, list_any-append}
use Rattle.columnar_memory_types.specs.Error.{IsOutOfMemory}
use Rattle.ipc_format_batch_reading.specs.columnar_memory.declared.Error.{Error}
use Rattle.ipc_format_batch_reading.specs.columnar_memory.declared.Error.TheVariants as errors
use Rattle.ipc_format_batch_reading.specs.columns.StoredColumns.{Column}
use Rattle.ipc_format_batch_reading.specs.grammar.GivenDictionaries.{Given, last_under, says_same, stands_for, to_write, written_after}
use Rattle.ipc_format_batch_reading.specs.grammar.Tables.{Form, stream, file}
use Rattle.ipc_format_batch_reading.specs.grammar.WriterRuns.{may_tell}
use Rattle.ipc_format_chunk_writing.specs.Telling.{IsToldUntil, ToldUntil, TellsNext, TellsOne, TellsOneAfter, Sees}
use Rattle.ipc_format_chunk_writing.specs.Telling.{IsToldAll, IsNotTold, TellsAll, TellsAllAfter, all_stand, has_id, is_seen}
use Rattle.ipc_format_chunk_writing.specs.Tracking.{InsertsAfter, Inserts, IsTold, Tells, form_by, given_of, may_put, told_by}
use Rattle.ipc_format_chunk_writing.proofs.Told.{by_answer, may_new, may_not_differ, may_not_put, may_put_in, may_same, new_stands, none_written, one_new, one_same}
use Rattle.ipc_format_chunk_writing.proofs.Told.{one_written, stand_more, still_stand, write_more, after_more, after_one}

-- ---- maps and what they tell

-- the last dictionary under an id, as a map has it
pub told_under : (id : ℤ) (entries : List (ℤ × Column)) → last_under id (told_by entries) ≡ option_map (given_of id) (lookup (int_eq id) entries)
told_under id [] = refl
told_under id (first ∷ entries) = by_answer (λ (answer : Bool). int_eq id first.0 ≡ answer
    → (if answer then Some (given_of first.0 first.1) else last_under id (told_by entries))
    ≡ option_map (given_of id) (if answer then Some first.1 else lookup (int_eq id) entries)) (int_eq id first.0)
    (λ here is. ap (λ (n : ℤ). Some (given_of n first.1)) (sym ((signed_Decides id first.0).0 is)))
    (λ other is. told_under id entries) refl

-- what a map tells with one entry more, or another in its place
pub tells_more : (old new : List (ℤ × Column)) (id : ℤ) (values : Column) (told : List Given)
    → ((q : ℤ) → lookup (int_eq q) new ≡ (if int_eq id q then Some values else lookup (int_eq q) old))
    → Tells old told → Tells new (given_of id values ∷ told)
tells_more old new id values told updates tells q =
    told_under q new ∙ ap (option_map (given_of q)) (updates q)
    ∙ by_answer (λ (answer : Bool). int_eq id q ≡ answer
    → option_map (given_of q) (if answer then Some values else lookup (int_eq q) old) ≡ last_under q (given_of id values ∷ told)) (int_eq id q)
    (λ here is. let ids : id ≡ q = (signed_Decides id q).0 is in
    ap (λ (n : ℤ). Some (given_of n values)) (sym ids)
    ∙ sym (ap (λ (b : Bool). if b then Some (given_of id values) else last_under q told) ((signed_Decides q id).1 (sym ids))))
    (λ other is. let apart : int_eq q id ≡ false =
    false_from_ne_true (int_eq q id) (λ k. false≢true (sym is ∙ (signed_Decides id q).1 (sym ((signed_Decides q id).0 k)))) in
    sym (told_under q old) ∙ tells q ∙ sym (ap (λ (b : Bool). if b then Some (given_of id values) else last_under q told) apart)) refl

-- ---- so far

form_put : (cannot_replace : Bool) (told : List Given) (next : Given)
    → may_put cannot_replace told next ≡ may_put_in (form_by cannot_replace) told next
form_put true told next = refl
form_put false told next = refl

-- nothing is told yet
pub none_told : (old : List (ℤ × Column) × Bool) (seen : ℤ → Bool) (sent : List Given) → ((id : ℤ) → seen id ≡ false) → sent ≡ []
    → ToldUntil old old seen [] sent
none_told old seen sent unseen none told tells = record {
  may = by_answer (λ (answer : Bool). may_tell (form_by answer) told [] ≡ true) old.1 (λ is. refl) (λ is. refl);
  stand = refl;
  written = none;
  tells = tells;
  kind = refl;
  ids = unseen;
}

seen_more : (old new : ℤ → Bool) (given : List Given) (next : Given) → ((id : ℤ) → old id ≡ has_id given id) → Sees old new next.id
    → (id : ℤ) → new id ≡ has_id (given ++ next ∷ []) id
seen_more old new given next before sees id =
    sees id ∙ ap (λ (b : Bool). b || int_eq id next.id) (before id)
    ∙ ap (λ (b : Bool). has_id given id || b) (by_answer (λ (b : Bool). b ≡ (b || false)) (int_eq id next.id) (λ is. refl) (λ is. refl))
    ∙ sym (list_any-append (λ (other : Given). int_eq id other.id) given (next ∷ []))

-- one more is told, and is to be written
pub told_new : (start now after : List (ℤ × Column) × Bool) (seen sees : ℤ → Bool) (told given : List Given) (next : Given)
    (sent more : List Given) → IsToldUntil start now seen told given sent → seen next.id ≡ false
    → IsTold now after next (written_after told given) → Sees seen sees next.id
    → more ≡ sent ++ next ∷ [] → IsToldUntil start after sees told (given ++ next ∷ []) more
told_new start now after seen sees told given next sent more before unseen new saw is =
    let written = written_after told given in
    let behind : written_after told (given ++ next ∷ []) ≡ next ∷ written = after_more told given (next ∷ []) ∙ one_new written next new.differs in
    let all : to_write told (given ++ next ∷ []) ≡ to_write told given ++ next ∷ [] =
    write_more told given (next ∷ []) ∙ ap (λ (rest : List Given). to_write told given ++ rest) (one_written written next new.differs) in
    let apart : has_id given next.id ≡ false = sym (before.ids next.id) ∙ unseen in
    let put : may_put_in (form_by start.1) written next ≡ true =
    ap (λ (b : Bool). may_put_in (form_by b) written next) (sym before.kind) ∙ sym (form_put now.1 written next) ∙ new.may in
    record {
      may = may_new (form_by start.1) told given next before.may apart put;
      stand = ap (λ (all : List Given). all_stand all (given ++ next ∷ [])) behind
          ∙ stand_more (next ∷ written) given next (still_stand written next given apart before.stand) (new_stands next written);
      written = is ∙ ap (λ (them : List Given). them ++ next ∷ []) before.written ∙ sym all;
      tells = subst (Tells after.0) (sym behind) new.tells;
      kind = new.kind ∙ before.kind;
      ids = seen_more seen sees given next before.ids saw;
    }

-- one more is the same as the last one under its id
pub told_same : (start now after : List (ℤ × Column) × Bool) (seen sees : ℤ → Bool) (told given : List Given) (next : Given)
    (sent : List Given) → IsToldUntil start now seen told given sent
    → stands_for next (last_under next.id (written_after told given)) ≡ true → after ≡ now → Sees seen sees next.id
    → IsToldUntil start after sees told (given ++ next ∷ []) sent
told_same start now after seen sees told given next sent before same as_was saw =
    let written = written_after told given in
    let behind : written_after told (given ++ next ∷ []) ≡ written = after_more told given (next ∷ []) ∙ one_same written next same in
    let all : to_write told (given ++ next ∷ []) ≡ to_write told given =
    write_more told given (next ∷ []) ∙ ap (λ (rest : List Given). to_write told given ++ rest) (none_written written next same)
    ∙ append-nil (to_write told given) in
    record {
      may = may_same (form_by start.1) told given next before.may before.stand same;
      stand = ap (λ (all : List Given). all_stand all (given ++ next ∷ [])) behind ∙ stand_more written given next before.stand same;
      written = before.written ∙ sym all;
      tells = λ id. ap (λ (it : List (ℤ × Column) × Bool). last_under id (told_by it.0)) as_was ∙ before.tells id
          ∙ ap (last_under id) (sym behind);
      kind = ap (λ (it : List (ℤ × Column) × Bool). it.1) as_was ∙ before.kind;
      ids = seen_more seen sees given next before.ids saw;
    }

-- ---- refusals

-- one more is not told
pub not_told : (error : Error) (start now after : List (ℤ × Column) × Bool) (seen : ℤ → Bool) (told given : List Given) (next : Given)
    (rest sent : List Given) → IsToldUntil start now seen told given sent
    → TellsOneAfter (seen next.id) now after next (written_after told given) (Err error) → IsNotTold error start.1 told (given ++ next ∷ rest)
not_told (errors.InvalidArgumentError what) start now after seen told given next rest sent before (inl put) =
    let written = written_after told given in
    may_not_put (form_by start.1) told given next rest
    (ap (λ (b : Bool). may_put_in (form_by b) written next) (sym before.kind) ∙ sym (form_put now.1 written next) ∙ put)
not_told (errors.InvalidArgumentError what) start now after seen told given next rest sent before (inr apart) =
    may_not_differ (form_by start.1) told given next rest before.stand (sym (before.ids next.id) ∙ apart.0) apart.1
not_told errors.OutOfMemory start now after seen told given next rest sent before refused = tt
not_told _ start now after seen told given next rest sent before refused = absurd refused

-- ---- all

pub all_told : (old new : List (ℤ × Column) × Bool) (seen : ℤ → Bool) (given sent : List Given)
    → ToldUntil old new seen given sent → TellsAll old new given (Ok sent)
all_told old new seen given sent so_far told tells = let all = so_far told tells in record {
  may = all.may;
  written = all.written;
  tells = all.tells;
  kind = all.kind;
}

-- ---- one more

-- it is to be written
pub next_new : (old new : List (ℤ × Column) × Bool) (seen sees : ℤ → Bool) (sent more : List Given) (next : Given) (answer : Bool)
    → TellsOne (seen next.id) old new next (Ok answer) → answer ≡ true → Sees seen sees next.id → more ≡ sent ++ next ∷ []
    → TellsNext old new seen sees sent more next (Ok tt)
next_new old new seen sees sent more next answer one is saw pushed start given so_far told tells =
    let before = so_far told tells in
    let here = subst (λ (b : Bool). TellsOneAfter (seen next.id) old new next (written_after told given) (Ok b)) is
    (one (written_after told given) before.tells) in
    told_new start old new seen sees told given next sent more before here.0 here.1 saw pushed

-- it is not
pub next_same : (old new : List (ℤ × Column) × Bool) (seen sees : ℤ → Bool) (sent : List Given) (next : Given) (answer : Bool)
    → TellsOne (seen next.id) old new next (Ok answer) → answer ≡ false → Sees seen sees next.id
    → TellsNext old new seen sees sent sent next (Ok tt)
next_same old new seen sees sent next answer one is saw start given so_far told tells =
    let before = so_far told tells in
    let here = subst (λ (b : Bool). TellsOneAfter (seen next.id) old new next (written_after told given) (Ok b)) is
    (one (written_after told given) before.tells) in
    told_same start old new seen sees told given next sent before here.0 here.1 saw

-- it is not told
pub next_not : (error : Error) (old new : List (ℤ × Column) × Bool) (seen sees : ℤ → Bool) (sent more : List Given) (next : Given)
    → TellsOne (seen next.id) old new next (Err error) → TellsNext old new seen sees sent more next (Err error)
next_not error old new seen sees sent more next one start given so_far told rest tells =
    let before = so_far told tells in
    not_told error start old new seen told given next rest sent before (one (written_after told given) before.tells)

-- there was no memory for it
pub next_lost : (error : Error) (old new : List (ℤ × Column) × Bool) (seen sees : ℤ → Bool) (sent more : List Given) (next : Given)
    → IsOutOfMemory error → TellsNext old new seen sees sent more next (Err error)
next_lost errors.OutOfMemory old new seen sees sent more next memory start given so_far told rest tells = tt
next_lost _ old new seen sees sent more next memory start given so_far told rest tells = absurd memory

-- one that is not told among all
pub all_not_told : (error : Error) (start now : List (ℤ × Column) × Bool) (front : List Given) (next : Given) (rest all : List Given)
    → front ++ next ∷ rest ≡ all
    → ((told rest : List Given) → Tells start.0 told → IsNotTold error start.1 told (front ++ next ∷ rest))
    → TellsAll start now all (Err error)
all_not_told error start now front next rest all is refused told tells = subst (IsNotTold error start.1 told) is (refused told rest tells)

-- no id was seen
pub unseen : (keys : List ℤ) → keys ≡ [] → (id : ℤ) → is_seen keys id ≡ false
unseen keys none id = ap (λ (them : List ℤ). is_seen them id) none

-- ---- one dictionary, by the tracker's answer

pub one_lost : (error : Error) (is_seen : Bool) (old new : List (ℤ × Column) × Bool) (given : Given) → IsOutOfMemory error
    → TellsOne is_seen old new given (Err error)
one_lost errors.OutOfMemory is_seen old new given memory told tells = tt
one_lost _ is_seen old new given memory told tells = absurd memory

pub one_not_put : (error : Error) (is_seen : Bool) (old new : List (ℤ × Column) × Bool) (given : Given) → Inserts old new given (Err error)
    → TellsOne is_seen old new given (Err error)
one_not_put (errors.InvalidArgumentError what) is_seen old new given inserts told tells = inl (inserts told tells).0
one_not_put errors.OutOfMemory is_seen old new given inserts told tells = tt
one_not_put _ is_seen old new given inserts told tells = absurd (inserts told tells)

pub one_stays : (is_seen : Bool) (old new : List (ℤ × Column) × Bool) (given : Given) (answer : Bool) → Inserts old new given (Ok answer)
    → answer ≡ false → TellsOne is_seen old new given (Ok false)
one_stays is_seen old new given answer inserts is told tells =
    subst (λ (b : Bool). InsertsAfter old new given told (Ok b)) is (inserts told tells)

pub one_goes : (is_seen : Bool) (old new : List (ℤ × Column) × Bool) (given : Given) (answer first : Bool) → Inserts old new given (Ok answer)
    → answer ≡ true → first ≡ not is_seen → first ≡ true → TellsOne is_seen old new given (Ok true)
one_goes is_seen old new given answer first inserts is unseen holds told tells =
    (not-true is_seen (sym unseen ∙ holds), subst (λ (b : Bool). InsertsAfter old new given told (Ok b)) is (inserts told tells))

pub one_apart : (error : Error) (is_seen : Bool) (old new : List (ℤ × Column) × Bool) (given : Given) (answer first : Bool)
    → ((told : List Given) → (is_seen ≡ true) × (stands_for given (last_under given.id told) ≡ false)
    → TellsOneAfter is_seen old new given told (Err error))
    → Inserts old new given (Ok answer) → answer ≡ true → first ≡ not is_seen → first ≡ false → TellsOne is_seen old new given (Err error)
one_apart error is_seen old new given answer first says inserts is unseen fails told tells =
    let here = subst (λ (b : Bool). InsertsAfter old new given told (Ok b)) is (inserts told tells) in
    says told (not-false is_seen (sym unseen ∙ fails), here.differs)
