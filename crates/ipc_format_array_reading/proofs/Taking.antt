-- Calls that take nodes and buffers off the queues, one after another.
use Rattle.std.proofs.Common.{◌≡◌, ◌∙◌, ◌+◌, ◌≤◌, ℕ, List, [], ◌∷◌, length, drop, Bool, false, refl, sym, subst, arith}
use Rattle.std.specs.Prelude.{Option, Some, None, Result, Ok, Err}
use Rattle.ipc_format_column_writing.specs.column_reading.columnar_memory.declared.Error.{Error}
use Rattle.ipc_format_column_writing.specs.column_reading.flatbuffers.Reading.{◌>>=◌}
use Rattle.ipc_format_column_writing.specs.column_reading.Queues.{IsEnd, TakesOff}
use Rattle.ipc_format_column_writing.specs.column_reading.Rooms.{Told, ForBytes, IsRefusal, ReadsAs}
use Rattle.ipc_format_column_writing.proofs.reading_lemmas.ColumnReads.{takes_behind}
use Rattle.ipc_format_column_writing.proofs.reading_lemmas.NextBuffers.{refusal_for}
use Rattle.ipc_format_column_writing.proofs.reading_lemmas.Readings.{reads_behind, reads_made, reads_refused}
use Rattle.ipc_format_column_writing.proofs.reading_lemmas.Skipping.{end_behind}
use Rattle.ipc_format_array_reading.specs.ArrayReads.{Takes}

pub drop_none : {A : Type 0} (xs : List A) → drop 0 xs ≡ xs
drop_none [] = refl
drop_none (x ∷ xs) = refl

-- nothing comes off a queue
pub takes_none : {A X : Type 0} (xs : List A) (r : Result X Error) → TakesOff 0 xs xs r
takes_none xs (Ok x) = (omega arith, sym (drop_none xs))
takes_none xs (Err error) = (0, sym (drop_none xs))

-- what comes off behind what came off, whether the second call is refused or not
pub off_behind : {A X : Type 0} (n m k : ℕ) (xs ys zs : List A) (r : Result X Error) → k ≡ n + m → (n ≤ length xs) × (ys ≡ drop n xs)
    → TakesOff m ys zs r → TakesOff k xs zs r
off_behind n m k xs ys zs (Ok x) is first later = takes_behind n m k xs ys zs is first later
off_behind n m k xs ys zs (Err error) is first later = end_behind xs ys zs n first.1 later

-- what is read behind something that was read
pub takes_then : {A B P Q X Y : Type 0} (old mid new : Told) (first : A → P) (given : List ℕ → Option P) (a : A) (second : B → Q)
    (next : P → List ℕ → Option Q) (whole : List ℕ → Option Q) (r : Result B Error) (n b m c k l : ℕ) (ns ns1 ns2 : List X) (bs bs1 bs2 : List Y)
    → ((room : List ℕ) → whole room ≡ (given room >>= (λ x. next x room))) → k ≡ n + m → l ≡ b + c
    → Takes false old mid first given n b ns ns1 bs bs1 (Ok a) → Takes false mid new second (next (first a)) m c ns1 ns2 bs1 bs2 r
    → Takes false old new second whole k l ns ns2 bs bs2 r
takes_then old mid new first given a second next whole r n b m c k l ns ns1 ns2 bs bs1 bs2 is nodes buffers before later = (
  reads_behind false old mid new first given a second next whole r is before.0 later.0,
  off_behind n m k ns ns1 ns2 r nodes before.1 later.1,
  off_behind b c l bs bs1 bs2 r buffers before.2 later.2,
)

-- a call that is refused, before what would follow it
pub takes_refused : {A B P Q X Y : Type 0} (old new : Told) (first : A → P) (given : List ℕ → Option P) (second : B → Q)
    (next : P → List ℕ → Option Q) (whole : List ℕ → Option Q) (error : Error) (n b m c : ℕ) (ns ns1 : List X) (bs bs1 : List Y)
    → ((room : List ℕ) → whole room ≡ (given room >>= (λ x. next x room))) → Takes false old new first given n b ns ns1 bs bs1 (Err error)
    → Takes {A = B} false old new second whole m c ns ns1 bs bs1 (Err error)
takes_refused old new first given second next whole error n b m c ns ns1 bs bs1 is before =
    (reads_refused false old new first given second next whole error is before.0, before.1, before.2)

-- what is made of what was read
pub takes_made : {A B P Q X Y : Type 0} (old new : Told) (first : A → P) (given : List ℕ → Option P) (a : A) (second : B → Q)
    (next : P → List ℕ → Option Q) (whole : List ℕ → Option Q) (made : B) (n b : ℕ) (ns ns1 : List X) (bs bs1 : List Y)
    → ((room : List ℕ) → whole room ≡ (given room >>= (λ x. next x room))) → Takes false old new first given n b ns ns1 bs bs1 (Ok a)
    → ((room : List ℕ) → next (first a) room ≡ Some (second made)) → Takes false old new second whole n b ns ns1 bs bs1 (Ok made)
takes_made old new first given a second next whole made n b ns ns1 bs bs1 is before makes =
    (reads_made false old new first given a second next whole made is before.0 makes, before.1, before.2)

-- a refusal that reads nothing more
pub takes_stopped : {B Q X Y : Type 0} (told : Told) (second : B → Q) (given : List ℕ → Option Q) (error : Error) (m c : ℕ) (ns : List X)
    (bs : List Y) → IsRefusal false told told (ForBytes told (λ room. given room ≡ None)) error
    → Takes {A = B} false told told second given m c ns ns bs bs (Err error)
takes_stopped told second given error m c ns bs refusal = (refusal, (0, sym (drop_none ns)), (0, sym (drop_none bs)))

-- the same reading under another name
pub takes_as : {A P X Y : Type 0} (old new : Told) (view : A → P) (given other : List ℕ → Option P) (n b m c : ℕ) (ns ns1 : List X)
    (bs bs1 : List Y) (r : Result A Error) → ((room : List ℕ) → other room ≡ given room) → m ≡ n → c ≡ b
    → Takes false old new view given n b ns ns1 bs bs1 r → Takes false old new view other m c ns ns1 bs bs1 r
takes_as old new view given other n b m c ns ns1 bs bs1 (Ok a) same nodes buffers taken = (
  (taken.0.0, taken.0.1, λ room told. same room ∙ taken.0.2 room told),
  subst (λ (k : ℕ). TakesOff k ns ns1 (Ok a)) (sym nodes) taken.1,
  subst (λ (k : ℕ). TakesOff k bs bs1 (Ok a)) (sym buffers) taken.2,
)
takes_as old new view given other n b m c ns ns1 bs bs1 (Err error) same nodes buffers taken = (
  refusal_for old new (ForBytes old (λ room. given room ≡ None)) (ForBytes old (λ room. other room ≡ None)) error false
      (λ none room told. same room ∙ none room told) taken.0,
  taken.1,
  taken.2,
)
