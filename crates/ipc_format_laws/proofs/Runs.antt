-- A run of a writer's calls has the messages of what is written of the chunks that were not refused.
use Rattle.std.proofs.Common.{◌≡◌, Bool, true, false, not, ◌&&◌, List, [], ◌∷◌, ◌++◌, refl, sym, ap, ap₂, subst, ◌∙◌, append_assoc}
use Rattle.std.specs.Prelude.{Option, Some, None, if◌then◌else◌}
use Rattle.std.specs.List.{list_all}
use Rattle.std.proofs.lemmas.List.{append-nil}
use Rattle.std.proofs.lemmas.List.Folds.{list_all-append}
use Rattle.ipc_format_grammar.specs.columnar_memory.declared.Schema.{Schema}
use Rattle.ipc_format_grammar.specs.Schemas.{IdsList}
use Rattle.ipc_format_grammar.specs.Tables.{Form, stream, file}
use Rattle.ipc_format_grammar.specs.GivenDictionaries.{Given, agree, last_under, stands_for, written_after}
use Rattle.ipc_format_grammar.specs.WrittenMessages.{Written, fits_limit, schema_written}
use Rattle.ipc_format_grammar.specs.WrittenStreams.{Batch, Chunk, batch_of, batches_written, belongs, is_written_with, batch_messages, messages_after}
use Rattle.ipc_format_grammar.specs.WrittenStreams.{stream_messages, stream_bytes, written_stream}
use Rattle.ipc_format_grammar.specs.WrittenFiles.{none_replaced, is_first_or_same, all_given, fits_file_limit, file_bytes, written_file}
use Rattle.ipc_format_grammar.specs.WriterRuns.{Run, WriteBar, another_schema, another_dictionary, long_message, may_tell, write_bar, with_batch}
use Rattle.ipc_format_grammar.specs.WriterRuns.{unless_barred, after_start, after_write, after_writes}
use Rattle.ipc_format_laws.proofs.SchemaParts.{both}
use Rattle.ipc_format_laws.specs.Runs.{run_file, RunsAreStreams, RunsAreFiles}
use Rattle.ipc_format_laws.proofs.StreamReaders.{passed}

-- ---- lists

all_and : (a b : Bool) → a ≡ true → b ≡ true → (a && b) ≡ true
all_and a b h k = rw (h, k) refl

all_more : {A : Type 0} (test : A → Bool) (xs ys : List A) → list_all test xs ≡ true → list_all test ys ≡ true → list_all test (xs ++ ys) ≡ true
all_more test xs ys h k = list_all-append test xs ys ∙ all_and (list_all test xs) (list_all test ys) h k

one_more : (schema : Schema) (below : IdsList) (chunks : List Chunk) (chunk : Chunk)
    → batches_written schema below (chunks ++ chunk ∷ []) ≡ batches_written schema below chunks ++ batch_of schema.fields below chunk ∷ []
one_more schema below [] chunk = refl
one_more schema below (first ∷ chunks) chunk =
    ap (λ (batches : List Batch). batch_of schema.fields below first ∷ batches) (one_more schema below chunks chunk)

-- ---- dictionaries that were told

if_both : {A B : Type 0} (f : A → B) (test : Bool) (x y : A) → f (if test then x else y) ≡ (if test then f x else f y)
if_both f true x y = refl
if_both f false x y = refl

-- one more dictionary after some
after_one : (told : List Given) (next : Given) (given : List Given)
    → written_after (written_after told (next ∷ [])) given ≡ written_after told (next ∷ given)
after_one told next given =
    if_both (λ (others : List Given). written_after others given) (stands_for next (last_under next.id told)) told (next ∷ told)

after_more : (told a b : List Given) → written_after told (a ++ b) ≡ written_after (written_after told a) b
after_more told [] b = refl
after_more told (next ∷ a) b =
    sym (after_one told next (a ++ b)) ∙ after_more (written_after told (next ∷ [])) a b
    ∙ ap (λ (others : List Given). written_after others b) (after_one told next a)

given_more : (batches : List Batch) (batch : Batch) → all_given (batches ++ batch ∷ []) ≡ all_given batches ++ batch.given
given_more [] batch = append-nil batch.given
given_more (first ∷ batches) batch =
    ap (λ (given : List Given). first.given ++ given) (given_more batches batch) ∙ sym (append_assoc first.given (all_given batches) batch.given)

-- dictionaries of which none is replaced, behind others
none_more : (told a b : List Given) → none_replaced told a ≡ true → none_replaced (written_after told a) b ≡ true
    → none_replaced told (a ++ b) ≡ true
none_more told [] b first others = others
none_more told (next ∷ a) b first others =
    let tests = both (is_first_or_same told next) (none_replaced (written_after told (next ∷ [])) a) first in
    let behind = subst (λ (now : List Given). none_replaced now b ≡ true) (sym (after_one told next a)) others in
    all_and (is_first_or_same told next) (none_replaced (written_after told (next ∷ [])) (a ++ b)) tests.0
    (none_more (written_after told (next ∷ [])) a b tests.1 behind)

-- ---- messages

messages_more : (told : List Given) (batches : List Batch) (batch : Batch)
    → messages_after told (batches ++ batch ∷ [])
    ≡ messages_after told batches ++ batch_messages (written_after told (all_given batches)) batch
messages_more told [] batch = append-nil (batch_messages told batch)
messages_more told (first ∷ batches) batch =
    let now = written_after told first.given in
    ap (λ (messages : List Written). batch_messages told first ++ messages) (messages_more now batches batch)
    ∙ sym (append_assoc (batch_messages told first) (messages_after now batches) (batch_messages (written_after now (all_given batches)) batch))
    ∙ ap (λ (others : List Given). (batch_messages told first ++ messages_after now batches) ++ batch_messages others batch)
    (sym (after_more told first.given (all_given batches)))

-- ---- a run

abbrev AreTold : Form → List Batch → Type 0
AreTold stream batches = list_all (λ (batch : Batch). agree batch.given) batches ≡ true
AreTold file batches = none_replaced [] (all_given batches) ≡ true

-- a run stands for the chunks that were not refused
record Stands (form : Form) (schema : Schema) (below : IdsList) (run : Run) : Type 0 where
  is : is_written_with schema below ≡ true
  messages : run.messages ≡ stream_messages schema below (batches_written schema below run.chunks)
  told : run.told ≡ written_after [] (all_given (batches_written schema below run.chunks))
  belong : list_all (belongs schema below) run.chunks ≡ true
  dictionaries : AreTold form (batches_written schema below run.chunks)
  fit : list_all fits_limit run.messages ≡ true

more_told : (form : Form) (batches : List Batch) (batch : Batch) → AreTold form batches
    → may_tell form (written_after [] (all_given batches)) batch.given ≡ true → AreTold form (batches ++ batch ∷ [])
more_told stream batches batch told may =
    all_more (λ (one : Batch). agree one.given) batches (batch ∷ []) told (all_and (agree batch.given) true may refl)
more_told file batches batch told may =
    subst (λ (given : List Given). none_replaced [] given ≡ true) (sym (given_more batches batch))
    (none_more [] (all_given batches) batch.given told may)

with_one : (form : Form) (schema : Schema) (below : IdsList) (run : Run) (chunk : Chunk) → Stands form schema below run
    → belongs schema below chunk ≡ true → may_tell form run.told (batch_of schema.fields below chunk).given ≡ true
    → list_all fits_limit (batch_messages run.told (batch_of schema.fields below chunk)) ≡ true
    → Stands form schema below (with_batch run chunk (batch_of schema.fields below chunk))
unfolding stream_messages
with_one form schema below run chunk stands its may fits =
    let batch = batch_of schema.fields below chunk in
    let batches = batches_written schema below run.chunks in
    let more = one_more schema below run.chunks chunk in
    let now = written_after [] (all_given batches) in
    let joins : stream_messages schema below (batches ++ batch ∷ []) ≡ stream_messages schema below batches ++ batch_messages now batch =
    ap (λ (messages : List Written). schema_written schema below ∷ messages) (messages_more [] batches batch) in
    record {
      is = stands.is;
      messages = ap₂ (λ (messages : List Written) (told : List Given). messages ++ batch_messages told batch) stands.messages stands.told
          ∙ sym joins ∙ ap (stream_messages schema below) (sym more);
      told = ap (λ (told : List Given). written_after told batch.given) stands.told ∙ sym (after_more [] (all_given batches) batch.given)
          ∙ ap (written_after []) (sym (given_more batches batch)) ∙ ap (λ (all : List Batch). written_after [] (all_given all)) (sym more);
      belong = all_more (belongs schema below) run.chunks (chunk ∷ []) stands.belong (all_and (belongs schema below chunk) true its refl);
      dictionaries = subst (AreTold form) (sym more) (more_told form batches batch stands.dictionaries
          (subst (λ (told : List Given). may_tell form told batch.given ≡ true) stands.told may));
      fit = all_more fits_limit run.messages (batch_messages run.told batch) stands.fit fits;
    }

abbrev barred : Bool → Bool → Bool → Option WriteBar
barred a b c =
    if not a then Some another_schema
    else if not b then Some another_dictionary
    else if not c then Some long_message
    else None

-- what holds of a run, and of it with a batch that passes its tests, holds of it after a write
kept : (Holds : Run → Type 0) (a b c : Bool) (run : Run) (chunk : Chunk) (batch : Batch) → Holds run
    → (a ≡ true → b ≡ true → c ≡ true → Holds (with_batch run chunk batch)) → Holds (unless_barred run chunk batch (barred a b c))
kept Holds true true true run chunk batch h k = k refl refl refl
kept Holds true true false run chunk batch h k = h
kept Holds true false c run chunk batch h k = h
kept Holds false b c run chunk batch h k = h

after_a_write : (form : Form) (schema : Schema) (below : IdsList) (run : Run) (chunk : Chunk) → Stands form schema below run
    → Stands form schema below (after_write form schema below run chunk)
unfolding after_write write_bar
after_a_write form schema below run chunk stands =
    let batch = batch_of schema.fields below chunk in
    kept (Stands form schema below) (belongs schema below chunk) (may_tell form run.told batch.given)
    (list_all fits_limit (batch_messages run.told batch)) run chunk batch stands (with_one form schema below run chunk stands)

after_all : (form : Form) (schema : Schema) (below : IdsList) (run : Run) (chunks : List Chunk) → Stands form schema below run
    → Stands form schema below (after_writes form schema below run chunks)
after_all form schema below run [] stands = stands
after_all form schema below run (chunk ∷ chunks) stands =
    after_all form schema below (after_write form schema below run chunk) chunks (after_a_write form schema below run chunk stands)

-- ---- at the start

nothing_told : (form : Form) → AreTold form []
nothing_told stream = refl
nothing_told file = refl

some_same : {A : Type 0} (x y : A) → Some x ≡ Some y → x ≡ y
some_same x y e = cc

begun : (form : Form) (schema : Schema) (below : IdsList) (first : Run) → after_start schema below ≡ Some first → Stands form schema below first
unfolding after_start stream_messages
begun form schema below first e =
    let asked = passed (is_written_with schema below) _ first e in
    let fits = passed (fits_limit (schema_written schema below)) _ first asked.1 in
    let start : Run = record { chunks = []; messages = schema_written schema below ∷ []; told = [] } in
    let same : start ≡ first = some_same start first fits.1 in
    subst (Stands form schema below) same (record {
      is = asked.0;
      messages = refl;
      told = refl;
      belong = refl;
      dictionaries = nothing_told form;
      fit = all_and (fits_limit (schema_written schema below)) true fits.0 refl;
    })

-- ---- the laws

pub runs_are_streams : RunsAreStreams
unfolding written_stream stream_bytes
runs_are_streams schema below first chunks e =
    let run = after_writes stream schema below first chunks in
    let stands = after_all stream schema below first chunks (begun stream schema below first e) in
    let batches = batches_written schema below run.chunks in
    let fit = subst (λ (messages : List Written). list_all fits_limit messages ≡ true) stands.messages stands.fit in
    let told : list_all (λ (batch : Batch). agree batch.given) batches ≡ true = stands.dictionaries in
    rw (stands.is, stands.belong, told, fit, sym stands.messages) refl

run_file_is : (schema : Schema) (below : IdsList) (run : Run) → run.messages ≡ stream_messages schema below (batches_written schema below run.chunks)
    → file_bytes schema below (batches_written schema below run.chunks) ≡ run_file schema below run
unfolding file_bytes stream_bytes
run_file_is schema below run e = rw (sym e) refl

pub runs_are_files : RunsAreFiles
unfolding written_file
runs_are_files schema below first chunks e footer short =
    let run = after_writes file schema below first chunks in
    let stands = after_all file schema below first chunks (begun file schema below first e) in
    let batches = batches_written schema below run.chunks in
    let fit = subst (λ (messages : List Written). list_all fits_limit messages ≡ true) stands.messages stands.fit in
    let told : none_replaced [] (all_given batches) ≡ true = stands.dictionaries in
    let same = run_file_is schema below run stands.messages in
    let whole : fits_file_limit (file_bytes schema below batches) ≡ true = ap fits_file_limit same ∙ short in
    rw (stands.is, stands.belong, told, fit, footer, whole) (ap Some same)
