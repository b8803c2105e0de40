-- The batches behind a place are those of what stands there and of what stands behind it.
use Rattle.std.proofs.Common.{◌≡◌, ◌∙◌, ℕ, suc, ◌+◌, ◌<◌, ◌≤◌, Bool, true, false, List, [], ◌∷◌, ◌++◌, map, refl, ap}
use Rattle.std.proofs.lemmas.Bool.{lt-ltb}
use Rattle.std.specs.Prelude.{Option, Some, None, nat_lt}
use Rattle.ipc_format_chunk_writing.specs.columns.Slots.{Slot}
use Rattle.ipc_format_chunk_writing.specs.flatbuffers.FlatBuffers as flat
use Rattle.ipc_format_chunk_writing.specs.flatbuffers.Reading.{◌>>=◌, guard}
use Rattle.ipc_format_chunk_writing.specs.grammar.Columns.{Dictionary}
use Rattle.ipc_format_chunk_writing.specs.grammar.Dictionaries.{Layout, dictionary_in}
use Rattle.ipc_format_chunk_writing.specs.grammar.Framing.{Framed, Next, nothing_whole, at_end, message_then, next_at, by_next, dictionaries_after}
use Rattle.ipc_format_chunk_writing.specs.grammar.Framing.{later_messages, truncated_from}
use Rattle.ipc_format_chunk_writing.specs.grammar.Limits.{most_dictionaries}
use Rattle.ipc_format_chunk_writing.specs.grammar.Messages.{Version, Header, schema, dictionary_batch, record_batch}
use Rattle.ipc_format_chunk_writing.specs.grammar.Refusals.{first_messages, next_after}
use Rattle.ipc_format_chunk_writing.specs.grammar.Tables.{batch_in, batches_of, batches_behind, stream_entry}
use Rattle.ipc_format_readers.specs.Steps.{Batches, Step, cut_off, ended, dictionary_then, batch_then}
use Rattle.ipc_format_readers.specs.Steps.{step_by, step_of, step_at, behind, first_from}
use Rattle.ipc_format_readers.proofs.Binding.{came_of}

-- ---- what comes of a step

-- What comes of a step: nothing where the stream is truncated, one value of the end mark, another of a dictionary, and a batch before the rest.
abbrev pub by_step : Option Batches → (Dictionary → ℕ → Option Batches) → (ℕ → Option Batches) → Step → Option Batches
by_step if_ended under rest cut_off = None
by_step if_ended under rest ended = if_ended
by_step if_ended under rest (dictionary_then dictionary after) = under dictionary after
by_step if_ended under rest (batch_then columns after) = behind (columns ∷ []) (rest after)

-- the batches of some messages, where they are there
abbrev pub batches_by : Layout → Version → List Dictionary → Option (List Framed) → Option Batches
batches_by layout version standing later = later >>= (λ more. batches_of layout standing (map (stream_entry version) more))

-- a message with its header
abbrev with_header : Framed → Header → Framed
with_header framed header = record { metadata = framed.metadata; header = header; body = framed.body }

-- one message before others
abbrev before_others : Framed → Option (List Framed) → Option (List Framed)
before_others framed others = others >>= (λ more. Some (framed ∷ more))

pushed : (columns : List (List Slot)) (given : Option Batches) → (given >>= (λ batches. Some (columns ∷ batches))) ≡ behind (columns ∷ []) given
pushed columns None = refl
pushed columns (Some batches) = refl

no_schema : (layout : Layout) (version : Version) (standing : List Dictionary) (framed : Framed) (table : flat.TablePlace)
    (others : Option (List Framed))
    → batches_by layout version standing (before_others (with_header framed (schema table)) others) ≡ None
no_schema layout version standing framed table None = refl
no_schema layout version standing framed table (Some more) = refl

one_batch : (layout : Layout) (version : Version) (standing : List Dictionary) (framed : Framed) (table : flat.TablePlace)
    (given : Option (List (List Slot))) (others : Option (List Framed))
    → batch_in layout standing (stream_entry version (with_header framed (record_batch table))) table ≡ given
    → batches_by layout version standing (before_others (with_header framed (record_batch table)) others)
    ≡ (given >>= (λ columns. behind (columns ∷ []) (batches_by layout version standing others)))
one_batch layout version standing framed table None None here = refl
one_batch layout version standing framed table (Some columns) None here = refl
one_batch layout version standing framed table None (Some more) here = rw here refl
one_batch layout version standing framed table (Some columns) (Some more) here =
    rw here (pushed columns (batches_of layout standing (map (stream_entry version) more)))

one_dictionary : (layout : Layout) (version : Version) (standing : List Dictionary) (framed : Framed) (table : flat.TablePlace)
    (given : Option Dictionary)
    (others : Option (List Framed))
    → dictionary_in layout standing (stream_entry version (with_header framed (dictionary_batch table))) table ≡ given
    → batches_by layout version standing (before_others (with_header framed (dictionary_batch table)) others)
    ≡ (given >>= (λ dictionary. batches_by layout version (dictionary ∷ standing) others))
one_dictionary layout version standing framed table None None here = refl
one_dictionary layout version standing framed table (Some dictionary) None here = refl
one_dictionary layout version standing framed table None (Some more) here = rw here refl
one_dictionary layout version standing framed table (Some dictionary) (Some more) here = rw here refl

-- what is done with what a step holds
batch_step : (if_ended : Option Batches) (under : Dictionary → ℕ → Option Batches) (rest : ℕ → Option Batches)
    (given : Option (List (List Slot))) (after : ℕ)
    → (given >>= (λ columns. behind (columns ∷ []) (rest after)))
    ≡ ((given >>= (λ columns. Some (batch_then columns after))) >>= by_step if_ended under rest)
batch_step if_ended under rest None after = refl
batch_step if_ended under rest (Some columns) after = refl

dictionary_step : (if_ended : Option Batches) (under : Dictionary → ℕ → Option Batches) (rest : ℕ → Option Batches) (given : Option Dictionary)
    (after : ℕ)
    → (given >>= (λ dictionary. under dictionary after))
    ≡ ((given >>= (λ dictionary. Some (dictionary_then dictionary after))) >>= by_step if_ended under rest)
dictionary_step if_ended under rest None after = refl
dictionary_step if_ended under rest (Some dictionary) after = refl

-- ---- all messages behind a place

-- one message, and those that are looked for behind it
abbrev by_message : ℕ → List ℕ → ℕ → Framed → ℕ → Option (List Framed)
by_message most bytes in_a_row framed after = do
  now_in_a_row ← dictionaries_after in_a_row framed.header
  others ← later_messages most bytes after now_in_a_row
  Some (framed ∷ others)

-- the batches behind a dictionary, where not too many stand in a row
abbrev pub under_dictionary : Layout → Version → List Dictionary → ℕ → List ℕ → ℕ → Dictionary → ℕ → Option Batches
under_dictionary layout version standing most bytes in_a_row dictionary after =
    guard (nat_lt in_a_row most_dictionaries) >>= (λ _. batches_behind layout version (dictionary ∷ standing) most bytes after (in_a_row + 1))

counted : (layout : Layout) (version : Version) (standing : List Dictionary) (framed : Framed) (table : flat.TablePlace) (most : ℕ) (bytes : List ℕ)
    (in_a_row after : ℕ) (few : Bool)
    → batches_by layout version standing ((guard few >>= (λ _. Some (in_a_row + 1))) >>= (λ row.
    before_others (with_header framed (dictionary_batch table)) (later_messages most bytes after row)))
    ≡ (dictionary_in layout standing (stream_entry version (with_header framed (dictionary_batch table))) table >>= (λ dictionary.
    guard few >>= (λ _. batches_behind layout version (dictionary ∷ standing) most bytes after (in_a_row + 1))))
counted layout version standing framed table most bytes in_a_row after true =
    one_dictionary layout version standing framed table
    (dictionary_in layout standing (stream_entry version (with_header framed (dictionary_batch table))) table)
    (later_messages most bytes after (in_a_row + 1)) refl
counted layout version standing framed table most bytes in_a_row after false =
    none (dictionary_in layout standing (stream_entry version (with_header framed (dictionary_batch table))) table)
  where
    none : (given : Option Dictionary) → None ≡ (given >>= (λ dictionary. let nothing : Option Batches = None in nothing))
    none None = refl
    none (Some dictionary) = refl

after_message : (layout : Layout) (version : Version) (standing : List Dictionary) (most : ℕ) (bytes : List ℕ) (in_a_row : ℕ) (framed : Framed)
    (header : Header) (after : ℕ)
    → batches_by layout version standing (by_message most bytes in_a_row (with_header framed header) after)
    ≡ (step_by layout version standing (with_header framed header) after header >>= by_step (Some [])
    (under_dictionary layout version standing most bytes in_a_row) (λ place. batches_behind layout version standing most bytes place 0))
after_message layout version standing most bytes in_a_row framed (schema table) after = refl
after_message layout version standing most bytes in_a_row framed (dictionary_batch table) after =
    counted layout version standing framed table most bytes in_a_row after (nat_lt in_a_row most_dictionaries)
    ∙ dictionary_step (Some []) (under_dictionary layout version standing most bytes in_a_row)
    (λ place. batches_behind layout version standing most bytes place 0)
    (dictionary_in layout standing (stream_entry version (with_header framed (dictionary_batch table))) table) after
after_message layout version standing most bytes in_a_row framed (record_batch table) after =
    one_batch layout version standing framed table
    (batch_in layout standing (stream_entry version (with_header framed (record_batch table))) table) (later_messages most bytes after 0) refl
    ∙ batch_step (Some []) (under_dictionary layout version standing most bytes in_a_row)
    (λ place. batches_behind layout version standing most bytes place 0)
    (batch_in layout standing (stream_entry version (with_header framed (record_batch table))) table) after

at_next : (layout : Layout) (version : Version) (standing : List Dictionary) (most : ℕ) (bytes : List ℕ) (in_a_row : ℕ) (given : Option Next)
    → batches_by layout version standing (given >>= by_next None (Some []) (by_message most bytes in_a_row))
    ≡ ((given >>= step_of layout version standing) >>= by_step (Some [])
    (under_dictionary layout version standing most bytes in_a_row) (λ place. batches_behind layout version standing most bytes place 0))
at_next layout version standing most bytes in_a_row None = refl
at_next layout version standing most bytes in_a_row (Some nothing_whole) = refl
at_next layout version standing most bytes in_a_row (Some at_end) = refl
at_next layout version standing most bytes in_a_row (Some (message_then framed after)) =
    after_message layout version standing most bytes in_a_row framed framed.header after

-- one step: what stands at a place, and the batches behind it
pub batches_step : (layout : Layout) (version : Version) (standing : List Dictionary) (most : ℕ) (bytes : List ℕ) (place in_a_row : ℕ)
    → batches_behind layout version standing (suc most) bytes place in_a_row
    ≡ (step_at layout version standing bytes place >>= by_step (Some [])
    (under_dictionary layout version standing most bytes in_a_row) (λ after. batches_behind layout version standing most bytes after 0))
unfolding step_at
batches_step layout version standing most bytes place in_a_row = at_next layout version standing most bytes in_a_row (next_at bytes place)

-- ---- the first messages, whatever stands behind them

-- a message, and the first n behind it
abbrev with_first : ℕ → List ℕ → Framed → ℕ → Option (List Framed)
with_first n bytes framed after = do
  others ← first_messages n bytes after
  Some (framed ∷ others)

first_after : (layout : Layout) (version : Version) (standing : List Dictionary) (n : ℕ) (bytes : List ℕ) (framed : Framed) (header : Header)
    (after : ℕ)
    → batches_by layout version standing (with_first n bytes (with_header framed header) after)
    ≡ (step_by layout version standing (with_header framed header) after header >>= by_step None
    (λ dictionary place. first_from layout version (dictionary ∷ standing) n bytes place) (λ place. first_from layout version standing n bytes place))
first_after layout version standing n bytes framed (schema table) after =
    no_schema layout version standing framed table (first_messages n bytes after)
first_after layout version standing n bytes framed (dictionary_batch table) after =
    one_dictionary layout version standing framed table
    (dictionary_in layout standing (stream_entry version (with_header framed (dictionary_batch table))) table) (first_messages n bytes after) refl
    ∙ dictionary_step None (λ dictionary place. first_from layout version (dictionary ∷ standing) n bytes place)
    (λ place. first_from layout version standing n bytes place)
    (dictionary_in layout standing (stream_entry version (with_header framed (dictionary_batch table))) table) after
first_after layout version standing n bytes framed (record_batch table) after =
    one_batch layout version standing framed table
    (batch_in layout standing (stream_entry version (with_header framed (record_batch table))) table) (first_messages n bytes after) refl
    ∙ batch_step None (λ dictionary place. first_from layout version (dictionary ∷ standing) n bytes place)
    (λ place. first_from layout version standing n bytes place)
    (batch_in layout standing (stream_entry version (with_header framed (record_batch table))) table) after

first_next : (layout : Layout) (version : Version) (standing : List Dictionary) (n : ℕ) (bytes : List ℕ) (given : Option Next)
    → batches_by layout version standing (given >>= by_next None None (with_first n bytes))
    ≡ ((given >>= step_of layout version standing) >>= by_step None
    (λ dictionary place. first_from layout version (dictionary ∷ standing) n bytes place) (λ place. first_from layout version standing n bytes place))
first_next layout version standing n bytes None = refl
first_next layout version standing n bytes (Some nothing_whole) = refl
first_next layout version standing n bytes (Some at_end) = refl
first_next layout version standing n bytes (Some (message_then framed after)) =
    first_after layout version standing n bytes framed framed.header after

-- one step: what stands at a place, and n messages behind it
pub first_step : (layout : Layout) (version : Version) (standing : List Dictionary) (n : ℕ) (bytes : List ℕ) (place : ℕ)
    → first_from layout version standing (suc n) bytes place
    ≡ (step_at layout version standing bytes place >>= by_step None
    (λ dictionary after. first_from layout version (dictionary ∷ standing) n bytes after) (λ after. first_from layout version standing n bytes after))
unfolding step_at
first_step layout version standing n bytes place = first_next layout version standing n bytes (next_at bytes place)

-- ---- which message a step is of

-- what stands at a place, and that it is a dictionary's message
pub record IsDictionaryAt (bytes : List ℕ) (place after : ℕ) : Type 0 where
  pub framed : Framed
  pub table : flat.TablePlace
  pub there : next_at bytes place ≡ Some (message_then framed after)
  pub header : framed.header ≡ dictionary_batch table

-- the same of a batch
pub record IsBatchAt (bytes : List ℕ) (place after : ℕ) : Type 0 where
  pub framed : Framed
  pub table : flat.TablePlace
  pub there : next_at bytes place ≡ Some (message_then framed after)
  pub header : framed.header ≡ record_batch table

abbrev after_or : ℕ → Option Step → ℕ
after_or other None = other
after_or other (Some cut_off) = other
after_or other (Some ended) = other
after_or other (Some (dictionary_then dictionary after)) = after
after_or other (Some (batch_then columns after)) = after

dictionary_by : (layout : Layout) (version : Version) (standing : List Dictionary) (bytes : List ℕ) (place found after : ℕ) (framed : Framed)
    (dictionary : Dictionary) (header : Header) → next_at bytes place ≡ Some (message_then framed found) → framed.header ≡ header
    → step_by layout version standing framed found header ≡ Some (dictionary_then dictionary after) → IsDictionaryAt bytes place after
dictionary_by layout version standing bytes place found after framed dictionary (schema table) there is e = absurd cc
dictionary_by layout version standing bytes place found after framed dictionary (dictionary_batch table) there is e =
    let given = came_of (dictionary_in layout standing (stream_entry version framed) table) _ _ e in
    let same : found ≡ after = ap (after_or after) given.2 in
    record { framed = framed; table = table; there = there ∙ ap (λ n. Some (message_then framed n)) same; header = is }
dictionary_by layout version standing bytes place found after framed dictionary (record_batch table) there is e =
    let given = came_of (batch_in layout standing (stream_entry version framed) table) _ _ e in
    absurd (other given.0 given.2)
  where
    other : (columns : List (List Slot)) → Some (batch_then columns found) ≡ Some (dictionary_then dictionary after) → ⊥
    other columns same = absurd cc

batch_by : (layout : Layout) (version : Version) (standing : List Dictionary) (bytes : List ℕ) (place found after : ℕ) (framed : Framed)
    (columns : List (List Slot)) (header : Header) → next_at bytes place ≡ Some (message_then framed found) → framed.header ≡ header
    → step_by layout version standing framed found header ≡ Some (batch_then columns after) → IsBatchAt bytes place after
batch_by layout version standing bytes place found after framed columns (schema table) there is e = absurd cc
batch_by layout version standing bytes place found after framed columns (record_batch table) there is e =
    let given = came_of (batch_in layout standing (stream_entry version framed) table) _ _ e in
    let same : found ≡ after = ap (after_or after) given.2 in
    record { framed = framed; table = table; there = there ∙ ap (λ n. Some (message_then framed n)) same; header = is }
batch_by layout version standing bytes place found after framed columns (dictionary_batch table) there is e =
    let given = came_of (dictionary_in layout standing (stream_entry version framed) table) _ _ e in
    absurd (other given.0 given.2)
  where
    other : (dictionary : Dictionary) → Some (dictionary_then dictionary found) ≡ Some (batch_then columns after) → ⊥
    other dictionary same = absurd cc

-- a message's step is of a dictionary or of a batch
no_message : (layout : Layout) (version : Version) (standing : List Dictionary) (framed : Framed) (found : ℕ) (header : Header) (step : Step)
    → step_by layout version standing framed found header ≡ Some step → (step ≡ cut_off → ⊥) × (step ≡ ended → ⊥)
no_message layout version standing framed found (schema table) step e = absurd cc
no_message layout version standing framed found (dictionary_batch table) step e =
    let given = came_of (dictionary_in layout standing (stream_entry version framed) table) _ _ e in
    (λ is. cut given.0 (given.2 ∙ ap Some is), λ is. end given.0 (given.2 ∙ ap Some is))
  where
    cut : (dictionary : Dictionary) → Some (dictionary_then dictionary found) ≡ Some cut_off → ⊥
    cut dictionary same = absurd cc

    end : (dictionary : Dictionary) → Some (dictionary_then dictionary found) ≡ Some ended → ⊥
    end dictionary same = absurd cc
no_message layout version standing framed found (record_batch table) step e =
    let given = came_of (batch_in layout standing (stream_entry version framed) table) _ _ e in
    (λ is. cut given.0 (given.2 ∙ ap Some is), λ is. end given.0 (given.2 ∙ ap Some is))
  where
    cut : (columns : List (List Slot)) → Some (batch_then columns found) ≡ Some cut_off → ⊥
    cut columns same = absurd cc

    end : (columns : List (List Slot)) → Some (batch_then columns found) ≡ Some ended → ⊥
    end columns same = absurd cc

next_dictionary : (layout : Layout) (version : Version) (standing : List Dictionary) (bytes : List ℕ) (place after : ℕ) (dictionary : Dictionary)
    (next : Next) → next_at bytes place ≡ Some next → step_of layout version standing next ≡ Some (dictionary_then dictionary after)
    → IsDictionaryAt bytes place after
next_dictionary layout version standing bytes place after dictionary nothing_whole there e = absurd cc
next_dictionary layout version standing bytes place after dictionary at_end there e = absurd cc
next_dictionary layout version standing bytes place after dictionary (message_then framed found) there e =
    dictionary_by layout version standing bytes place found after framed dictionary framed.header there refl e

next_batch : (layout : Layout) (version : Version) (standing : List Dictionary) (bytes : List ℕ) (place after : ℕ) (columns : List (List Slot))
    (next : Next) → next_at bytes place ≡ Some next → step_of layout version standing next ≡ Some (batch_then columns after)
    → IsBatchAt bytes place after
next_batch layout version standing bytes place after columns nothing_whole there e = absurd cc
next_batch layout version standing bytes place after columns at_end there e = absurd cc
next_batch layout version standing bytes place after columns (message_then framed found) there e =
    batch_by layout version standing bytes place found after framed columns framed.header there refl e

next_cut : (layout : Layout) (version : Version) (standing : List Dictionary) (next : Next) → step_of layout version standing next ≡ Some cut_off
    → next ≡ nothing_whole
next_cut layout version standing nothing_whole e = refl
next_cut layout version standing at_end e = absurd cc
next_cut layout version standing (message_then framed found) e =
    absurd ((no_message layout version standing framed found framed.header cut_off e).0 refl)

pub dictionary_at : (layout : Layout) (version : Version) (standing : List Dictionary) (bytes : List ℕ) (place after : ℕ) (dictionary : Dictionary)
    → step_at layout version standing bytes place ≡ Some (dictionary_then dictionary after) → IsDictionaryAt bytes place after
unfolding step_at
dictionary_at layout version standing bytes place after dictionary e =
    let next = came_of (next_at bytes place) (step_of layout version standing) _ e in
    next_dictionary layout version standing bytes place after dictionary next.0 next.1 next.2

pub batch_at : (layout : Layout) (version : Version) (standing : List Dictionary) (bytes : List ℕ) (place after : ℕ) (columns : List (List Slot))
    → step_at layout version standing bytes place ≡ Some (batch_then columns after) → IsBatchAt bytes place after
unfolding step_at
batch_at layout version standing bytes place after columns e =
    let next = came_of (next_at bytes place) (step_of layout version standing) _ e in
    next_batch layout version standing bytes place after columns next.0 next.1 next.2

pub cut_at : (layout : Layout) (version : Version) (standing : List Dictionary) (bytes : List ℕ) (place : ℕ)
    → step_at layout version standing bytes place ≡ Some cut_off → next_at bytes place ≡ Some nothing_whole
unfolding step_at
cut_at layout version standing bytes place e =
    let next = came_of (next_at bytes place) (step_of layout version standing) _ e in
    next.1 ∙ ap Some (next_cut layout version standing next.0 next.2)

pub cut_step : (layout : Layout) (version : Version) (standing : List Dictionary) (bytes : List ℕ) (place : ℕ)
    → next_at bytes place ≡ Some nothing_whole → step_at layout version standing bytes place ≡ Some cut_off
unfolding step_at
cut_step layout version standing bytes place e = rw e refl

-- ---- what stands behind a message, and whether the stream is truncated

-- behind a message stands what stands behind its place
pub after_one : (n : ℕ) (bytes : List ℕ) (place after : ℕ) (framed : Framed) → next_at bytes place ≡ Some (message_then framed after)
    → next_after (suc n) bytes place ≡ next_after n bytes after
after_one n bytes place after framed e = rw e refl

abbrev cut_behind : ℕ → List ℕ → ℕ → ℕ → Option ℕ → Option Bool
cut_behind most bytes after in_a_row counted = counted >>= (λ now_in_a_row. truncated_from most bytes after now_in_a_row)

pub cut_after_batch : (most : ℕ) (bytes : List ℕ) (place after in_a_row : ℕ) → IsBatchAt bytes place after
    → truncated_from (suc most) bytes place in_a_row ≡ truncated_from most bytes after 0
cut_after_batch most bytes place after in_a_row it =
    rw it.there (ap (λ (header : Header). cut_behind most bytes after in_a_row (dictionaries_after in_a_row header)) it.header)

pub cut_after_dictionary : (most : ℕ) (bytes : List ℕ) (place after in_a_row : ℕ) → IsDictionaryAt bytes place after
    → in_a_row < most_dictionaries → truncated_from (suc most) bytes place in_a_row ≡ truncated_from most bytes after (in_a_row + 1)
cut_after_dictionary most bytes place after in_a_row it few =
    let counts : dictionaries_after in_a_row it.framed.header ≡ Some (in_a_row + 1) =
    ap (dictionaries_after in_a_row) it.header ∙ ap (λ (b : Bool). guard b >>= (λ _. Some (in_a_row + 1))) (lt-ltb in_a_row most_dictionaries few) in
    rw it.there (ap (cut_behind most bytes after in_a_row) counts)

pub cut_here : (most : ℕ) (bytes : List ℕ) (place in_a_row : ℕ) → next_at bytes place ≡ Some nothing_whole
    → truncated_from (suc most) bytes place in_a_row ≡ Some true
cut_here most bytes place in_a_row e = rw e refl
