-- What the first message of a stream says, by its metadata.
use Rattle.std.proofs.Common.{◌≡◌, ◌∙◌, ◌+◌, ℕ, ℤ, List, [], ◌++◌, refl, sym, ap, subst, inl, inr}
use Rattle.std.specs.Prelude.{Bool, true, false, Option, Some, None, Result, Ok, Err, IsSomeAnd}
use Rattle.std.specs.Io.KnownBytes.{prepend_known}
use Rattle.ipc_format_values.specs.columnar_memory.declared.Error.{Error}
use Rattle.ipc_format_values.specs.columnar_memory.declared.Error.TheVariants as errors
use Rattle.ipc_format_values.specs.flatbuffers.FlatBuffers.{TablePlace}
use Rattle.ipc_format_values.specs.flatbuffers.Reading.{◌>>=◌, window_at}
use Rattle.ipc_format_values.specs.grammar.Framing.{Frame, Framed, Next, frame_at, framed_at, framed_by, next_of, next_at, by_next, schema_then}
use Rattle.ipc_format_values.specs.grammar.Framing.{first_of, truncated, end_mark, metadata_then, message_then}
use Rattle.ipc_format_values.specs.grammar.Messages as message
use Rattle.ipc_format_values.specs.grammar.Messages.{Header, Message, Version, message_in, natural, version_in}
use Rattle.ipc_format_values.specs.grammar.Refusals.{HasFloat, HasFloatField, schema_in_message}
use Rattle.ipc_format_values.specs.grammar.SchemaGrammar.{schema_in}
use Rattle.ipc_format_values.specs.grammar.Schemas.{SchemaIn}
use Rattle.ipc_format_values.specs.grammar.Tables.{schema_of, stream}
use Rattle.ipc_format_values.specs.metadata.Reading.{Reads}
use Rattle.ipc_format_values.specs.metadata.Steps as steps
use Rattle.ipc_format_values.specs.metadata.Steps.{FloatInMessage, FloatInSchema, schema_message_in, schema_table_in}
use Rattle.ipc_format_streams.specs.Incoming.{ForLeft, IsNextMessage, TakesNext}
use Rattle.ipc_format_streams.specs.Starts.{IsNamedStart, IsReadOutcome, IsReadRefusal, IsRefusedRead, ReadsStart, Start}
use Rattle.ipc_format_streams.specs.Starts.{start_in, start_of_message, start_view}
use Rattle.ipc_format_streams.specs.declared.incoming.Incoming.TheVariants as incoming
use Rattle.ipc_format_streams.specs.declared.stream_metadata.StreamMetadata.{StreamMetadata}

came_of : {A B : Type 0} (r : Option A) (f : A → Option B) (y : B) → (r >>= f) ≡ Some y → (x : A) × (r ≡ Some x) × (f x ≡ Some y)
came_of None f y e = absurd cc
came_of (Some x) f y e = (x, refl, e)

abbrev or_else : {A : Type 0} → A → Option A → A
or_else other None = other
or_else other (Some x) = x

some_same : {A : Type 0} (x y : A) → Some x ≡ Some y → x ≡ y
some_same x y e = ap (or_else x) e

-- ---- a message's header is that of its metadata

abbrev IsOf : List ℕ → Header → Framed × ℕ → Type 0
IsOf metadata header found = (found.0.metadata ≡ metadata) × (found.0.header ≡ header)

-- a message with its body
with_body : (bytes metadata : List ℕ) (place : ℕ) (header : Header) (size : Option ℕ) (found : Framed × ℕ)
    → (size >>= (λ n. window_at bytes place n >>= (λ body. Some (record { metadata = metadata; header = header; body = body }, place + n))))
    ≡ Some found → IsOf metadata header found
with_body bytes metadata place header size found e =
    let n = came_of size _ found e in
    let body = came_of (window_at bytes place n.0) _ found n.2 in
    let same = some_same _ found body.2 in
    (sym (ap (λ (it : Framed × ℕ). it.0.metadata) same), sym (ap (λ (it : Framed × ℕ). it.0.header) same))

framed_of : (bytes metadata : List ℕ) (place : ℕ) (header : Header) (stated : ℤ) (found : Framed × ℕ)
    → framed_by bytes metadata place header stated ≡ Some found → IsOf metadata header found
framed_of bytes metadata place (message.schema table) stated found e =
    let same = some_same _ found e in
    (sym (ap (λ (it : Framed × ℕ). it.0.metadata) same), sym (ap (λ (it : Framed × ℕ). it.0.header) same))
framed_of bytes metadata place (message.dictionary_batch table) stated found e =
    with_body bytes metadata place (message.dictionary_batch table) (natural stated) found e
framed_of bytes metadata place (message.record_batch table) stated found e =
    with_body bytes metadata place (message.record_batch table) (natural stated) found e

abbrev message_or : Framed → Next → Framed
message_or other (message_then found place) = found
message_or other _ = other

-- the header that some metadata says
abbrev Says : Framed → Type 0
Says found = (it : Message) × (message_in found.metadata ≡ Some it) × (it.header ≡ found.header)

said_by : (bytes : List ℕ) (frame : Frame) (found : Framed) (after : ℕ) → next_of bytes frame ≡ Some (message_then found after) → Says found
said_by bytes truncated found after e = absurd cc
said_by bytes end_mark found after e = absurd cc
said_by bytes (metadata_then metadata place) found after e =
    let whole = came_of (framed_at bytes metadata place) _ _ e in
    let same : whole.0.0 ≡ found = ap (message_or found) (some_same _ _ whole.2) in
    let it = came_of (message_in metadata) _ whole.0 whole.1 in
    let of = framed_of bytes metadata place it.0.header it.0.body_length whole.0 it.2 in (
      it.0,
      ap (λ (f : Framed). message_in f.metadata) (sym same) ∙ ap message_in of.0 ∙ it.1,
      sym of.1 ∙ ap (λ (f : Framed). f.header) same,
    )

says : (bytes : List ℕ) (found : Framed) (after : ℕ) → next_at bytes 0 ≡ Some (message_then found after) → Says found
says bytes found after e =
    let frame = came_of (frame_at bytes 0) _ _ e in
    said_by bytes frame.0 found after frame.2

-- ---- what a stream begins with

abbrev nothing_said : Version → Option Start
nothing_said version = None

nothing : (version : Option Version) → (version >>= nothing_said) ≡ None
nothing None = refl
nothing (Some version) = refl

-- what a message says, with the place behind it
abbrev placed : Option Start → ℕ → Option (Start × ℕ)
placed found place = found >>= (λ start. Some (start, place))

placed_in_turn : (version : Option Version) (found : Option SchemaIn) (place : ℕ)
    → (version >>= (λ v. found >>= (λ s. Some (record { version = v; schema = s }, place))))
    ≡ placed (version >>= (λ v. found >>= (λ s. Some (record { version = v; schema = s })))) place
placed_in_turn None found place = refl
placed_in_turn (Some v) None place = refl
placed_in_turn (Some v) (Some s) place = refl

-- the first message by its header
abbrev by_header : Framed → ℕ → Header → Option (Start × ℕ)
by_header found after header = schema_then found after header >>= (λ first. version_in first.0.metadata >>= (λ version.
    schema_of first.0 first.0.header >>= (λ schema. Some (record { version = version; schema = schema }, first.1))))

said_none : (found : Framed) (it : Message) (header : Header) → message_in found.metadata ≡ Some it → it.header ≡ header
    → steps.schema_of header ≡ None → start_of_message found.metadata ≡ None
said_none found it header there is none =
    let schema : schema_message_in found.metadata ≡ None =
    ap (λ (m : Option Message). (m >>= (λ (found : Message). steps.schema_of found.header)) >>= schema_in found.metadata) there
    ∙ ap (λ (h : Header). steps.schema_of h >>= schema_in found.metadata) is
    ∙ ap (λ (t : Option TablePlace). t >>= schema_in found.metadata) none in
    ap (λ (s : Option SchemaIn). version_in found.metadata >>= (λ v. s >>= (λ s. Some (record { version = v; schema = s })))) schema
    ∙ nothing (version_in found.metadata)

said_schema : (found : Framed) (after : ℕ) (it : Message) (header : Header) → found.header ≡ header → message_in found.metadata ≡ Some it
    → it.header ≡ header → by_header found after header ≡ placed (start_of_message found.metadata) after
said_schema found after it (message.schema table) same there is =
    let schema : schema_message_in found.metadata ≡ schema_in found.metadata table =
    ap (λ (m : Option Message). (m >>= (λ (found : Message). steps.schema_of found.header)) >>= schema_in found.metadata) there
    ∙ ap (λ (h : Header). steps.schema_of h >>= schema_in found.metadata) is in
    ap (λ (h : Header). version_in found.metadata >>= (λ version.
    schema_of found h >>= (λ schema. Some (record { version = version; schema = schema }, after)))) same
    ∙ placed_in_turn (version_in found.metadata) (schema_in found.metadata table) after
    ∙ ap (λ (s : Option SchemaIn). placed (version_in found.metadata >>= (λ v. s >>= (λ s. Some (record { version = v; schema = s })))) after)
    (sym schema)
said_schema found after it (message.dictionary_batch table) same there is =
    sym (ap (λ o. placed o after) (said_none found it (message.dictionary_batch table) there is refl))
said_schema found after it (message.record_batch table) same there is =
    sym (ap (λ o. placed o after) (said_none found it (message.record_batch table) there is refl))

begins_with : (bytes : List ℕ) (next : Option Next) → next_at bytes 0 ≡ next → start_in bytes
    ≡ ((next >>= (λ next. by_next None None (λ framed after. schema_then framed after framed.header) next)) >>= (λ first.
    version_in first.0.metadata >>= (λ version. schema_of first.0 first.0.header >>= (λ schema.
    Some (record { version = version; schema = schema }, first.1)))))
unfolding first_of
begins_with bytes next e = rw e refl

-- a stream that begins with a message
start_at : (bytes : List ℕ) (found : Framed) (after : ℕ) → next_at bytes 0 ≡ Some (message_then found after)
    → start_in bytes ≡ placed (start_of_message found.metadata) after
start_at bytes found after e =
    let it = says bytes found after e in
    begins_with bytes (Some (message_then found after)) e ∙ said_schema found after it.0 found.header refl it.1 it.2

-- ---- floats

float_said : (found : Framed) (after : ℕ) (it : Message) (header : Header) → found.header ≡ header → message_in found.metadata ≡ Some it
    → it.header ≡ header → FloatInMessage found.metadata
    → IsSomeAnd (schema_then found after header >>= (λ first. schema_in_message first.0 first.0.header)) (λ f. HasFloatField f.0 f.1)
float_said found after it (message.schema table) same there is float =
    let given : schema_table_in found.metadata ≡ Some table =
    ap (λ (m : Option Message). m >>= (λ (found : Message). steps.schema_of found.header)) there ∙ ap steps.schema_of is in
    let said : FloatInSchema found.metadata table =
    subst (λ (t : Option TablePlace). IsSomeAnd t (FloatInSchema found.metadata)) given float in
    subst (λ (h : Header). IsSomeAnd (schema_in_message found h) (λ f. HasFloatField f.0 f.1)) (sym same) said
float_said found after it (message.dictionary_batch table) same there is float =
    let given : schema_table_in found.metadata ≡ None =
    ap (λ (m : Option Message). m >>= (λ (found : Message). steps.schema_of found.header)) there ∙ ap steps.schema_of is in
    absurd (subst (λ (t : Option TablePlace). IsSomeAnd t (FloatInSchema found.metadata)) given float)
float_said found after it (message.record_batch table) same there is float =
    let given : schema_table_in found.metadata ≡ None =
    ap (λ (m : Option Message). m >>= (λ (found : Message). steps.schema_of found.header)) there ∙ ap steps.schema_of is in
    absurd (subst (λ (t : Option TablePlace). IsSomeAnd t (FloatInSchema found.metadata)) given float)

float_at : (bytes : List ℕ) (found : Framed) (after : ℕ) → next_at bytes 0 ≡ Some (message_then found after) → FloatInMessage found.metadata
    → HasFloat stream bytes
unfolding first_of
float_at bytes found after e float =
    let it = says bytes found after e in
    let said = float_said found after it.0 found.header refl it.1 it.2 float in
    subst (λ (n : Option Next). IsSomeAnd ((n >>= (λ next. by_next None None (λ framed after. schema_then framed after framed.header) next))
    >>= (λ first. schema_in_message first.0 first.0.header)) (λ f. HasFloatField f.0 f.1)) (sym e) said

-- ---- what is answered

unheld : (held : List ℕ) (left : Option (List ℕ)) → held ≡ [] → prepend_known held left ≡ left
unheld held None e = refl
unheld held (Some bytes) e = ap (λ (front : List ℕ). Some (front ++ bytes)) e

-- the device or the bytes refuse a message
pub start_refused : (left new left_after : Option (List ℕ)) (held metadata body : List ℕ) (error : Error) → held ≡ []
    → TakesNext (prepend_known held left) new metadata body (Err error) → ReadsStart left left_after (Err error)
start_refused left new left_after held metadata body (errors.OutOfSpec text) none taken = λ bytes e.
    begins_with bytes None (taken bytes (unheld held left none ∙ e))
start_refused left new left_after held metadata body (errors.Io what) none taken = tt
start_refused left new left_after held metadata body errors.OutOfMemory none taken = tt
start_refused left new left_after held metadata body _ none taken = absurd taken

-- there is no message
pub start_waits : (left new : Option (List ℕ)) (held metadata body : List ℕ) → held ≡ []
    → TakesNext (prepend_known held left) new metadata body (Ok incoming.Waiting) → ForLeft left (λ bytes. start_in bytes ≡ None)
start_waits left new held metadata body none taken bytes e = begins_with bytes _ (taken bytes (unheld held left none ∙ e)).0

pub start_ends : (left new : Option (List ℕ)) (held metadata body : List ℕ) → held ≡ []
    → TakesNext (prepend_known held left) new metadata body (Ok incoming.End) → ForLeft left (λ bytes. start_in bytes ≡ None)
start_ends left new held metadata body none taken bytes e = begins_with bytes _ (taken bytes (unheld held left none ∙ e))

read_of_message : (left left_after : Option (List ℕ)) (metadata body : List ℕ) (result : Result StreamMetadata Error)
    → ForLeft left (IsNextMessage left_after metadata body) → Reads start_view (FloatInMessage metadata) result (start_of_message metadata)
    → ReadsStart left left_after result
read_of_message left left_after metadata body (Ok found) came read = λ bytes e.
    let next = came bytes e in
    (next.1, start_at bytes _ next.1 next.2 ∙ ap (λ (o : Option Start). placed o next.1) read, next.3)
read_of_message left left_after metadata body (Err (errors.OutOfSpec text)) came read = λ bytes e.
    let next = came bytes e in
    start_at bytes _ next.1 next.2 ∙ ap (λ (o : Option Start). placed o next.1) read
read_of_message left left_after metadata body (Err (errors.NotYetImplemented text)) came read = λ bytes e.
    let next = came bytes e in
    (start_at bytes _ next.1 next.2 ∙ ap (λ (o : Option Start). placed o next.1) read.0, float_at bytes _ next.1 next.2 read.1)
read_of_message left left_after metadata body (Err errors.OutOfMemory) came read = tt
read_of_message left left_after metadata body (Err _) came read = absurd read

-- the metadata of a message is read
pub start_read : (left left_after : Option (List ℕ)) (held still metadata body : List ℕ) (result : Result StreamMetadata Error) → held ≡ []
    → still ≡ [] → TakesNext (prepend_known held left) (prepend_known still left_after) metadata body (Ok incoming.Message)
    → Reads start_view (FloatInMessage metadata) result (start_of_message metadata) → ReadsStart left left_after result
start_read left left_after held still metadata body result none empty taken read =
    read_of_message left left_after metadata body result (λ bytes e.
    subst (λ (rest : Option (List ℕ)). IsNextMessage rest metadata body bytes) (unheld still left_after empty)
    (taken bytes (unheld held left none ∙ e))) read

-- a device's refusal says nothing of the bytes
device_refused : (left left_after : Option (List ℕ)) (in_memory : Bool) (before after : ℕ) (error : Error)
    → IsRefusedRead in_memory before after error → IsNamedStart left left_after in_memory before after (Err error)
device_refused left left_after in_memory before after (errors.Io what) why = why
device_refused left left_after in_memory before after (errors.OutOfSpec text) why = inl why
device_refused left left_after in_memory before after errors.OutOfMemory why = tt
device_refused left left_after true before after _ why = absurd why
device_refused left left_after false before after _ why = absurd why

-- each refusal by its name
start_named : (left left_after : Option (List ℕ)) (in_memory : Bool) (before after : ℕ) (error answered : Error)
    → ReadsStart left left_after (Err error) → IsReadRefusal error in_memory before after answered
    → IsNamedStart left left_after in_memory before after (Err answered)
start_named left left_after in_memory before after (errors.Io what) answered read is =
    device_refused left left_after in_memory before after answered is
start_named left left_after in_memory before after (errors.OutOfSpec text) answered read is =
    subst (λ (e : Error). IsNamedStart left left_after in_memory before after (Err e)) (sym is) (inr read)
start_named left left_after in_memory before after (errors.NotYetImplemented text) answered read is =
    subst (λ (e : Error). IsNamedStart left left_after in_memory before after (Err e)) (sym is) read
start_named left left_after in_memory before after errors.OutOfMemory answered read is =
    subst (λ (e : Error). IsNamedStart left left_after in_memory before after (Err e)) (sym is) tt
start_named left left_after in_memory before after _ answered read is = absurd read

-- what is answered, by the device's count
pub start_told : (left left_after : Option (List ℕ)) (in_memory : Bool) (before after : ℕ) (read answered : Result StreamMetadata Error)
    → ReadsStart left left_after read → IsReadOutcome read in_memory before after answered
    → IsNamedStart left left_after in_memory before after answered
start_told left left_after in_memory before after (Ok metadata) (Ok same) read is =
    (is.1, subst (λ (m : StreamMetadata). ReadsStart left left_after (Ok m)) (sym is.0) read)
start_told left left_after in_memory before after (Ok metadata) (Err error) read is =
    device_refused left left_after in_memory before after error is.0
start_told left left_after in_memory before after (Err error) (Ok metadata) read is = absurd is
start_told left left_after in_memory before after (Err error) (Err answered) read is =
    start_named left left_after in_memory before after error answered read is

pub ruleset starts = (start_refused, start_waits, start_ends, start_read)
