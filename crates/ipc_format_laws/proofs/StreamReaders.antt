-- One thing read after another.
use Rattle.std.proofs.Common.{◌≡◌, ℤ, pos, List, ℕ, refl, sym, ap, ◌∙◌, Bool, true, false}
use Rattle.std.specs.Prelude.{Option, Some, None}
use Rattle.std.specs.Int.{w8}
use Rattle.ipc_format_grammar.specs.flatbuffers.Reading.{◌>>=◌, guard}
use Rattle.ipc_format_grammar.specs.flatbuffers.FlatBuffers.{TablePlace, root_of, number_field, table_field}
use Rattle.ipc_format_grammar.specs.Messages as grammar
use Rattle.ipc_format_grammar.specs.Messages.{Header, Message, message_in, header_of, body_length_of}

-- where something follows, there was something to follow
pub came_of : {A B : Type 0} (r : Option A) (f : A → Option B) (y : B) → (r >>= f) ≡ Some y → (x : A) × (r ≡ Some x) × (f x ≡ Some y)
came_of None f y e = absurd cc
came_of (Some x) f y e = (x, refl, e)

-- where something follows a test, the test is true
pub passed : {A : Type 0} (test : Bool) (r : Option A) (y : A) → (guard test >>= (λ _. r)) ≡ Some y → (test ≡ true) × (r ≡ Some y)
passed true r y e = (refl, e)
passed false r y e = absurd cc

abbrev told : Header → ℤ → Option Message
told header length = Some (record { header = header; body_length = length })

abbrev length_or : ℤ → Option ℤ → ℤ
length_or other None = other
length_or other (Some length) = length

abbrev told_length : Option Message → ℤ
told_length None = pos 0
told_length (Some message) = message.body_length

abbrev told_header : Header → Option Message → Header
told_header other None = other
told_header other (Some message) = message.header

-- a message of a schema has no body
schema_length : (bytes : List ℕ) (root table : TablePlace) (header : Header) (found length : ℤ) → body_length_of bytes root header ≡ Some found
    → told header found ≡ told (grammar.schema table) length
    → length ≡ pos 0
schema_length bytes root table (grammar.schema other) found length is same =
    let first : pos 0 ≡ found = ap (length_or found) is in
    let second : found ≡ length = ap told_length same in
    sym second ∙ sym first
schema_length bytes root table (grammar.dictionary_batch other) found length is same =
    let other_header : grammar.dictionary_batch other ≡ grammar.schema table = ap (told_header (grammar.schema table)) same in absurd cc
schema_length bytes root table (grammar.record_batch other) found length is same =
    let other_header : grammar.record_batch other ≡ grammar.schema table = ap (told_header (grammar.schema table)) same in absurd cc

pub schema_has_no_body : (bytes : List ℕ) (table : TablePlace) (length : ℤ)
    → message_in bytes ≡ Some (record { header = grammar.schema table; body_length = length }) → length ≡ pos 0
unfolding message_in
schema_has_no_body bytes table length e =
    let message : Message = record { header = grammar.schema table; body_length = length } in
    let root = came_of {A = TablePlace} (root_of bytes) _ message e in
    let tag = came_of {A = ℕ} (number_field w8 bytes root.0 1 0) _ message root.2 in
    let found = came_of {A = Option TablePlace} (table_field bytes root.0 2) _ message tag.2 in
    let its_table = came_of {A = TablePlace} found.0 _ message found.2 in
    let header = came_of {A = Header} (header_of tag.0 its_table.0) _ message its_table.2 in
    let its_length = came_of {A = ℤ} (body_length_of bytes root.0 header.0) _ message header.2 in
    schema_length bytes root.0 table header.0 its_length.0 length its_length.1 its_length.2
