-- Custom metadata that is read is of texts, under ascending keys.
use Rattle.std.proofs.Common.{Ordering, ◌≡◌, ◌∙◌, ℕ, zero, suc, ◌+◌, Bool, true, false, cond, ◌&&◌, List, [], ◌∷◌, refl, sym, ap, ap₂}
use Rattle.std.specs.Prelude.{Option, Some, None, nat_eq}
use Rattle.std.specs.declared.cmp.Ordering.TheVariants.{Less, Equal, Greater}
use Rattle.std.specs.List.{list_all}
use Rattle.std.specs.Ordering.{is_lt, nat_cmp}
use Rattle.std.specs.Cmp.Lexicographic.{slice_cmp, pointwise}
use Rattle.std.specs.Str.{is_utf8}
use Rattle.std.proofs.lemmas.Bool.{and_parts}
use Rattle.ipc_format_grammar.specs.columnar_memory.Pairs.{value_at, with_pair}
use Rattle.ipc_format_grammar.specs.flatbuffers.Reading.{◌>>=◌, guard, window_at}
use Rattle.ipc_format_grammar.specs.flatbuffers.FlatBuffers.{TablePlace, Vector, number_at, reference_field, text_at, string_field, element_at}
use Rattle.ipc_format_grammar.specs.flatbuffers.FlatBuffers.{vector_field, if_present}
use Rattle.std.specs.Int.{w32}
use Rattle.ipc_format_grammar.specs.Schemas.{with_found, pairs_from, pairs_of, metadata_in}
use Rattle.ipc_format_laws.specs.Schemas.{is_text_or_none, are_texts, is_below, is_ascending}
use Rattle.ipc_format_laws.specs.NormalForm.{are_sorted}
use Rattle.ipc_format_laws.proofs.Pairs.{sorted_with}
use Rattle.ipc_format_laws.proofs.Given.{Gives, then_gives, each_gives}

abbrev Pairs : Type 0
Pairs = List (List ℕ × List ℕ)

-- ---- strings

guarded : (b : Bool) (text : List ℕ) → is_utf8 text ≡ b → Gives (λ found. is_utf8 found ≡ true) (guard b >>= (λ _. Some text))
guarded true text is = is
guarded false text is = tt

string_gives : (bytes : List ℕ) (place : ℕ) → Gives (λ text. is_utf8 text ≡ true) (text_at bytes place)
unfolding text_at
string_gives bytes place =
    each_gives (λ text. is_utf8 text ≡ true) (number_at w32 bytes place) _ (λ count.
    each_gives (λ text. is_utf8 text ≡ true) (window_at bytes (place + 4) count) _ (λ text.
    guarded (is_utf8 text) text refl))

-- a string that a field refers to is UTF-8, if there is one
pub field_gives_text : (bytes : List ℕ) (table : TablePlace) (slot : ℕ) → Gives (λ text. is_text_or_none text ≡ true) (string_field bytes table slot)
unfolding string_field
field_gives_text bytes table slot =
    each_gives (λ text. is_text_or_none text ≡ true) (reference_field bytes table slot) _ (λ target. by target)
  where
    by : (target : Option ℕ) → Gives (λ text. is_text_or_none text ≡ true) (if_present (text_at bytes) target)
    by None = refl
    by (Some place) = then_gives (λ text. is_utf8 text ≡ true) (λ text. is_text_or_none text ≡ true) (text_at bytes place) _
        (string_gives bytes place) (λ text is. is)

-- ---- pairs

-- pairs of texts, under ascending keys
abbrev pub AreMetadata : Pairs → Type 0
AreMetadata pairs = (are_texts pairs ≡ true) × (is_ascending pairs ≡ true)

below_same : (key : List ℕ) (pairs : Pairs)
    → list_all (λ (other : List ℕ × List ℕ). is_lt (slice_cmp nat_cmp key other.0)) pairs ≡ is_below key pairs
below_same key [] = refl
below_same key (pair ∷ pairs) = ap (λ b. is_lt (slice_cmp nat_cmp key pair.0) && b) (below_same key pairs)

ascending_same : (pairs : Pairs) → are_sorted pairs ≡ is_ascending pairs
ascending_same [] = refl
ascending_same (pair ∷ pairs) = ap₂ (λ a b. a && b) (below_same pair.0 pairs) (ascending_same pairs)

texts_with : (key value : List ℕ) (pairs : Pairs) → is_utf8 key ≡ true → is_utf8 value ≡ true → are_texts pairs ≡ true
    → are_texts (with_pair pairs key value) ≡ true
texts_with key value [] is_key is_value h = rw (is_key, is_value) refl
texts_with key value (pair ∷ pairs) is_key is_value h =
    let parts = and_parts (is_utf8 pair.0 && is_utf8 pair.1) (are_texts pairs) h in
    let first = and_parts (is_utf8 pair.0) (is_utf8 pair.1) parts.0 in
    by (slice_cmp nat_cmp key pair.0) refl first.0 first.1 parts.1 (texts_with key value pairs is_key is_value parts.1)
  where
    by : (r : Ordering) → slice_cmp nat_cmp key pair.0 ≡ r → is_utf8 pair.0 ≡ true → is_utf8 pair.1 ≡ true → are_texts pairs ≡ true
        → are_texts (with_pair pairs key value) ≡ true → are_texts (with_pair (pair ∷ pairs) key value) ≡ true
    by Less e name content others rest = rw (e, is_key, is_value, name, content, others) refl
    by Equal e name content others rest = rw (e, name, is_value, others) refl
    by Greater e name content others rest = rw (e, name, content, rest) refl

-- one more pair that is found
found_kept : (pairs : Pairs) (key value : Option (List ℕ)) → is_text_or_none key ≡ true → is_text_or_none value ≡ true → AreMetadata pairs
    → AreMetadata (with_found pairs key value)
found_kept pairs None value is_key is_value h = h
found_kept pairs (Some key) None is_key is_value h = h
found_kept pairs (Some key) (Some value) is_key is_value h = (
  texts_with key value pairs is_key is_value h.0,
  sym (ascending_same (with_pair pairs key value)) ∙ sorted_with key value pairs (ascending_same pairs ∙ h.1),
)

pairs_give : (bytes : List ℕ) (vector : Vector) (n k : ℕ) (pairs : Pairs) → AreMetadata pairs → Gives AreMetadata (pairs_from bytes vector n k pairs)
pairs_give bytes vector zero k pairs h = h
pairs_give bytes vector (suc n) k pairs h =
    each_gives AreMetadata (element_at bytes vector k) _ (λ table.
    then_gives (λ key. is_text_or_none key ≡ true) AreMetadata (string_field bytes table 0) _ (field_gives_text bytes table 0) (λ key is_key.
    then_gives (λ value. is_text_or_none value ≡ true) AreMetadata (string_field bytes table 1) _ (field_gives_text bytes table 1)
    (λ value is_value. pairs_give bytes vector n (k + 1) (with_found pairs key value) (found_kept pairs key value is_key is_value h))))

-- the metadata that a slot of a table refers to
pub metadata_gives : (bytes : List ℕ) (table : TablePlace) (slot : ℕ) → Gives AreMetadata (metadata_in bytes table slot)
unfolding metadata_in
metadata_gives bytes table slot = each_gives AreMetadata (vector_field bytes table slot 4) _ (λ vector. by vector)
  where
    by : (vector : Option Vector) → Gives AreMetadata (pairs_of bytes vector)
    by None = (refl, refl)
    by (Some vector) = pairs_give bytes vector vector.count 0 [] (refl, refl)

-- what stands under a key is a text
pub value_is_text : (key : List ℕ) (pairs : Pairs) → are_texts pairs ≡ true → is_text_or_none (value_at key pairs) ≡ true
value_is_text key [] h = refl
value_is_text key (pair ∷ pairs) h =
    let parts = and_parts (is_utf8 pair.0 && is_utf8 pair.1) (are_texts pairs) h in
    by (pointwise nat_eq key pair.0) (and_parts (is_utf8 pair.0) (is_utf8 pair.1) parts.0).1 (value_is_text key pairs parts.1)
  where
    by : (b : Bool) → is_utf8 pair.1 ≡ true → is_text_or_none (value_at key pairs) ≡ true
        → is_text_or_none (cond b (Some pair.1) (value_at key pairs)) ≡ true
    by true here rest = here
    by false here rest = rest
