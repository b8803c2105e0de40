-- The nodes and buffers of written columns, read in a batch that has them.
use Rattle.std.proofs.Common.{◌≡◌, ◌∙◌, ℕ, suc, ◌+◌, ◌-◌, true, List, [], ◌∷◌, ◌++◌}
use Rattle.std.proofs.Common.{length, map, replicate, refl, sym, ap, arith, add-zero, zero-add, length-append, append-nil}
use Rattle.std.proofs.Common.{nat_le}
use Rattle.std.specs.Prelude.{Some, slice_get}
use Rattle.std.specs.Option.{option_map}
use Rattle.std.proofs.lemmas.Option.{slice_get-map}
use Rattle.std.specs.Int.{next_multiple_of}
use Rattle.std.proofs.lemmas.Bool.{le-leb}
use Rattle.std.proofs.lemmas.Grind.{flat_map-append}
use Rattle.ipc_format_grammar.specs.flatbuffers.Reading.{window_at}
use Rattle.ipc_format_laws.proofs.Places.{Stands, front, back, window_stands}
use Rattle.ipc_format_laws.proofs.Contents.{stands_window}
use Rattle.ipc_format_laws.specs.BatchMessages.{stated_buffer}
use Rattle.ipc_format_grammar.specs.Columns.{Source, buffer_at}
use Rattle.ipc_format_grammar.specs.Encoding.{Encoded}
use Rattle.ipc_format_grammar.specs.WrittenMessages.{padded_buffer, buffer_places, body_bytes}
use Rattle.ipc_format_laws.specs.Columns.{StandsAt, HoldsColumns}
use Rattle.ipc_format_laws.proofs.Elements.{part_first}

-- ---- nodes and buffers by their numbers

-- what stands among things that were made of others, one each
pub made_reads : {A B : Type 0} (make : A → B) (made : List B) (all : List A) (k : ℕ) (x : A) (rest : List A)
    → made ≡ map make all → StandsAt all k (x ∷ rest) → slice_get made k ≡ Some (make x)
made_reads make made all k x rest is s =
    ap (λ xs. slice_get xs k) is ∙ slice_get-map make all k ∙ ap (option_map make) (part_first x rest s)

-- ---- places of buffers

sum_before : (offset a b : ℕ) → offset + a + b ≡ offset + (a + b)
sum_before offset a b = omega arith

-- the places of buffers behind others begin where the others' bytes end
pub places_append : (offset : ℕ) (first second : List (List ℕ)) →
    buffer_places offset (first ++ second) ≡ buffer_places offset first ++ buffer_places (offset + length (body_bytes first)) second
places_append offset [] second = ap (λ k. buffer_places k second) (sym (add-zero offset))
places_append offset (bytes ∷ first) second =
    let place : offset + length (padded_buffer bytes) + length (body_bytes first) ≡ offset + length (body_bytes (bytes ∷ first)) =
    sum_before offset (length (padded_buffer bytes)) (length (body_bytes first))
    ∙ ap (λ k. offset + k) (sym (length-append (padded_buffer bytes) (body_bytes first))) in
    ap (λ (rest : List (ℕ × ℕ)). (offset, length bytes) ∷ rest)
    (places_append (offset + length (padded_buffer bytes)) first second
    ∙ ap (λ k. buffer_places (offset + length (padded_buffer bytes)) first ++ buffer_places k second) place)

places_count : (offset : ℕ) (buffers : List (List ℕ)) → length (buffer_places offset buffers) ≡ length buffers
places_count offset [] = refl
places_count offset (bytes ∷ buffers) = ap suc (places_count (offset + length (padded_buffer bytes)) buffers)

place_stands : (buffers : List (List ℕ)) (k : ℕ) (bytes : List ℕ) (rest : List (List ℕ)) (s : StandsAt buffers k (bytes ∷ rest))
    → StandsAt (buffer_places 0 buffers) k
    ((0 + length (body_bytes s.before), length bytes)
    ∷ buffer_places (0 + length (body_bytes s.before) + length (padded_buffer bytes)) (rest ++ s.after))
place_stands buffers k bytes rest s = record {
  before = buffer_places 0 s.before;
  after = [];
  whole = ap (λ (b : List (List ℕ)). buffer_places 0 b) s.whole ∙ places_append 0 s.before (bytes ∷ (rest ++ s.after))
      ∙ ap (λ (more : List (ℕ × ℕ)). buffer_places 0 s.before ++ more) (sym (append-nil (buffer_places
      (0 + length (body_bytes s.before)) (bytes ∷ (rest ++ s.after)))));
  at = places_count 0 s.before ∙ s.at;
}

-- ---- a buffer's bytes

body_parts : (buffers : List (List ℕ)) (k : ℕ) (bytes : List ℕ) (rest : List (List ℕ)) (s : StandsAt buffers k (bytes ∷ rest))
    → body_bytes buffers ≡ body_bytes s.before ++ (padded_buffer bytes ++ body_bytes (rest ++ s.after))
body_parts buffers k bytes rest s = ap body_bytes s.whole ∙ flat_map-append padded_buffer s.before (bytes ∷ (rest ++ s.after))

-- where a buffer begins, and how many bytes it states
pub place_reads : (source : Source) (all : Encoded) (k : ℕ) (bytes : List ℕ) (rest : List (List ℕ)) → HoldsColumns source all
    → (s : StandsAt all.buffers k (bytes ∷ rest))
    → slice_get source.buffers k ≡ Some (stated_buffer (0 + length (body_bytes s.before), length bytes))
place_reads source all k bytes rest holds s =
    let place : ℕ = 0 + length (body_bytes s.before) in
    made_reads stated_buffer source.buffers (buffer_places 0 all.buffers) k (place, length bytes)
    (buffer_places (place + length (padded_buffer bytes)) (rest ++ s.after)) holds.buffers (place_stands all.buffers k bytes rest s)

-- the bytes of a buffer, where it stands among written ones
pub buffer_reads : (source : Source) (all : Encoded) (k needed : ℕ) (bytes : List ℕ) (rest : List (List ℕ)) → HoldsColumns source all
    → StandsAt all.buffers k (bytes ∷ rest) → needed ≡ length bytes → buffer_at source k needed ≡ Some bytes
unfolding buffer_at
buffer_reads source all k needed bytes rest holds s enough =
    let place : ℕ = 0 + length (body_bytes s.before) in
    let buffer = place_reads source all k bytes rest holds s in
    let stated : nat_le needed (length bytes) ≡ true = le-leb needed (length bytes) (omega arith) in
    let whole : Stands source.room source.origin (body_bytes all.buffers) =
    stands_window (length (body_bytes all.buffers)) (body_bytes all.buffers) holds.body in
    let behind : Stands source.room (source.origin + place) (padded_buffer bytes ++ body_bytes (rest ++ s.after)) =
    back (body_bytes s.before) (padded_buffer bytes ++ body_bytes (rest ++ s.after)) (source.origin + place)
    (body_parts all.buffers k bytes rest s) (ap (λ j. source.origin + j) (zero-add (length (body_bytes s.before)))) whole in
    let padded : Stands source.room (source.origin + place) (padded_buffer bytes) =
    front (padded_buffer bytes) (body_bytes (rest ++ s.after)) refl behind in
    let here : Stands source.room (source.origin + place) bytes =
    front bytes (replicate (next_multiple_of (length bytes) 64 - length bytes) 0) refl padded in
    let seen : window_at source.room (source.origin + place) needed ≡ Some bytes = window_stands needed enough here in
    rw (buffer, stated, seen) refl
