-- What the pairs of custom metadata give back.
use Rattle.std.proofs.Common.{◌≡◌, ℕ, ◌+◌, List, [], ◌∷◌, refl, add-one}
use Rattle.std.specs.Prelude.{Some}
use Rattle.ipc_format_grammar.specs.flatbuffers.FlatBuffers.{TablePlace, Vector}
use Rattle.ipc_format_grammar.specs.flatbuffers.Objects.{Fields, text, no_field, refers_then}
use Rattle.ipc_format_laws.specs.Spelling.{SpellsFields, SpellsObjects, count_of}
use Rattle.ipc_format_laws.proofs.Readers.{absent_reads, texts_read, each_read, references_read}
use Rattle.ipc_format_grammar.specs.columnar_memory.Pairs.{with_pair}
use Rattle.ipc_format_grammar.specs.Schemas.{pairs_from, metadata_in}
use Rattle.ipc_format_grammar.specs.SchemaObjects.{refers_if, pair_objects, metadata_object}

-- pairs joined to others, one after the other
abbrev pub joined : List (List ℕ × List ℕ) → List (List ℕ × List ℕ) → List (List ℕ × List ℕ)
joined before [] = before
joined before (pair ∷ pairs) = joined (with_pair before pair.0 pair.1) pairs

pairs_read : (bytes : List ℕ) (vector : Vector) (k : ℕ) (before pairs : List (List ℕ × List ℕ)) → SpellsObjects bytes vector k (pair_objects pairs)
    → pairs_from bytes vector (count_of (pair_objects pairs)) k before ≡ Some (joined before pairs)
pairs_read bytes vector k before [] s = refl
pairs_read bytes vector k before (pair ∷ pairs) s =
    let read = each_read bytes vector k (refers_then (text pair.0) (refers_then (text pair.1) no_field)) s.here in
    let key = texts_read bytes read.child 0 pair.0 read.slots.here in
    let value = texts_read bytes read.child 1 pair.1 read.slots.rest.here in
    let others = pairs_read bytes vector (k + 1) (with_pair before pair.0 pair.1) pairs s.rest in
    rw (add-one, read.table, key, value) others

-- a slot of custom metadata
pub metadata_reads : (bytes : List ℕ) (found : TablePlace) (slot : ℕ) (pairs : List (List ℕ × List ℕ)) (fields : Fields)
    → SpellsFields bytes found slot (refers_if (metadata_object pairs) fields) → metadata_in bytes found slot ≡ Some (joined [] pairs)
unfolding metadata_in
metadata_reads bytes found slot [] fields s = rw ((absent_reads bytes found slot s.here).vector 4) refl
metadata_reads bytes found slot (pair ∷ pairs) fields s =
    let read = references_read bytes found slot (pair_objects (pair ∷ pairs)) s.here in
    rw (read.vector, read.count_is) (pairs_read bytes read.child 0 [] (pair ∷ pairs) read.each)
