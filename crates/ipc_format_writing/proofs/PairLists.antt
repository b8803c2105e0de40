-- Pairs laid one after another.
use Rattle.std.proofs.Common.{◌≡◌, ◌∙◌, ℕ, List, [], ◌∷◌, ◌++◌, map, true, false, refl, sym, ap, subst, arith, append_assoc, length-append}
use Rattle.std.specs.Prelude.{Bool, cond, filter, Option, Some, Result, Err}
use Rattle.std.proofs.lemmas.List.{map-append, append-nil}
use Rattle.ipc_format_messages.specs.flatbuffers.declared.Laid.{Laid}
use Rattle.ipc_format_messages.specs.flatbuffers.declared.LayError.{LayError}
use Rattle.ipc_format_messages.specs.flatbuffers.declared.LayError.TheVariants.{Memory, TooLong}
use Rattle.ipc_format_messages.specs.flatbuffers.Laying.{Piece, references_piece}
use Rattle.ipc_format_messages.specs.flatbuffers.Objects.{pieces_of}
use Rattle.ipc_format_messages.specs.flatbuffers.Views.{Lays, piece_view}
use Rattle.ipc_format_messages.specs.grammar.SchemaObjects.{pair_objects, metadata_object, extension_pairs, written_pairs}
use Rattle.ipc_format_writing.specs.Pieces.{Pair, LaysIf, LaysAll, piece_if, vector_if, pair_piece, is_kept}
use Rattle.std.specs.Map.{keys_of}
use Rattle.std.specs.List.Sorted.{IsStrictlySortedBy}
use Rattle.std.specs.Ordering.{nat_cmp}
use Rattle.std.specs.Cmp.Lexicographic.{slice_cmp}
use Rattle.ipc_format_writing.proofs.KeptPairs.{kept_pairs}
use Rattle.ipc_format_writing.proofs.Sizes.{bytes_of_all, vector_over, append_over, references_over}

pieces_are : (pairs : List Pair) → pieces_of (pair_objects pairs) ≡ map pair_piece pairs
pieces_are [] = refl
pieces_are (pair ∷ pairs) = ap (λ rest. pair_piece pair ∷ rest) (pieces_are pairs)

-- the vector of all pairs
pub vector_is : (pairs : List Pair) → vector_if (map pair_piece pairs) ≡ piece_if (metadata_object pairs)
vector_is [] = refl
vector_is (pair ∷ pairs) = ap (λ pieces. Some (references_piece pieces)) (sym (pieces_are (pair ∷ pairs)))

-- some of the pieces of a vector that can't be laid keep it from it
pub part_refused : (error : LayError) (first : List Piece) (p : Piece) (others : List Piece) → Lays (Err error) p
    → LaysIf (Err error) (vector_if (first ++ p ∷ others))
part_refused TooLong [] p others h = omega (arith, references_over [] p others)
part_refused TooLong (q ∷ first) p others h = omega (arith, references_over (q ∷ first) p others)
part_refused Memory first p others h = tt

pub parts_refused : (error : LayError) (first others : List Piece) → LaysAll (Err error) first → LaysIf (Err error) (vector_if (first ++ others))
parts_refused TooLong [] others h = absurd (omega arith)
parts_refused TooLong (q ∷ first) others h = omega (arith, vector_over (q ∷ first ++ others), append_over (q ∷ first) others)
parts_refused Memory first others h = tt

pub pair_refused : (error : LayError) (made : List Laid) (pair : Pair) (others pairs : List Pair) → map piece_view made ++ map pair_piece (pair
    ∷ others) ≡ map pair_piece pairs
    → Lays (Err error) (pair_piece pair) → LaysIf (Err error) (piece_if (metadata_object pairs))
pair_refused error made pair others pairs whole h =
    let P : Option Piece → Type 0 = λ p. LaysIf (Err error) p in
    subst P (ap vector_if whole ∙ vector_is pairs) (part_refused error (map piece_view made) (pair_piece pair) (map pair_piece others) h)

pub pair_made : (made new : List Laid) (laid : Laid) (pair : Pair) (others pairs : List Pair) → new ≡ made ++ laid ∷ [] → piece_view laid
    ≡ pair_piece pair
    → map piece_view made ++ map pair_piece (pair ∷ others) ≡ map pair_piece pairs → map piece_view new ++ map pair_piece others
    ≡ map pair_piece pairs
pair_made made new laid pair others pairs push same whole =
    ap (λ new. map piece_view new ++ map pair_piece others) push
    ∙ ap (λ views. views ++ map pair_piece others) (map-append piece_view made (laid ∷ []))
    ∙ ap (λ p. (map piece_view made ++ p ∷ []) ++ map pair_piece others) same
    ∙ append_assoc (map piece_view made) (pair_piece pair ∷ []) (map pair_piece others) ∙ whole

pub pairs_made : (result : Result (Option Laid) LayError) (made : List Laid) (pairs : List Pair) → map piece_view made ++ map pair_piece []
    ≡ map pair_piece pairs
    → LaysIf result (vector_if (map piece_view made)) → LaysIf result (piece_if (metadata_object pairs))
pairs_made result made pairs whole h =
    let P : Option Piece → Type 0 = λ p. LaysIf result p in
    subst P (ap vector_if (sym (append-nil (map piece_view made)) ∙ whole) ∙ vector_is pairs) h

-- ---- a field's pairs

-- the pairs of an extension, and then those that are no part of one
abbrev pub all_pairs : List Pair → List Pair → List Pair
all_pairs own others = own ++ filter is_kept others

pub kept_step : (pair : Pair) (others : List Pair) (b : Bool) → b ≡ is_kept pair → filter is_kept (pair ∷ others) ≡ cond b (pair
    ∷ filter is_kept others) (filter is_kept others)
kept_step pair others b e = ap (λ b. cond b (pair ∷ filter is_kept others) (filter is_kept others)) (sym e)

pub kept_here : (made : List Laid) (pair : Pair) (others pairs : List Pair) → true ≡ is_kept pair
    → map piece_view made ++ map pair_piece (filter is_kept (pair ∷ others)) ≡ map pair_piece pairs
    → map piece_view made ++ map pair_piece (pair ∷ filter is_kept others) ≡ map pair_piece pairs
kept_here made pair others pairs e whole = ap (λ ps. map piece_view made ++ map pair_piece ps) (sym (kept_step pair others true e)) ∙ whole

pub dropped_here : (made : List Laid) (pair : Pair) (others pairs : List Pair) → false ≡ is_kept pair
    → map piece_view made ++ map pair_piece (filter is_kept (pair ∷ others)) ≡ map pair_piece pairs
    → map piece_view made ++ map pair_piece (filter is_kept others) ≡ map pair_piece pairs
dropped_here made pair others pairs e whole = ap (λ ps. map piece_view made ++ map pair_piece ps) (sym (kept_step pair others false e)) ∙ whole

pub field_pairs_begin : (made : List Laid) (own others : List Pair) → map piece_view made ≡ map pair_piece own
    → map piece_view made ++ map pair_piece (filter is_kept others) ≡ map pair_piece (all_pairs own others)
field_pairs_begin made own others same =
    ap (λ views. views ++ map pair_piece (filter is_kept others)) same ∙ sym (map-append pair_piece own (filter is_kept others))

pub extension_refused : (error : LayError) (own others : List Pair) → LaysAll (Err error) (map pair_piece own)
    → LaysIf (Err error) (piece_if (metadata_object (all_pairs own others)))
extension_refused error own others h =
    let P : Option Piece → Type 0 = λ p. LaysIf (Err error) p in
    subst P (ap vector_if (sym (map-append pair_piece own (filter is_kept others))) ∙ vector_is (all_pairs own others)) (parts_refused error (map
    pair_piece own) (map pair_piece (filter is_kept others)) h)

-- the pairs as the definition has them
pub field_answer : (result : Result (Option Laid) LayError) (extension : Option (List ℕ × Option (List ℕ))) (pairs : List Pair)
    → IsStrictlySortedBy (slice_cmp nat_cmp) (keys_of pairs)
    → LaysIf result (piece_if (metadata_object (all_pairs (extension_pairs extension) pairs)))
    → LaysIf result (piece_if (metadata_object (written_pairs extension pairs)))
field_answer result extension pairs sorted h =
    let P : List Pair → Type 0 = λ others. LaysIf result (piece_if (metadata_object (extension_pairs extension ++ others))) in
    subst P (sym (kept_pairs pairs sorted)) h

-- a piece that can't be laid keeps those with it from it
pub one_refused : (error : LayError) (first : List Piece) (p : Piece) (others : List Piece) → Lays (Err error) p
    → LaysAll (Err error) (first ++ p ∷ others)
one_refused TooLong first p others h = omega (arith, append_over first (p ∷ others), length-append p.bytes (bytes_of_all others))
one_refused Memory first p others h = tt

pub one_made : (items : List Laid) (laid : Laid) (pair : Pair) → items ≡ laid ∷ [] → piece_view laid ≡ pair_piece pair → map piece_view items
    ≡ map pair_piece (pair ∷ [])
one_made items laid pair e same = ap (map piece_view) e ∙ ap (λ p. p ∷ []) same

pub two_made : (items : List Laid) (a b : Laid) (pair other : Pair) → items ≡ a ∷ b ∷ [] → piece_view a ≡ pair_piece pair → piece_view b
    ≡ pair_piece other
    → map piece_view items ≡ map pair_piece (pair ∷ other ∷ [])
two_made items a b pair other e same too = ap (map piece_view) e ∙ ap (λ p. p ∷ piece_view b ∷ []) same ∙ ap (λ p. pair_piece pair ∷ p ∷ []) too
