-- The metadata of a message that stands at a place, taken in parts.
use Rattle.std.proofs.Common.{◌≡◌, ◌∙◌, ℕ, zero, suc, ◌+◌, ◌≤◌, ◌<◌, ℤ, pos, negsuc, Bool, true, false, List, length, nat_lt, refl, sym, ap, arith}
use Rattle.std.specs.Prelude.{Option, Some, None, Result, if◌then◌else◌}
use Rattle.std.specs.Int.{w32}
use Rattle.std.proofs.lemmas.Bool.{le-leb, lt-leb}
use Rattle.ipc_format_chunk_writing.specs.Rooms.{ForBytes, IsRefusal, Stays, Told}
use Rattle.ipc_format_chunk_writing.specs.columnar_memory.declared.Error.{Error}
use Rattle.ipc_format_chunk_writing.specs.flatbuffers.FlatBuffers.{signed_at}
use Rattle.ipc_format_chunk_writing.specs.flatbuffers.Reading.{◌>>=◌, window_at}
use Rattle.ipc_format_chunk_writing.specs.grammar.Files.{metadata_of}
use Rattle.ipc_format_chunk_writing.specs.grammar.Framing.{truncated, metadata_then, frame_at, frame_behind, frame_of}
use Rattle.ipc_format_readers.proofs.Binding.{bind_assoc, bind_same}
use Rattle.ipc_format_readers.specs.BlockMessages.{metadata_at, stated_metadata}
use Rattle.ipc_format_readers.specs.MessagesTaken.{TakesMetadataAt, TakesStated}
use Rattle.ipc_format_readers.proofs.Parts.{signed_first, signed_missing, window_at_once, window_inside, window_missing}
use Rattle.ipc_format_readers.proofs.Rooms.{reads_later, refused_later, stays_further, stays_same}

-- ---- behind the marker, or without it

-- the metadata behind the first number at a place
abbrev behind_first : List ℕ → ℕ → ℤ → Option (List ℕ)
behind_first bytes place (negsuc zero) = signed_at w32 bytes (place + 4) >>= (λ stated. stated_metadata bytes stated (place + 8))
behind_first bytes place (negsuc (suc n)) = None
behind_first bytes place (pos n) = stated_metadata bytes (pos n) (place + 4)

of_window : (place n : ℕ) (found : Option (List ℕ))
    → ((found >>= (λ metadata. Some (metadata_then metadata (place + suc n)))) >>= metadata_of) ≡ found
of_window place n None = refl
of_window place n (Some metadata) = refl

of_frame : (bytes : List ℕ) (place : ℕ) (stated : ℤ) → (frame_of bytes stated place >>= metadata_of) ≡ stated_metadata bytes stated place
of_frame bytes place (pos zero) = refl
of_frame bytes place (pos (suc n)) = of_window place n (window_at bytes place (suc n))
of_frame bytes place (negsuc n) = refl

of_behind : (bytes : List ℕ) (place : ℕ) (first : ℤ) → (frame_behind bytes first place >>= metadata_of) ≡ behind_first bytes place first
of_behind bytes place (negsuc zero) =
    bind_assoc {A = ℤ} (signed_at w32 bytes (place + 4)) (λ stated. frame_of bytes stated (place + 8)) metadata_of
    ∙ bind_same {A = ℤ} (signed_at w32 bytes (place + 4)) _ _ (λ stated. of_frame bytes (place + 8) stated)
of_behind bytes place (negsuc (suc n)) = refl
of_behind bytes place (pos n) = of_frame bytes (place + 4) (pos n)

by_test : (bytes : List ℕ) (place : ℕ) (test : Bool) → nat_lt (length bytes) (place + 4) ≡ test → metadata_at bytes place
    ≡ ((if test then Some truncated else (signed_at w32 bytes place >>= (λ first. frame_behind bytes first place))) >>= metadata_of)
unfolding frame_at
by_test bytes place test is =
    ap (λ (t : Bool). (if t then Some truncated else (signed_at w32 bytes place >>= (λ first. frame_behind bytes first place))) >>= metadata_of) is

-- fewer than four bytes
too_few : (bytes : List ℕ) (place : ℕ) → length bytes < place + 4 → metadata_at bytes place ≡ None
too_few bytes place few = by_test bytes place true (le-leb (suc (length bytes)) (place + 4) few)

by_first : (bytes : List ℕ) (place : ℕ) → place + 4 ≤ length bytes
    → metadata_at bytes place ≡ (signed_at w32 bytes place >>= behind_first bytes place)
by_first bytes place inside =
    by_test bytes place false (lt-leb (suc (length bytes)) (place + 4) (omega (arith, inside)))
    ∙ bind_assoc {A = ℤ} (signed_at w32 bytes place) (λ first. frame_behind bytes first place) metadata_of
    ∙ bind_same {A = ℤ} (signed_at w32 bytes place) _ _ (of_behind bytes place)

-- by the four bytes at the place
first_is : (bytes part : List ℕ) (place : ℕ) → window_at bytes place 4 ≡ Some part
    → metadata_at bytes place ≡ (signed_at w32 part 0 >>= behind_first bytes place)
first_is bytes part place there =
    by_first bytes place (window_inside bytes place 4 part there).0
    ∙ ap (λ (first : Option ℤ). first >>= behind_first bytes place) (sym (signed_first w32 bytes part place 4 there (omega arith)))

by_length : (bytes : List ℕ) (place : ℕ) (first : ℤ) → (first ≡ negsuc 0 → ⊥)
    → behind_first bytes place first ≡ stated_metadata bytes first (place + 4)
by_length bytes place (negsuc zero) unmarked = absurd (unmarked refl)
by_length bytes place (negsuc (suc n)) unmarked = refl
by_length bytes place (pos n) unmarked = refl

-- ---- the first four bytes are taken

-- some bytes are those from a place on
abbrev Stand : Told → ℕ → List ℕ → Type 0
Stand told place part = ForBytes told (λ bytes. window_at bytes place 4 ≡ Some part)

by_part : (bytes part : List ℕ) (place : ℕ) (first : Option ℤ) → window_at bytes (place + 0) 4 ≡ Some part → signed_at w32 part 0 ≡ first
    → metadata_at bytes place ≡ (first >>= behind_first bytes place)
by_part bytes part place first there is =
    first_is bytes part place (sym (window_at_once bytes place 4) ∙ there) ∙ ap (λ (found : Option ℤ). found >>= behind_first bytes place) is

pub no_first : (old new : Told) (place : ℕ) (error : Error)
    → IsRefusal false old new (ForBytes old (λ bytes. window_at bytes (place + 0) 4 ≡ None)) error
    → IsRefusal false old new (ForBytes old (λ bytes. metadata_at bytes place ≡ None)) error
no_first old new place error refused =
    refused_later false old old new (λ bytes. window_at bytes (place + 0) 4 ≡ None) (λ bytes. metadata_at bytes place ≡ None) error
    (stays_same old)
    (λ bytes e none. too_few bytes place (window_missing bytes place 4 (sym (window_at_once bytes place 4) ∙ none))) refused

pub no_number : (old : Told) (place : ℕ) (part : List ℕ) → Stand old (place + 0) part → signed_at w32 part 0 ≡ None
    → (false ≡ false) × ForBytes old (λ bytes. metadata_at bytes place ≡ None)
no_number old place part there none = (refl, λ bytes e. by_part bytes part place None (there bytes e) none)

-- they are the length
pub without_marker : {A : Type 0} (old now new : Told) (place : ℕ) (part metadata : List ℕ) (first : ℤ) (result : Result A Error)
    → Stays old now → Stand old (place + 0) part → signed_at w32 part 0 ≡ Some first → (first ≡ negsuc 0 → ⊥)
    → TakesStated now new first (place + 4) metadata result → TakesMetadataAt old new place metadata result
without_marker old now new place part metadata first result stays there is unmarked takes =
    reads_later false old now new (λ done. metadata) (λ bytes. stated_metadata bytes first (place + 4)) (λ bytes. metadata_at bytes place) result
    stays (λ bytes e. by_part bytes part place (Some first) (there bytes e) is ∙ by_length bytes place first unmarked) takes

-- ---- they are the marker

pub no_second : (old now new : Told) (place : ℕ) (part : List ℕ) (error : Error) → Stays old now → Stand old (place + 0) part
    → signed_at w32 part 0 ≡ Some (negsuc 0) → IsRefusal false now new (ForBytes now (λ bytes. window_at bytes (place + 4) 4 ≡ None)) error
    → IsRefusal false old new (ForBytes old (λ bytes. metadata_at bytes place ≡ None)) error
no_second old now new place part error stays there is refused =
    refused_later false old now new (λ bytes. window_at bytes (place + 4) 4 ≡ None) (λ bytes. metadata_at bytes place ≡ None) error stays
    (λ bytes e none. by_part bytes part place (Some (negsuc 0)) (there bytes e) is
    ∙ ap (λ (stated : Option ℤ). stated >>= (λ s. stated_metadata bytes s (place + 8))) (signed_missing w32 bytes (place + 4) none)) refused

by_second : (bytes part second : List ℕ) (place : ℕ) (stated : Option ℤ) → window_at bytes (place + 0) 4 ≡ Some part
    → signed_at w32 part 0 ≡ Some (negsuc 0) → window_at bytes (place + 4) 4 ≡ Some second → signed_at w32 second 0 ≡ stated
    → metadata_at bytes place ≡ (stated >>= (λ s. stated_metadata bytes s (place + 8)))
by_second bytes part second place stated there is behind says =
    by_part bytes part place (Some (negsuc 0)) there is
    ∙ ap (λ (found : Option ℤ). found >>= (λ s. stated_metadata bytes s (place + 8)))
    (sym (signed_first w32 bytes second (place + 4) 4 behind (omega arith)) ∙ says)

pub no_second_number : (old now : Told) (place : ℕ) (part second : List ℕ) → Stays old now → Stand old (place + 0) part
    → signed_at w32 part 0 ≡ Some (negsuc 0) → Stand now (place + 4) second → signed_at w32 second 0 ≡ None
    → (false ≡ false) × ForBytes old (λ bytes. metadata_at bytes place ≡ None)
no_second_number old now place part second stays there is behind none =
    (refl, λ bytes e. by_second bytes part second place None (there bytes e) is (behind bytes (stays.0 ∙ e)) none)

pub behind_marker : {A : Type 0} (old now later new : Told) (place : ℕ) (part second metadata : List ℕ) (stated : ℤ) (result : Result A Error)
    → Stays old now → Stand old (place + 0) part → signed_at w32 part 0 ≡ Some (negsuc 0) → Stays now later → Stand now (place + 4) second
    → signed_at w32 second 0 ≡ Some stated → TakesStated later new stated (place + 8) metadata result
    → TakesMetadataAt old new place metadata result
behind_marker old now later new place part second metadata stated result stays there is stays_on behind says takes =
    reads_later false old later new (λ done. metadata) (λ bytes. stated_metadata bytes stated (place + 8)) (λ bytes. metadata_at bytes place) result
    (stays_further old now later stays stays_on)
    (λ bytes e. by_second bytes part second place (Some stated) (there bytes e) is (behind bytes (stays.0 ∙ e)) says) takes
