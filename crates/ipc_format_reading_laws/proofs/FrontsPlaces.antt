-- Nodes, buffers, validity and offsets are read the same where some nodes and buffers before them are taken off.
use Rattle.std.proofs.Common.{◌≡◌, ◌∙◌, ℕ, zero, suc, ◌+◌, ◌*◌, ◌/◌, pos, ◌&&◌, List, [], ◌∷◌, drop, refl, ap, ap₂, arith}
use Rattle.std.proofs.Common.{zero-add, nat_lt, ◌==◌}
use Rattle.std.specs.Prelude.{Option, Some, None, slice_get, int_lt, if◌then◌else◌}
use Rattle.std.specs.Int.{Width, byte_len}
use Rattle.std.proofs.Math.Nat.{add_assoc}
use Rattle.ipc_format_laws.specs.flatbuffers.Reading.{◌>>=◌}
use Rattle.ipc_format_laws.specs.columns.Slots.{window}
use Rattle.ipc_format_laws.specs.grammar.Messages.{FieldNode, Buffer}
use Rattle.ipc_format_laws.specs.grammar.Values.{signed_of, element_bytes}
use Rattle.ipc_format_laws.specs.grammar.Columns.{Source, Place, Validity, all_valid, bitmap, buffer_at, validity_in, marked_in}
use Rattle.ipc_format_laws.specs.grammar.Columns.{rising, offsets_in, first_below}

-- ---- places

-- a place so many nodes and buffers further on
abbrev pub further : ℕ → ℕ → Place → Place
further i j at = record at { node = i + at.node; buffer = j + at.buffer }

-- a batch whose first nodes and buffers are taken off
abbrev pub without : ℕ → ℕ → Source → Source
without i j source = record source { nodes = drop i source.nodes; buffers = drop j source.buffers }

-- the same place in such a batch
abbrev pub within : ℕ → ℕ → Place → Place
within i j at = record at { source = without i j at.source }

-- What is found at a place is found where nodes and buffers before it are taken off.
abbrev pub Moves : {A : Type 0} → (Place → A) → Type 0
Moves found = (i j : ℕ) (at : Place) → found (further i j at) ≡ found (within i j at)

-- so is what is found below a column
pub moves_below : {A : Type 0} (found : Place → A) → Moves found → (i j : ℕ) (at : Place) (own : ℕ) (limit : Option ℕ)
    → found (first_below (further i j at) own limit) ≡ found (first_below (within i j at) own limit)
moves_below found moves i j at own limit =
    ap₂ (λ n m. found (record (first_below at own limit) { node = n; buffer = m })) (add_assoc i at.node 1) (add_assoc j at.buffer own)
    ∙ moves i j (first_below at own limit)

-- ---- one thing after another

after_same : {A B : Type 0} (r : Option A) (f g : A → Option B) → ((x : A) → f x ≡ g x) → (r >>= f) ≡ (r >>= g)
after_same None f g each = refl
after_same (Some x) f g each = each x

-- what follows the same thing, where it is the same for each
pub both_same : {A B : Type 0} (r s : Option A) (f g : A → Option B) → r ≡ s → ((x : A) → f x ≡ g x) → (r >>= f) ≡ (s >>= g)
both_same r s f g e each = ap (λ o. o >>= f) e ∙ after_same s f g each

-- ---- nodes and buffers

get_further : {A : Type 0} (n k : ℕ) (xs : List A) → slice_get xs (n + k) ≡ slice_get (drop n xs) k
get_further zero k xs = ap (slice_get xs) (zero-add k)
get_further (suc n) k [] = refl
get_further (suc n) k (x ∷ xs) =
    let next : suc n + k ≡ suc (n + k) = omega arith in
    ap (slice_get (x ∷ xs)) next ∙ get_further n k xs

pub get_moved : {A : Type 0} (n k place : ℕ) (xs : List A) → place ≡ n + k → slice_get xs place ≡ slice_get (drop n xs) k
get_moved n k place xs is = ap (slice_get xs) is ∙ get_further n k xs

pub buffer_moved : (i j : ℕ) (source : Source) (k place needed : ℕ) → place ≡ j + k
    → buffer_at source place needed ≡ buffer_at (without i j source) k needed
unfolding buffer_at
buffer_moved i j source k place needed is =
    both_same _ _ _ _ (get_moved j k place source.buffers is) (λ (buffer : Buffer). refl)

-- ---- validity

validity_moved : (i j : ℕ) (source : Source) (node : FieldNode) (k place taken : ℕ) → place ≡ j + k
    → validity_in source node place taken ≡ validity_in (without i j source) node k taken
unfolding validity_in
validity_moved i j source node k place taken is =
    both_same _ _ _ _ (get_moved j k place source.buffers is) (λ (buffer : Buffer).
    ap (λ (bits : Option (List ℕ)). if int_lt (pos 0) node.null_count then (bits >>= (λ bits. Some (bitmap bits))) else Some all_valid)
    (buffer_moved i j source k place ((taken + 7) / 8) is))

pub marked_moves : Moves marked_in
unfolding marked_in
marked_moves i j at =
    both_same _ _ _ _ (get_moved i at.node (i + at.node) at.source.nodes refl) (λ (node : FieldNode).
    both_same _ _ _ _ refl (λ (taken : ℕ).
    both_same _ _ _ _ (validity_moved i j at.source node at.buffer (j + at.buffer) taken refl) (λ (validity : Validity). refl)))

-- ---- offsets

pub offsets_moved : (w : Width) (i j : ℕ) (source : Source) (k place taken : ℕ) → place ≡ j + k
    → offsets_in w source place taken ≡ offsets_in w (without i j source) k taken
unfolding offsets_in
offsets_moved w i j source k place taken is =
    both_same _ _ _ _ (get_moved j k place source.buffers is) (λ (buffer : Buffer).
    both_same _ _ _ _ refl (λ (stated : ℕ).
    ap (λ (numbers : Option (List ℕ)). if (taken == 0) && nat_lt stated (byte_len w) then Some (0 ∷ []) else (numbers >>= (λ numbers.
    rising 0 (window (λ i. signed_of source.is_little_endian w (element_bytes (byte_len w) numbers i)) 0 (taken + 1)))))
    (buffer_moved i j source k place ((taken + 1) * byte_len w) is)))
