-- Nodes, buffers, validity and offsets are read the same at places that stand alike.
use Rattle.std.proofs.Common.{◌≡◌, ◌∙◌, ◌⊎◌, ℕ, zero, suc, ◌+◌, ◌*◌, ◌/◌, ◌^◌, ◌<◌, ◌≤◌, pos, ◌&&◌, List, [], ◌∷◌, refl, sym, ap, arith}
use Rattle.std.proofs.Common.{add-zero, nat_lt, ◌==◌, inl, inr}
use Rattle.std.specs.Prelude.{Option, Some, None, slice_get, int_lt, if◌then◌else◌}
use Rattle.std.specs.Int.{Width, byte_len}
use Rattle.std.proofs.Math.Nat.{add_assoc, le-mul_of_pos_right, mul-zero, min-eq_right}
use Rattle.ipc_format_array_reading.specs.flatbuffers.Reading.{◌>>=◌}
use Rattle.ipc_format_array_reading.specs.columns.Slots.{window}
use Rattle.ipc_format_array_reading.specs.grammar.Messages.{FieldNode, Buffer, natural}
use Rattle.ipc_format_array_reading.specs.grammar.Values.{signed_of, element_bytes}
use Rattle.ipc_format_array_reading.specs.grammar.Columns.{Place, Validity, all_valid, bitmap, buffer_at, validity_in, marked_in}
use Rattle.ipc_format_array_reading.specs.grammar.Columns.{taken_in, taken_of, limit_times, rising, offsets_in, first_below}
use Rattle.ipc_format_array_reading.specs.Limits.{IsBig}

-- ---- places

-- the nodes and buffers that a column is read from, where in them it stands, and its limit
pub record Spot : Type 0 where
  pub nodes : List FieldNode
  pub buffers : List Buffer
  pub node : ℕ
  pub buffer : ℕ
  pub limit : Option ℕ

-- a place moved to a spot: all else is kept
abbrev pub put : Spot → Place → Place
put spot at = record at {
  source = record at.source { nodes = spot.nodes; buffers = spot.buffers };
  limit = spot.limit;
  node = spot.node;
  buffer = spot.buffer;
}

-- no node from a place on has 2^63 slots or more
abbrev pub SmallFrom : List FieldNode → ℕ → Type 0
SmallFrom nodes place =
    (k : ℕ) (node : FieldNode) (n : ℕ) → slice_get nodes (place + k) ≡ Some node → natural node.length ≡ Some n → n < 2 ^ 63

-- limits that take the same of each column from a place on
abbrev pub LimitsAgree : List FieldNode → ℕ → Option ℕ → Option ℕ → Type 0
LimitsAgree nodes place old new = (old ≡ new) ⊎ (SmallFrom nodes place × IsBig old × IsBig new)

-- the same nodes and buffers stand from a place on as from a spot on, and limits agree
pub record StandsAlike (at : Place) (spot : Spot) : Type 0 where
  pub nodes : (k : ℕ) → slice_get at.source.nodes (at.node + k) ≡ slice_get spot.nodes (spot.node + k)
  pub buffers : (k : ℕ) → slice_get at.source.buffers (at.buffer + k) ≡ slice_get spot.buffers (spot.buffer + k)
  pub limits : LimitsAgree at.source.nodes at.node at.limit spot.limit

-- What is found at a place is found at each spot that stands alike.
abbrev pub Agrees : {A : Type 0} → (Place → A) → Type 0
Agrees found = (at : Place) (spot : Spot) → StandsAlike at spot → found at ≡ found (put spot at)

-- ---- further on

get_further : {A : Type 0} (xs ys : List A) (m n d k : ℕ) → ((k : ℕ) → slice_get xs (m + k) ≡ slice_get ys (n + k))
    → slice_get xs (m + d + k) ≡ slice_get ys (n + d + k)
get_further xs ys m n d k same =
    ap (slice_get xs) (add_assoc m d k) ∙ same (d + k) ∙ ap (slice_get ys) (sym (add_assoc n d k))

pub small_further : (nodes : List FieldNode) (place d : ℕ) → SmallFrom nodes place → SmallFrom nodes (place + d)
small_further nodes place d small k node n found is =
    small (d + k) node n (ap (slice_get nodes) (sym (add_assoc place d k)) ∙ found) is

pub limits_further : (nodes : List FieldNode) (place d : ℕ) (old new : Option ℕ) → LimitsAgree nodes place old new
    → LimitsAgree nodes (place + d) old new
limits_further nodes place d old new (inl same) = inl same
limits_further nodes place d old new (inr both) = inr (small_further nodes place d both.0, both.1, both.2)

-- limits of the items of lists of one size
pub limits_times : (nodes : List FieldNode) (place d : ℕ) (old new : Option ℕ) (size : ℕ) → LimitsAgree nodes place old new
    → LimitsAgree nodes (place + d) (limit_times old size) (limit_times new size)
limits_times nodes place d old new size (inl same) = inl (ap (λ limit. limit_times limit size) same)
limits_times nodes place d None new size (inr both) = absurd both.1
limits_times nodes place d (Some old) None size (inr both) = absurd both.2
limits_times nodes place d (Some old) (Some new) zero (inr both) = inl (ap Some (mul-zero old ∙ sym (mul-zero new)))
limits_times nodes place d (Some old) (Some new) (suc size) (inr both) =
    let some : 0 < suc size = omega arith in
    let old_big : 2 ^ 63 ≤ old * suc size = omega (arith, both.1, le-mul_of_pos_right old some) in
    let new_big : 2 ^ 63 ≤ new * suc size = omega (arith, both.2, le-mul_of_pos_right new some) in
    inr (small_further nodes place d both.0, old_big, new_big)

-- a spot so many nodes and buffers further on, under another limit
abbrev pub spot_further : Spot → ℕ → ℕ → Option ℕ → Spot
spot_further spot i j limit = record spot { node = spot.node + i; buffer = spot.buffer + j; limit = limit }

abbrev pub place_further : Place → ℕ → ℕ → Option ℕ → Place
place_further at i j limit = record at { node = at.node + i; buffer = at.buffer + j; limit = limit }

pub alike_further : (at : Place) (spot : Spot) (i j : ℕ) (old new : Option ℕ) → StandsAlike at spot
    → LimitsAgree at.source.nodes (at.node + i) old new → StandsAlike (place_further at i j old) (spot_further spot i j new)
alike_further at spot i j old new alike limits = record {
  nodes = λ k. get_further at.source.nodes spot.nodes at.node spot.node i k alike.nodes;
  buffers = λ k. get_further at.source.buffers spot.buffers at.buffer spot.buffer j k alike.buffers;
  limits = limits;
}

-- what is found below a column
pub agrees_below : {A : Type 0} (found : Place → A) → Agrees found → (at : Place) (spot : Spot) (own : ℕ) (old new : Option ℕ)
    → StandsAlike at spot → LimitsAgree at.source.nodes (at.node + 1) old new
    → found (first_below at own old) ≡ found (first_below (put spot at) own new)
agrees_below found agrees at spot own old new alike limits =
    let below = alike_further at spot 1 own old new alike limits in
    agrees (first_below at own old) (spot_further spot 1 own new)
    (record { nodes = below.nodes; buffers = below.buffers; limits = below.limits })

-- ---- one thing after another

after_same : {A B : Type 0} (r : Option A) (f g : A → Option B) → ((x : A) → r ≡ Some x → f x ≡ g x) → (r >>= f) ≡ (r >>= g)
after_same None f g each = refl
after_same (Some x) f g each = each x refl

-- what follows the same thing, where it is the same for each
pub both_known : {A B : Type 0} (r s : Option A) (f g : A → Option B) → r ≡ s → ((x : A) → r ≡ Some x → f x ≡ g x) → (r >>= f) ≡ (s >>= g)
both_known r s f g e each = after_same r f g each ∙ ap (λ o. o >>= g) e

pub both_same : {A B : Type 0} (r s : Option A) (f g : A → Option B) → r ≡ s → ((x : A) → f x ≡ g x) → (r >>= f) ≡ (s >>= g)
both_same r s f g e each = both_known r s f g e (λ x is. each x)

-- ---- nodes and buffers

pub node_alike : (at : Place) (spot : Spot) → StandsAlike at spot → slice_get at.source.nodes at.node ≡ slice_get spot.nodes spot.node
node_alike at spot alike =
    ap (slice_get at.source.nodes) (sym (add-zero at.node)) ∙ alike.nodes 0 ∙ ap (slice_get spot.nodes) (add-zero spot.node)

get_alike : (at : Place) (spot : Spot) (k m n : ℕ) → StandsAlike at spot → m ≡ at.buffer + k → n ≡ spot.buffer + k
    → slice_get at.source.buffers m ≡ slice_get spot.buffers n
get_alike at spot k m n alike here there =
    ap (slice_get at.source.buffers) here ∙ alike.buffers k ∙ ap (slice_get spot.buffers) (sym there)

pub buffer_alike : (at : Place) (spot : Spot) (k m n needed : ℕ) → StandsAlike at spot → m ≡ at.buffer + k → n ≡ spot.buffer + k
    → buffer_at at.source m needed ≡ buffer_at (put spot at).source n needed
unfolding buffer_at
buffer_alike at spot k m n needed alike here there =
    both_same _ _ _ _ (get_alike at spot k m n alike here there) (λ (buffer : Buffer). refl)

-- ---- how many slots are taken

taken_big : (limit : Option ℕ) (count : ℕ) → IsBig limit → count < 2 ^ 63 → taken_of limit count ≡ count
taken_big None count big small = absurd big
taken_big (Some limit) count big small =
    let below : count ≤ limit = omega (arith, big, small) in
    min-eq_right below

pub taken_alike : (at : Place) (spot : Spot) (node : FieldNode) (count : ℕ) → StandsAlike at spot
    → slice_get at.source.nodes at.node ≡ Some node → natural node.length ≡ Some count → taken_of at.limit count ≡ taken_of spot.limit count
taken_alike at spot node count alike found is = elim alike.limits [
  | inl same ↦ ap (λ limit. taken_of limit count) same
  | inr both ↦
      let small = both.0 0 node count (ap (slice_get at.source.nodes) (add-zero at.node) ∙ found) is in
      taken_big at.limit count both.1 small ∙ sym (taken_big spot.limit count both.2 small)
]

pub counts_alike : (at : Place) (spot : Spot) (node : FieldNode) → StandsAlike at spot → slice_get at.source.nodes at.node ≡ Some node
    → taken_in at node ≡ taken_in (put spot at) node
counts_alike at spot node alike found =
    both_known (natural node.length) (natural node.length) _ _ refl
    (λ (count : ℕ) is. ap Some (taken_alike at spot node count alike found is))

-- ---- validity

validity_alike : (at : Place) (spot : Spot) (node : FieldNode) (taken : ℕ) → StandsAlike at spot
    → validity_in at.source node at.buffer taken ≡ validity_in (put spot at).source node spot.buffer taken
unfolding validity_in
validity_alike at spot node taken alike =
    let here = sym (add-zero at.buffer) in
    let there = sym (add-zero spot.buffer) in
    both_same _ _ _ _ (get_alike at spot 0 at.buffer spot.buffer alike here there) (λ (buffer : Buffer).
    ap (λ (bits : Option (List ℕ)). if int_lt (pos 0) node.null_count then (bits >>= (λ bits. Some (bitmap bits))) else Some all_valid)
    (buffer_alike at spot 0 at.buffer spot.buffer ((taken + 7) / 8) alike here there))

pub marked_agree : Agrees marked_in
unfolding marked_in
marked_agree at spot alike =
    both_known _ _ _ _ (node_alike at spot alike) (λ (node : FieldNode) found.
    both_same _ _ _ _ (counts_alike at spot node alike found) (λ (taken : ℕ).
    both_same _ _ _ _ (validity_alike at spot node taken alike) (λ (validity : Validity). refl)))

-- ---- offsets

pub offsets_alike : (w : Width) (at : Place) (spot : Spot) (k taken : ℕ) → StandsAlike at spot
    → offsets_in w at.source (at.buffer + k) taken ≡ offsets_in w (put spot at).source (spot.buffer + k) taken
unfolding offsets_in
offsets_alike w at spot k taken alike =
    both_same _ _ _ _ (get_alike at spot k (at.buffer + k) (spot.buffer + k) alike refl refl) (λ (buffer : Buffer).
    both_same _ _ _ _ refl (λ (stated : ℕ).
    ap (λ (numbers : Option (List ℕ)). if (taken == 0) && nat_lt stated (byte_len w) then Some (0 ∷ []) else (numbers >>= (λ numbers.
    rising 0 (window (λ i. signed_of at.source.is_little_endian w (element_bytes (byte_len w) numbers i)) 0 (taken + 1)))))
    (buffer_alike at spot k (at.buffer + k) (spot.buffer + k) ((taken + 1) * byte_len w) alike refl refl)))
