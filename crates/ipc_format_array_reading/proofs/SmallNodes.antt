-- Nodes with fewer than 2^63 slots.
use Rattle.std.proofs.Common.{◌≡◌, ◌∙◌, ◌+◌, ◌<◌, ◌≤◌, ◌^◌, ℕ, zero, suc, List, [], ◌∷◌, length, map, refl, sym, ap, subst, arith, inl, inr}
use Rattle.std.specs.Prelude.{Option, Some, None, IfSome, slice_get}
use Rattle.std.proofs.lemmas.Bool.{cases_lt}
use Rattle.std.proofs.lemmas.List.{length-map}
use Rattle.std.proofs.lemmas.Option.{slice_get_within}
use Rattle.ipc_format_column_writing.specs.column_reading.flatbuffers.Reading.{◌>>=◌}
use Rattle.ipc_format_column_writing.specs.column_reading.grammar.Messages.{natural}
use Rattle.ipc_format_column_writing.specs.column_reading.grammar.Messages as format
use Rattle.ipc_format_column_writing.specs.column_reading.messages.declared.values.FieldNode.{FieldNode}
use Rattle.ipc_format_column_writing.specs.column_reading.Buffers.{node_of, taken_in}
use Rattle.ipc_format_array_reading.specs.Limits.{AreSmall}

abbrev pub SmallBelow : ℕ → List format.FieldNode → Type 0
SmallBelow k nodes = (i : ℕ) (node : format.FieldNode) (n : ℕ) → i < k → slice_get nodes i ≡ Some node → natural node.length ≡ Some n → n < 2 ^ 63

pub none_below : (nodes : List format.FieldNode) → SmallBelow 0 nodes
none_below nodes i node n below there is = absurd (omega (arith, below))

abbrev or_node : format.FieldNode → Option format.FieldNode → format.FieldNode
or_node a None = a
or_node a (Some b) = b

at_node : (nodes : List FieldNode) (k : ℕ) (x : FieldNode) → slice_get nodes k ≡ Some x → slice_get (map node_of nodes) k ≡ Some (node_of x)
at_node [] k x there = absurd (omega (arith, slice_get_within [] k x there))
at_node (y ∷ ys) zero x there = ap (λ (r : Option FieldNode). r >>= (λ z. Some (node_of z))) there
at_node (y ∷ ys) (suc k) x there = at_node ys k x there

small_if : (x : FieldNode) (n : ℕ) → IfSome (taken_in None x) (λ taken. taken < 2 ^ 63) → natural x.length ≡ Some n → n < 2 ^ 63
small_if x n small is = subst (λ (r : Option ℕ). IfSome (r >>= (λ count. Some count)) (λ taken. taken < 2 ^ 63)) is small

pub one_more : (nodes : List FieldNode) (k : ℕ) (x : FieldNode) → slice_get nodes k ≡ Some x
    → IfSome (taken_in None x) (λ taken. taken < 2 ^ 63) → SmallBelow k (map node_of nodes) → SmallBelow (k + 1) (map node_of nodes)
one_more nodes k x there small before i node n below found is = elim (cases_lt i k) [
  | inl earlier ↦ before i node n earlier found is
  | inr here ↦
      let at : i ≡ k = omega (arith, below, here) in
      let same : node_of x ≡ node =
      ap (or_node node) (sym (at_node nodes k x there) ∙ ap (slice_get (map node_of nodes)) (sym at) ∙ found) in
      small_if x n small (ap (λ (y : format.FieldNode). natural y.length) same ∙ is)
]

pub all_below : (nodes : List FieldNode) (k : ℕ) → length nodes ≤ k → SmallBelow k (map node_of nodes) → AreSmall (map node_of nodes)
all_below nodes k past before i node n found is =
    before i node n (omega (arith, past, slice_get_within (map node_of nodes) i node found, length-map nodes node_of)) found is

-- past the last node there is none
pub no_more : (nodes : List FieldNode) (k : ℕ) → slice_get nodes k ≡ None → SmallBelow k (map node_of nodes) → SmallBelow (k + 1) (map node_of nodes)
no_more nodes k none before i node n below found is = elim (cases_lt i k) [
  | inl earlier ↦ before i node n earlier found is
  | inr here ↦
      let at : i ≡ k = omega (arith, below, here) in
      absurd (nothing (sym (no_node nodes k none) ∙ ap (slice_get (map node_of nodes)) (sym at) ∙ found))
]
  where
    nothing : {A : Type 0} {x : A} → None ≡ Some x → ⊥
    nothing e = cc

    none_of : (k : ℕ) → slice_get (map node_of []) k ≡ None
    none_of zero = refl
    none_of (suc k) = refl

    no_node : (nodes : List FieldNode) (k : ℕ) → slice_get nodes k ≡ None → slice_get (map node_of nodes) k ≡ None
    no_node [] k none = none_of k
    no_node (y ∷ ys) zero none = absurd cc
    no_node (y ∷ ys) (suc k) none = no_node ys k none
