-- Custom metadata joined pair by pair, where its keys ascend.
use Rattle.std.proofs.Common.{Ordering, ◌≡◌, ℕ, Bool, true, false, cond, List, [], ◌∷◌, ◌++◌, refl, sym, ap, subst, ◌∙◌, append_assoc, append-nil}
use Rattle.std.specs.Prelude.{Option, Some, None, nat_eq}
use Rattle.std.specs.Ordering.{is_lt, is_eq, nat_cmp, ordering_reverse}
use Rattle.std.specs.declared.cmp.Ordering.TheVariants.{Less, Equal, Greater}
use Rattle.std.specs.Cmp.{IsTotalOrder, tied_itself}
use Rattle.std.specs.Cmp.Lexicographic.{slice_cmp, pointwise, texts_ties, bytes_decides, nat_list_cmp_total}
use Rattle.ipc_format_grammar.specs.columnar_memory.Pairs.{with_pair, value_at}
use Rattle.ipc_format_grammar.specs.columnar_memory.declared.DataType.{DataType}
use Rattle.ipc_format_grammar.specs.Schemas.{extension_name_key, extension_metadata_key, extended}
use Rattle.ipc_format_grammar.specs.Writable.{without_key, with_extension}
use Rattle.ipc_format_laws.specs.Schemas.{is_below, is_ascending}
use Rattle.ipc_format_laws.proofs.MetadataPairs.{joined}
use Rattle.ipc_format_laws.proofs.FieldSteps.{extend, read_pairs}
use Rattle.ipc_format_laws.proofs.SchemaParts.{both}

abbrev Pairs : Type 0
Pairs = List (List ℕ × List ℕ)

abbrev order : List ℕ → List ℕ → Ordering
order = slice_cmp nat_cmp

abbrev total : IsTotalOrder order
total = nat_list_cmp_total

above : (a b : List ℕ) → order a b ≡ Less → order b a ≡ Greater
above a b e = total.antisymm b a ∙ ap ordering_reverse e

below : (a b : List ℕ) → order a b ≡ Greater → order b a ≡ Less
below a b e = total.antisymm b a ∙ ap ordering_reverse e

same_key : (a b : List ℕ) → order a b ≡ Equal → a ≡ b
same_key a b e = (bytes_decides a b).0 (texts_ties a b ∙ ap is_eq e)

less_is : (r : Ordering) → is_lt r ≡ true → r ≡ Less
less_is Less e = refl
less_is Equal e = absurd cc
less_is Greater e = absurd cc

-- ---- two pairs of different keys, in either order

commute_less : (a b x y : List ℕ) → order a b ≡ Less → (ps : Pairs) → with_pair (with_pair ps a x) b y ≡ with_pair (with_pair ps b y) a x
commute_less a b x y lt [] = rw (above a b lt, lt) refl
commute_less a b x y lt (e ∷ es) = by (order a e.0) refl (commute_less a b x y lt es)
  where
    by_b : order a e.0 ≡ Less → (r : Ordering) → order b e.0 ≡ r → with_pair (with_pair (e ∷ es) a x) b y ≡ with_pair (with_pair (e ∷ es) b y) a x
    by_b ea Less eb = rw (ea, above a b lt, eb, lt) refl
    by_b ea Equal eb = rw (ea, above a b lt, eb, ea) refl
    by_b ea Greater eb = rw (ea, above a b lt, eb, ea) refl

    by : (r : Ordering) → order a e.0 ≡ r → with_pair (with_pair es a x) b y ≡ with_pair (with_pair es b y) a x
        → with_pair (with_pair (e ∷ es) a x) b y ≡ with_pair (with_pair (e ∷ es) b y) a x
    by Less ea rest = by_b ea (order b e.0) refl
    by Equal ea rest =
        let eb : order b e.0 ≡ Greater = above e.0 b (sym (total.congr a e.0 b ea) ∙ lt) in
        rw (ea, eb, ea) refl
    by Greater ea rest =
        let eb : order b e.0 ≡ Greater = above e.0 b (total.trans e.0 a b (below a e.0 ea) lt) in
        rw (ea, eb, ea) (ap (λ (l : Pairs). e ∷ l) rest)

commute : (a b x y : List ℕ) → (order a b ≡ Equal → ⊥) → (ps : Pairs) → with_pair (with_pair ps a x) b y ≡ with_pair (with_pair ps b y) a x
commute a b x y other ps = by (order a b) refl
  where
    by : (r : Ordering) → order a b ≡ r → with_pair (with_pair ps a x) b y ≡ with_pair (with_pair ps b y) a x
    by Less e = commute_less a b x y e ps
    by Equal e = absurd (other e)
    by Greater e = sym (commute_less b a y x (below a b e) ps)

-- no pair has a key
abbrev IsAbsent : List ℕ → Pairs → Type 0
IsAbsent key [] = Unit {0}
IsAbsent key (pair ∷ pairs) = (order key pair.0 ≡ Equal → ⊥) × IsAbsent key pairs

joined_with : (key value : List ℕ) (pairs before : Pairs) → IsAbsent key pairs
    → joined (with_pair before key value) pairs ≡ with_pair (joined before pairs) key value
joined_with key value [] before h = refl
joined_with key value (pair ∷ pairs) before h =
    ap (λ (ps : Pairs). joined ps pairs) (commute key pair.0 value pair.1 h.0 before) ∙ joined_with key value pairs
    (with_pair before pair.0 pair.1) h.1

-- ---- pairs in order, joined to those before them

abbrev AllBelow : Pairs → List ℕ → Type 0
AllBelow [] key = Unit {0}
AllBelow (pair ∷ pairs) key = (order pair.0 key ≡ Less) × AllBelow pairs key

abbrev BeforeAll : Pairs → Pairs → Type 0
BeforeAll before [] = Unit {0}
BeforeAll before (pair ∷ pairs) = AllBelow before pair.0 × BeforeAll before pairs

put_last : (before : Pairs) (key value : List ℕ) → AllBelow before key → with_pair before key value ≡ before ++ (key, value) ∷ []
put_last [] key value h = refl
put_last (e ∷ es) key value h = rw (above e.0 key h.0) (ap (λ (l : Pairs). e ∷ l) (put_last es key value h.1))

below_last : (before : Pairs) (pair : List ℕ × List ℕ) (key : List ℕ) → AllBelow before key → order pair.0 key ≡ Less
    → AllBelow (before ++ pair ∷ []) key
below_last [] pair key h e = (e, tt)
below_last (p ∷ ps) pair key h e = (h.0, below_last ps pair key h.1 e)

before_last : (before : Pairs) (pair : List ℕ × List ℕ) (pairs : Pairs) → BeforeAll before pairs → is_below pair.0 pairs ≡ true
    → BeforeAll (before ++ pair ∷ []) pairs
before_last before pair [] h e = tt
before_last before pair (next ∷ pairs) h e =
    let parts = both (is_lt (order pair.0 next.0)) (is_below pair.0 pairs) e in
    (below_last before pair next.0 h.0 (less_is (order pair.0 next.0) parts.0), before_last before pair pairs h.1 parts.1)

joined_after : (pairs before : Pairs) → is_ascending pairs ≡ true → BeforeAll before pairs → joined before pairs ≡ before ++ pairs
joined_after [] before e h = sym (append-nil before)
joined_after (pair ∷ pairs) before e h =
    let parts = both (is_below pair.0 pairs) (is_ascending pairs) e in
    ap (λ (ps : Pairs). joined ps pairs) (put_last before pair.0 pair.1 h.0) ∙ joined_after pairs (before ++ pair ∷ []) parts.1
    (before_last before pair pairs h.1 parts.0)
    ∙ append_assoc before (pair ∷ []) pairs

none_before : (pairs : Pairs) → BeforeAll [] pairs
none_before [] = tt
none_before (pair ∷ pairs) = (tt, none_before pairs)

pub joined_in_order : (pairs : Pairs) → is_ascending pairs ≡ true → joined [] pairs ≡ pairs
joined_in_order pairs e = joined_after pairs [] e (none_before pairs)

-- ---- what stands under a key

value_none : (key : List ℕ) (pairs : Pairs) → IsAbsent key pairs → value_at key pairs ≡ None
value_none key [] h = refl
value_none key (pair ∷ pairs) h = rw (texts_ties key pair.0) (by (order key pair.0) refl (value_none key pairs h.1))
  where
    by : (r : Ordering) → order key pair.0 ≡ r → value_at key pairs ≡ None → cond (is_eq (order key pair.0)) (Some pair.1)
        (value_at key pairs) ≡ None
    by Less e rest = rw e rest
    by Equal e rest = absurd (h.0 e)
    by Greater e rest = rw e rest

value_same : (key value : List ℕ) (pairs : Pairs) → value_at key (with_pair pairs key value) ≡ Some value
value_same key value [] = rw (texts_ties key key, tied_itself total key) refl
value_same key value (e ∷ es) = by (order key e.0) refl (value_same key value es)
  where
    by : (r : Ordering) → order key e.0 ≡ r → value_at key (with_pair es key value) ≡ Some value → value_at key
        (with_pair (e ∷ es) key value) ≡ Some value
    by Less is rest = rw (is, texts_ties key key, tied_itself total key) refl
    by Equal is rest = rw (is, texts_ties key e.0, is) refl
    by Greater is rest = rw (is, texts_ties key e.0, is) rest

value_other : (key other value : List ℕ) → (order key other ≡ Equal → ⊥) → (pairs : Pairs)
    → value_at key (with_pair pairs other value) ≡ value_at key pairs
value_other key other value apart pairs = go pairs
  where
    untied : (name : List ℕ) → (order key name ≡ Equal → ⊥) → pointwise nat_eq key name ≡ false
    untied name h = texts_ties key name ∙ by (order key name) refl
      where
        by : (r : Ordering) → order key name ≡ r → is_eq (order key name) ≡ false
        by Less is = rw is refl
        by Equal is = absurd (h is)
        by Greater is = rw is refl

    go : (ps : Pairs) → value_at key (with_pair ps other value) ≡ value_at key ps
    go [] = rw (untied other apart) refl
    go (e ∷ es) = by (order other e.0) refl (go es)
      where
        by : (r : Ordering) → order other e.0 ≡ r → value_at key (with_pair es other value) ≡ value_at key es → value_at key
            (with_pair (e ∷ es) other value) ≡ value_at key (e ∷ es)
        by Less is rest = rw (is, untied other apart) refl
        by Equal is rest =
            let no : order key e.0 ≡ Equal → ⊥ = λ (k : order key e.0 ≡ Equal). apart (ap (order key) (same_key other e.0 is) ∙ k) in
            rw (is, untied e.0 no) refl
        by Greater is rest = rw is (ap (λ (v : Option (List ℕ)). cond (pointwise nat_eq key e.0) (Some e.1) v) rest)

-- ---- pairs without a key

below_removed : (key removed : List ℕ) (pairs : Pairs) → is_below key pairs ≡ true → is_below key (without_key removed pairs) ≡ true
below_removed key removed [] e = refl
below_removed key removed (pair ∷ pairs) e =
    let parts = both (is_lt (order key pair.0)) (is_below key pairs) e in
    by (pointwise nat_eq removed pair.0) parts.0 parts.1 (below_removed key removed pairs parts.1)
  where
    by : (b : Bool) → is_lt (order key pair.0) ≡ true → is_below key pairs ≡ true → is_below key (without_key removed pairs) ≡ true → is_below key
        (cond b pairs (pair ∷ without_key removed pairs)) ≡ true
    by true here rest removed-rest = rest
    by false here rest removed-rest = rw (here, removed-rest) refl

ascending_removed : (removed : List ℕ) (pairs : Pairs) → is_ascending pairs ≡ true → is_ascending (without_key removed pairs) ≡ true
ascending_removed removed [] e = refl
ascending_removed removed (pair ∷ pairs) e =
    let parts = both (is_below pair.0 pairs) (is_ascending pairs) e in
    by (pointwise nat_eq removed pair.0) parts.1 (below_removed pair.0 removed pairs parts.0) (ascending_removed removed pairs parts.1)
  where
    by : (b : Bool) → is_ascending pairs ≡ true → is_below pair.0 (without_key removed pairs) ≡ true → is_ascending
        (without_key removed pairs) ≡ true → is_ascending (cond b pairs (pair ∷ without_key removed pairs)) ≡ true
    by true whole here rest = whole
    by false whole here rest = rw (here, rest) refl

absent_below : (key : List ℕ) (pairs : Pairs) → is_below key pairs ≡ true → IsAbsent key pairs
absent_below key [] e = tt
absent_below key (pair ∷ pairs) e =
    let parts = both (is_lt (order key pair.0)) (is_below key pairs) e in
    let less : order key pair.0 ≡ Less = less_is (order key pair.0) parts.0 in
    (λ (is : order key pair.0 ≡ Equal). unlike (sym less ∙ is), absent_below key pairs parts.1)
  where
    unlike : Less ≡ Equal → ⊥
    unlike e = absurd cc

absent_removed : (key : List ℕ) (pairs : Pairs) → is_ascending pairs ≡ true → IsAbsent key (without_key key pairs)
absent_removed key [] e = tt
absent_removed key (pair ∷ pairs) e =
    let parts = both (is_below pair.0 pairs) (is_ascending pairs) e in
    by (pointwise nat_eq key pair.0) (sym (texts_ties key pair.0)) parts.0 (absent_removed key pairs parts.1)
  where
    by : (b : Bool) → is_eq (order key pair.0) ≡ b → is_below pair.0 pairs ≡ true → IsAbsent key (without_key key pairs) → IsAbsent key
        (cond b pairs (pair ∷ without_key key pairs))
    by true is here rest =
        let same : key ≡ pair.0 = (bytes_decides key pair.0).0 (texts_ties key pair.0 ∙ is) in
        subst (λ (k : List ℕ). IsAbsent k pairs) (sym same) (absent_below pair.0 pairs here)
    by false is here rest = (λ (q : order key pair.0 ≡ Equal). absurd (true-not-false (sym (ap is_eq q) ∙ is)), rest)
      where
        true-not-false : true ≡ false → ⊥
        true-not-false x = absurd cc

absent_stays : (key removed : List ℕ) (pairs : Pairs) → IsAbsent key pairs → IsAbsent key (without_key removed pairs)
absent_stays key removed [] h = tt
absent_stays key removed (pair ∷ pairs) h = by (pointwise nat_eq removed pair.0) (absent_stays key removed pairs h.1)
  where
    by : (b : Bool) → IsAbsent key (without_key removed pairs) → IsAbsent key (cond b pairs (pair ∷ without_key removed pairs))
    by true rest = h.1
    by false rest = (h.0, rest)

-- ---- a field's metadata

-- the pairs with those of an extension
abbrev pub with_pairs_of : Option (List ℕ × Option (List ℕ)) → Pairs → Pairs
with_pairs_of None pairs = pairs
with_pairs_of (Some (name, metadata)) pairs = with_extension pairs name metadata

abbrev pub others_of : Pairs → Pairs
others_of pairs = without_key extension_metadata_key (without_key extension_name_key pairs)

name_apart : order extension_name_key extension_metadata_key ≡ Equal → ⊥
name_apart e = absurd cc

metadata_apart : order extension_metadata_key extension_name_key ≡ Equal → ⊥
metadata_apart e = absurd cc

no_name : (pairs : Pairs) → is_ascending pairs ≡ true → IsAbsent extension_name_key (others_of pairs)
no_name pairs e = absent_stays extension_name_key extension_metadata_key (without_key extension_name_key pairs)
    (absent_removed extension_name_key pairs e)

no_metadata : (pairs : Pairs) → is_ascending pairs ≡ true → IsAbsent extension_metadata_key (others_of pairs)
no_metadata pairs e = absent_removed extension_metadata_key (without_key extension_name_key pairs) (ascending_removed extension_name_key pairs e)

others_joined : (pairs : Pairs) → is_ascending pairs ≡ true → joined [] (others_of pairs) ≡ others_of pairs
others_joined pairs e = joined_in_order (others_of pairs) (ascending_removed extension_metadata_key (without_key extension_name_key pairs)
    (ascending_removed extension_name_key pairs e))

-- what is read of a field's metadata: its own pairs with those of its extension
pub pairs_are : (told : Option (List ℕ × Option (List ℕ))) (pairs : Pairs) → is_ascending pairs ≡ true
    → read_pairs told pairs ≡ with_pairs_of told (others_of pairs)
pairs_are None pairs e = others_joined pairs e
pairs_are (Some (name, None)) pairs e =
    joined_with extension_name_key name (others_of pairs) [] (no_name pairs e) ∙ ap (λ (ps : Pairs). with_pair ps extension_name_key name)
    (others_joined pairs e)
pairs_are (Some (name, Some metadata)) pairs e =
    joined_with extension_name_key name (others_of pairs) (with_pair [] extension_metadata_key metadata) (no_name pairs e)
    ∙ ap (λ (ps : Pairs). with_pair ps extension_name_key name) (joined_with extension_metadata_key metadata (others_of pairs) []
    (no_metadata pairs e) ∙ ap (λ (ps : Pairs). with_pair ps extension_metadata_key metadata) (others_joined pairs e))
    ∙ commute extension_metadata_key extension_name_key metadata name metadata_apart (others_of pairs)

extended_in : (told : Option (List ℕ × Option (List ℕ))) (others : Pairs) (data_type : DataType) → IsAbsent extension_name_key others
    → IsAbsent extension_metadata_key others → extended (with_pairs_of told others) data_type ≡ extend told data_type
extended_in None others data_type no-name no-metadata = rw (value_none extension_name_key others no-name) refl
extended_in (Some (name, None)) others data_type no-name no-metadata =
    rw (
      value_same extension_name_key name others,
      value_other extension_metadata_key extension_name_key name metadata_apart others,
      value_none extension_metadata_key others no-metadata,
    ) refl
extended_in (Some (name, Some metadata)) others data_type no-name no-metadata =
    rw (
      value_other extension_name_key extension_metadata_key metadata name_apart (with_pair others extension_name_key name),
      value_same extension_name_key name others,
      value_same extension_metadata_key metadata (with_pair others extension_name_key name),
    ) refl

-- what is read of a field's metadata names its extension
pub extension_is : (told : Option (List ℕ × Option (List ℕ))) (pairs : Pairs) (data_type : DataType) → is_ascending pairs ≡ true
    → extended (read_pairs told pairs) data_type ≡ extend told data_type
extension_is told pairs data_type e = ap (λ (ps : Pairs). extended ps data_type) (pairs_are told pairs e) ∙ extended_in told
    (others_of pairs) data_type (no_name pairs e) (no_metadata pairs e)
