-- A field is its type, with what stands beside it.
use Rattle.std.proofs.Common.{◌≡◌, ◌∙◌, ℕ, zero, suc, List, Bool, refl}
use Rattle.std.specs.Prelude.{Option, Some, None}
use Rattle.std.specs.Int.{w8}
use Rattle.ipc_format_grammar.specs.flatbuffers.Reading.{◌>>=◌}
use Rattle.ipc_format_grammar.specs.flatbuffers.FlatBuffers.{TablePlace, number_field, truth_field, table_field, string_field}
use Rattle.ipc_format_grammar.specs.Types.{tag_of}
use Rattle.ipc_format_grammar.specs.Schemas.{type_in, field_in}
use Rattle.ipc_format_metadata.specs.Steps.{type_found, head_in, completed}

by_head : {C : Type 0} (n : Option (Option (List ℕ))) (b : Option Bool) (H : List ℕ → Bool → Option C)
    → (n >>= (λ f. f >>= (λ name. b >>= (λ z. H name z)))) ≡ ((n >>= (λ f. f >>= (λ name. b >>= (λ z. Some (name, z))))) >>=
    (λ (h : List ℕ × Bool). H h.0 h.1))
by_head None b H = refl
by_head (Some None) b H = refl
by_head (Some (Some name)) None H = refl
by_head (Some (Some name)) (Some z) H = refl

by_type : {A B C : Type 0} (t : Option ℕ) (g : ℕ → Option A) (ty : Option (Option TablePlace)) (R : A → TablePlace → Option B) (K : B → Option C)
    → (t >>= (λ n. g n >>= (λ a. ty >>= (λ f. f >>= (λ table. R a table >>= K))))) ≡
    ((t >>= (λ n. g n >>= (λ a. ty >>= (λ f. f >>= (λ table. R a table))))) >>= K)
by_type {A} None g ty R K = refl
by_type {A} (Some n) g ty R K = inner (g n) ty
  where
    inner : (a : Option A) (ty : Option (Option TablePlace)) → (a >>= (λ a. ty >>= (λ f. f >>= (λ table. R a table >>= K)))) ≡
        ((a >>= (λ a. ty >>= (λ f. f >>= (λ table. R a table)))) >>= K)
    inner None ty = refl
    inner (Some a) None = refl
    inner (Some a) (Some None) = refl
    inner (Some a) (Some (Some table)) = refl

pub field-no-level : (bytes : List ℕ) (table : TablePlace) (left : ℕ) → field_in None bytes zero table left ≡ None
unfolding field_in
field-no-level bytes table left = refl

pub field-no-visit : (bytes : List ℕ) (levels : ℕ) (table : TablePlace) → field_in None bytes levels table zero ≡ None
unfolding field_in
field-no-visit bytes zero table = refl
field-no-visit bytes (suc levels) table = refl

pub field-by : (bytes : List ℕ) (levels : ℕ) (table : TablePlace) (left : ℕ)
    → field_in None bytes (suc levels) table (suc left) ≡ (head_in bytes table >>=
    (λ head. type_found (field_in None bytes levels) bytes table left >>= completed bytes table head))
unfolding field_in
field-by bytes levels table left =
    by_head (string_field bytes table 0) (truth_field bytes table 1) _ ∙ (λ i. head_in bytes table >>= (λ (head : List ℕ × Bool).
    by_type (number_field w8 bytes table 2 0) tag_of (table_field bytes table 3)
    (λ tag type_table. type_in None (field_in None bytes levels) bytes tag table type_table left) (completed bytes table head) i))
