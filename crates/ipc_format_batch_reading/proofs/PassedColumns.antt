-- Columns that are passed over one after another.
use Rattle.std.proofs.Common.{◌≡◌, ◌∙◌, ◌+◌, ◌-◌, ◌≤◌, ℕ, List, [], ◌∷◌, take, drop, map, refl, sym, ap, ap₂, arith}
use Rattle.std.specs.Prelude.{slice_range, sum_by}
use Rattle.std.proofs.Math.Seq.{take-add}
use Rattle.std.proofs.lemmas.List.{drop-drop}
use Rattle.std.proofs.lemmas.List.Sums.{sum_by-append, sum_by-cons}
use Rattle.ipc_format_reading.specs.Queues.{field_buffers_of, field_nodes_of}
use Rattle.ipc_format_reading.specs.columnar_memory.declared.Field.{Field}
use Rattle.ipc_format_reading.specs.grammar.Layouts.{buffer_count, buffer_number, node_count, node_number, total}
use Rattle.ipc_format_reading.specs.grammar.Messages.{Version}
use Rattle.ipc_format_reading.proofs.Layers.{field_buffers_is, field_nodes_is}
use Rattle.ipc_format_batch_reading.specs.PassedOver.{Passes}

-- ---- one after another

pub passes_behind : {A B : Type 0} (n b m c : ℕ) (xs ys zs : List A) (us vs ws : List B) → Passes n b xs ys us vs → Passes m c ys zs vs ws
    → Passes (n + m) (b + c) xs zs us ws
passes_behind n b m c xs ys zs us vs ws first later =
    (later.0 ∙ ap (drop m) first.0 ∙ drop-drop m n xs, later.1 ∙ ap (drop c) first.1 ∙ drop-drop c b us)

-- the same counts
pub passes_as : {A B : Type 0} (n b m c : ℕ) (xs ys : List A) (us vs : List B) → n ≡ m → b ≡ c → Passes n b xs ys us vs → Passes m c xs ys us vs
passes_as n b m c xs ys us vs nodes buffers passed =
    (passed.0 ∙ ap (λ count. drop count xs) nodes, passed.1 ∙ ap (λ count. drop count us) buffers)

-- ---- the columns between two places

total_is : {F : Type 0} (f g : F → ℕ) (xs : List F) → ((x : F) → f x ≡ g x) → total (map f xs) ≡ sum_by g xs
total_is f g [] same = refl
total_is f g (x ∷ xs) same =
    sum_by-cons (λ (n : ℕ). n) (f x) (map f xs) ∙ ap₂ (λ n m. n + m) (same x) (total_is f g xs same) ∙ sym (sum_by-cons g x xs)

-- the sum up to a place is the one up to a place before it and the one between them
sum_between : {F : Type 0} (g : F → ℕ) (xs : List F) (from d : ℕ)
    → sum_by g (take from xs) + sum_by g (take d (drop from xs)) ≡ sum_by g (take (from + d) xs)
sum_between g xs from d =
    sym (sum_by-append g (take from xs) (take d (drop from xs))) ∙ ap (sum_by g) (sym (take-add from d xs))

pub number_between : {F : Type 0} (f g : F → ℕ) (xs part : List F) (from to : ℕ) → ((x : F) → f x ≡ g x) → from ≤ to
    → part ≡ slice_range xs from to → sum_by g (take from xs) + total (map f part) ≡ sum_by g (take to xs)
number_between f g xs part from to same rises is =
    let width : from + (to - from) ≡ to = omega (arith, rises) in
    ap (λ ys. sum_by g (take from xs) + total (map f ys)) is
    ∙ ap (λ n. sum_by g (take from xs) + n) (total_is f g (slice_range xs from to) same)
    ∙ sum_between g xs from (to - from) ∙ ap (λ n. sum_by g (take n xs)) width

-- behind the columns up to a place, those up to a later one are passed over
pub passed_to : {A B : Type 0} (version : Version) (fields part : List Field) (from to : ℕ) (xs ys zs : List A) (us vs ws : List B) → from ≤ to
    → part ≡ slice_range fields from to → Passes (node_number fields from) (buffer_number version fields from) xs ys us vs
    → Passes (total (map field_nodes_of part)) (total (map (field_buffers_of version) part)) ys zs vs ws
    → Passes (node_number fields to) (buffer_number version fields to) xs zs us ws
passed_to version fields part from to xs ys zs us vs ws rises is first later =
    passes_as _ _ _ _ xs zs us ws
    (number_between field_nodes_of (λ (field : Field). node_count field.data_type) fields part from to field_nodes_is rises is)
    (number_between (field_buffers_of version) (λ (field : Field). buffer_count version field.data_type) fields part from to
    (field_buffers_is version) rises is)
    (passes_behind (node_number fields from) (buffer_number version fields from) _ _ xs ys zs us vs ws first later)
