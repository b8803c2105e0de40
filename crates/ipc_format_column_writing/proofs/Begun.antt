-- Columns that are begun, and what comes behind.
use Rattle.std.proofs.Common.{◌≡◌, ◌∙◌, ℕ, ◌+◌, ◌-◌, ◌*◌, Bool, List, [], ◌∷◌, ◌++◌, ◌≤◌, refl, sym, ap, subst, arith}
use Rattle.std.specs.Int.{Width}
use Rattle.std.specs.Prelude.{IfOk, Option, Result, Ok, Err, slice_index}
use Rattle.std.proofs.lemmas.List.{append_assoc, append-nil}
use Rattle.nested_arrays_core.specs.Parts.{column_children}
use Rattle.ipc_format_column_reading.specs.column_bytes.Bodies.{Parts, Adds, both, of_buffers, of_slots, parts_of, with_column}
use Rattle.ipc_format_column_reading.specs.column_bytes.columnar_memory.Spans.{Spans, last_of, offsets_of}
use Rattle.ipc_format_column_reading.specs.column_bytes.columnar_memory.declared.DataType.{DataType}
use Rattle.ipc_format_column_reading.specs.column_bytes.columnar_memory.declared.Error.{Error}
use Rattle.ipc_format_column_reading.specs.column_bytes.columns.StoredColumns.{Column, Columns, lists, fixed_lists, records, cut_list, cut_mask, type_layer}
use Rattle.ipc_format_column_reading.specs.column_bytes.declared.body.Body.{Body}
use Rattle.ipc_format_column_reading.specs.column_bytes.grammar.Encoding.{Encoded, column_over, joined_columns}
use Rattle.ipc_format_column_reading.specs.column_bytes.grammar.StoredEncoding.{encode_range, encode_ranges, last_offset, mask_bytes, moved_bytes, node_over}
use Rattle.ipc_format_column_reading.specs.column_bytes.grammar.StoredEncoding.{offset_width}
use Rattle.ipc_format_column_reading.proofs.bytes_lemmas.Bodies.{added_then, refused_first, with_both}
use Rattle.ipc_format_column_writing.specs.Parts.{items_column}
use Rattle.ipc_format_column_writing.specs.Written.{IsBegun, Begins, AddsSpans}

-- the rest behind what stands there
pub begun_then : (r : Result (Unit {0}) Error) (p : Body) (q s : Parts) (rest whole : Encoded) → IsBegun (parts_of p) q rest whole
    → Adds r q s rest → Adds r (parts_of p) s whole
begun_then r p q s rest whole begun added = added_then r p q s begun.own rest whole begun.stands added begun.makes

pub both_assoc : (a b c : Encoded) → both (both a b) c ≡ both a (both b c)
both_assoc a b c =
    let nodes = append_assoc a.nodes b.nodes c.nodes in
    let buffers = append_assoc a.buffers b.buffers c.buffers in
    λ i. record { nodes = nodes i; buffers = buffers i }

-- a column that is begun behind a part of a greater one
pub begun_behind : (p : Body) (q s : Parts) (a rest behind whole : Encoded) → q ≡ with_column (parts_of p) a → IsBegun q s rest behind
    → both a behind ≡ whole → IsBegun (parts_of p) s rest whole
begun_behind p q s a rest behind whole is begun same = record {
  own = both a begun.own;
  stands = begun.stands ∙ ap (λ (parts : Parts). with_column parts begun.own) is
      ∙ with_both p.nodes.items p.buffers.items p.bytes.items p.offset a begun.own;
  makes = both_assoc a begun.own rest ∙ ap (both a) begun.makes ∙ same;
}

pub begins_behind : {A : Type 0} (r : Result A Error) (p : Body) (q s : Parts) (a : Encoded) (rest : A → Encoded) (behind whole : Encoded)
    → q ≡ with_column (parts_of p) a → Begins r q s rest behind → both a behind ≡ whole → Begins r (parts_of p) s rest whole
begins_behind (Ok x) p q s a rest behind whole is begun same = begun_behind p q s a (rest x) behind whole is begun same
begins_behind (Err e) p q s a rest behind whole is refused same = added_then (Err e) p q s a behind whole is refused same

-- a column's own part stands there
pub stands_alone : (p : Body) (q : Parts) (own rest whole : Encoded) → q ≡ with_column (parts_of p) own → both own rest ≡ whole
    → IsBegun (parts_of p) q rest whole
stands_alone p q own rest whole is same = record { own = own; stands = is; makes = same }

-- what is refused at its first part is refused
pub refused_whole : (e : Error) (p : Body) (s : Parts) (own rest whole : Encoded) → Adds (Err e) (parts_of p) s own
    → both own rest ≡ whole → Adds (Err e) (parts_of p) s whole
refused_whole e p s own rest whole refused same = refused_first e p s own rest whole refused same

-- ---- one column below

over_one : (node : ℕ × ℕ) (own : List (List ℕ)) (e : Encoded) → both (record { nodes = node ∷ []; buffers = own }) e ≡ column_over node own (e ∷ [])
over_one node own e =
    λ i. record { nodes = node ∷ sym (append-nil e.nodes) i; buffers = own ++ sym (append-nil e.buffers) i }

abbrev taken_of : Spans → ℕ → ℕ → List ℕ
taken_of s o n = cut_list (offsets_of s) o (n + 1)

-- the items of lists behind their offsets
abbrev lists_own : Bool → Option (List Bool) → Spans → Width → ℕ → ℕ → Encoded
lists_own little mask s w o n = both (of_slots n (cut_mask mask o n)) (of_buffers (moved_bytes little w (taken_of s o n) ∷ []))

lists_whole : (little : Bool) (t : DataType) (mask : Option (List Bool)) (s : Spans) (child : Column) (w : Width) (o n start len : ℕ)
    → w ≡ offset_width (type_layer t) → start ≡ slice_index (taken_of s o n) 0 → len ≡ last_offset (taken_of s o n) - slice_index (taken_of s o n) 0
    → both (lists_own little mask s w o n) (encode_range little child start len) ≡ encode_range little (lists t mask (offsets_of s) child) o n
lists_whole little t mask s child w o n start len wide is_start is_len =
    (λ i. both (lists_own little mask s (wide i) o n) (encode_range little child (is_start i) (is_len i)))
    ∙ over_one (node_over n (cut_mask mask o n))
    (mask_bytes (cut_mask mask o n) ∷ moved_bytes little (offset_width (type_layer t)) (taken_of s o n) ∷ [])
    (encode_range little child (slice_index (taken_of s o n) 0) (last_offset (taken_of s o n) - slice_index (taken_of s o n) 0))

-- lists that are begun
pub lists_begun : (r : Result (ℕ × ℕ) Error) (p : Body) (q s : Parts) (little : Bool) (t : DataType) (mask copied : Option (List Bool))
    (spans : Spans) (child : Column) (w : Width) (o n : ℕ) → copied ≡ mask → w ≡ offset_width (type_layer t)
    → q ≡ with_column (parts_of p) (of_slots n (cut_mask copied o n)) → AddsSpans r q s little w spans o n
    → Begins r (parts_of p) s (λ (items : ℕ × ℕ). encode_range little child items.0 items.1)
    (encode_range little (lists t mask (offsets_of spans) child) o n)
lists_begun (Ok items) p q s little t mask copied spans child w o n same wide is added =
    let slots = of_slots n (cut_mask copied o n) in
    let moved = of_buffers (moved_bytes little w (taken_of spans o n) ∷ []) in
    record {
      own = both slots moved;
      stands = added.0 ∙ ap (λ (parts : Parts). with_column parts moved) is
          ∙ with_both p.nodes.items p.buffers.items p.bytes.items p.offset slots moved;
      makes = ap (λ (m : Option (List Bool)). both (lists_own little m spans w o n) (encode_range little child items.0 items.1)) same
          ∙ lists_whole little t mask spans child w o n items.0 items.1 wide added.1 added.2;
    }
lists_begun (Err e) p q s little t mask copied spans child w o n same wide is refused =
    let slots = of_slots n (cut_mask copied o n) in
    let moved = of_buffers (moved_bytes little w (taken_of spans o n) ∷ []) in
    let taken = taken_of spans o n in
    let rest = encode_range little child (slice_index taken 0) (last_offset taken - slice_index taken 0) in
    let here : Adds (Err e) (parts_of p) s (both slots moved) = added_then (Err e) p q s slots moved (both slots moved) is refused refl in
    refused_first e p s (both slots moved) rest (encode_range little (lists t mask (offsets_of spans) child) o n) here
    (ap (λ (m : Option (List Bool)). both (lists_own little m spans w o n) rest) same
    ∙ lists_whole little t mask spans child w o n (slice_index taken 0) (last_offset taken - slice_index taken 0) wide refl refl)

-- the slots of lists are refused
pub lists_refused : (e : Error) (p : Body) (s : Parts) (little : Bool) (t : DataType) (mask copied : Option (List Bool))
    (offsets : List ℕ) (child : Column) (o n : ℕ) → copied ≡ mask
    → Adds (Err e) (parts_of p) s (of_slots n (cut_mask copied o n))
    → Adds (Err e) (parts_of p) s (encode_range little (lists t mask offsets child) o n)
lists_refused e p s little t mask copied offsets child o n same refused =
    let taken = cut_list offsets o (n + 1) in
    let moved = of_buffers (moved_bytes little (offset_width (type_layer t)) taken ∷ []) in
    let rest = encode_range little child (slice_index taken 0) (last_offset taken - slice_index taken 0) in
    refused_first e p s (of_slots n (cut_mask copied o n)) (both moved rest) (encode_range little (lists t mask offsets child) o n) refused
    (ap (λ (m : Option (List Bool)). both (of_slots n (cut_mask m o n)) (both moved rest)) same
    ∙ sym (both_assoc (of_slots n (cut_mask mask o n)) moved rest)
    ∙ over_one (node_over n (cut_mask mask o n))
    (mask_bytes (cut_mask mask o n) ∷ moved_bytes little (offset_width (type_layer t)) taken ∷ []) rest)

-- lists of one size behind their slots
pub fixed_lists_whole : (little : Bool) (t : DataType) (mask copied : Option (List Bool)) (size : ℕ) (child : Column) (o n : ℕ) → copied ≡ mask
    → both (of_slots n (cut_mask copied o n)) (encode_range little child (size * o) (size * n))
    ≡ encode_range little (fixed_lists t mask size child) o n
fixed_lists_whole little t mask copied size child o n same =
    ap (λ (m : Option (List Bool)). both (of_slots n (cut_mask m o n)) (encode_range little child (size * o) (size * n))) same
    ∙ over_one (node_over n (cut_mask mask o n)) (mask_bytes (cut_mask mask o n) ∷ []) (encode_range little child (size * o) (size * n))

-- the fields of structs behind their slots
pub records_whole : (little : Bool) (t : DataType) (mask copied : Option (List Bool)) (count : ℕ) (children : Columns) (o n : ℕ) → copied ≡ mask
    → both (of_slots n (cut_mask copied o n)) (joined_columns (encode_ranges little children o n))
    ≡ encode_range little (records t mask count children) o n
records_whole little t mask copied count children o n same =
    ap (λ (m : Option (List Bool)). both (of_slots n (cut_mask m o n)) (joined_columns (encode_ranges little children o n))) same

-- where the items of lists end
pub spans_within : (r : Result (ℕ × ℕ) Error) (q s : Parts) (little : Bool) (w : Width) (spans : Spans) (o n limit : ℕ)
    → AddsSpans r q s little w spans o n → last_of spans ≤ limit → IfOk r (λ (items : ℕ × ℕ). items.0 + items.1 ≤ limit)
spans_within (Ok items) q s little w spans o n limit added within = omega (arith, added.3, within)
spans_within (Err e) q s little w spans o n limit refused within = tt

-- lists that are begun, by what their column is
pub named_begun : (a : Column) (r : Result (ℕ × ℕ) Error) (p : Body) (q s : Parts) (little : Bool) (t : DataType)
    (mask copied : Option (List Bool)) (spans : Spans) (child : Column) (w : Width) (o n : ℕ) → a ≡ lists t mask (offsets_of spans) child
    → copied ≡ mask → w ≡ offset_width (type_layer t) → q ≡ with_column (parts_of p) (of_slots n (cut_mask copied o n))
    → AddsSpans r q s little w spans o n
    → Begins r (parts_of p) s (λ (items : ℕ × ℕ). encode_range little (items_column a) items.0 items.1) (encode_range little a o n)
named_begun a r p q s little t mask copied spans child w o n is same wide begun added =
    subst (λ (b : Column). Begins r (parts_of p) s (λ (items : ℕ × ℕ). encode_range little (items_column b) items.0 items.1)
    (encode_range little b o n)) (sym is) (lists_begun r p q s little t mask copied spans child w o n same wide begun added)

pub named_refused : (a : Column) (e : Error) (p : Body) (s : Parts) (little : Bool) (t : DataType) (mask copied : Option (List Bool))
    (offsets : List ℕ) (child : Column) (o n : ℕ) → a ≡ lists t mask offsets child → copied ≡ mask
    → Adds (Err e) (parts_of p) s (of_slots n (cut_mask copied o n)) → Adds (Err e) (parts_of p) s (encode_range little a o n)
named_refused a e p s little t mask copied offsets child o n is same refused =
    subst (λ (b : Column). Adds (Err e) (parts_of p) s (encode_range little b o n)) (sym is)
    (lists_refused e p s little t mask copied offsets child o n same refused)

-- lists of one size that are begun
pub fixed_begun : (a : Column) (p : Body) (q : Parts) (little : Bool) (t : DataType) (mask copied : Option (List Bool)) (size : ℕ)
    (child : Column) (o n : ℕ) → a ≡ fixed_lists t mask size child → copied ≡ mask
    → q ≡ with_column (parts_of p) (of_slots n (cut_mask copied o n))
    → IsBegun (parts_of p) q (encode_range little (items_column a) (size * o) (size * n)) (encode_range little a o n)
fixed_begun a p q little t mask copied size child o n is same begun =
    subst (λ (b : Column). IsBegun (parts_of p) q (encode_range little (items_column b) (size * o) (size * n)) (encode_range little b o n)) (sym is)
    (stands_alone p q (of_slots n (cut_mask copied o n)) (encode_range little child (size * o) (size * n))
    (encode_range little (fixed_lists t mask size child) o n) begun (fixed_lists_whole little t mask copied size child o n same))

pub fixed_refused : (a : Column) (e : Error) (p : Body) (s : Parts) (little : Bool) (t : DataType) (mask copied : Option (List Bool)) (size : ℕ)
    (child : Column) (o n : ℕ) → a ≡ fixed_lists t mask size child → copied ≡ mask
    → Adds (Err e) (parts_of p) s (of_slots n (cut_mask copied o n)) → Adds (Err e) (parts_of p) s (encode_range little a o n)
fixed_refused a e p s little t mask copied size child o n is same refused =
    subst (λ (b : Column). Adds (Err e) (parts_of p) s (encode_range little b o n)) (sym is)
    (refused_whole e p s (of_slots n (cut_mask copied o n)) (encode_range little child (size * o) (size * n))
    (encode_range little (fixed_lists t mask size child) o n) refused (fixed_lists_whole little t mask copied size child o n same))

-- structs that are begun
pub records_begun : (r : Result (Unit {0}) Error) (a : Column) (p : Body) (q : Parts) (little : Bool) (t : DataType)
    (mask copied : Option (List Bool)) (len : ℕ) (children : Columns) (o n : ℕ) → a ≡ records t mask len children → copied ≡ mask
    → Adds r (parts_of p) q (of_slots n (cut_mask copied o n))
    → Begins r (parts_of p) q (λ answer. joined_columns (encode_ranges little (column_children a) o n)) (encode_range little a o n)
records_begun (Ok x) a p q little t mask copied len children o n is same begun =
    subst (λ (b : Column). IsBegun (parts_of p) q (joined_columns (encode_ranges little (column_children b) o n)) (encode_range little b o n))
    (sym is)
    (stands_alone p q (of_slots n (cut_mask copied o n)) (joined_columns (encode_ranges little children o n))
    (encode_range little (records t mask len children) o n) begun (records_whole little t mask copied len children o n same))
records_begun (Err e) a p q little t mask copied len children o n is same refused =
    subst (λ (b : Column). Adds (Err e) (parts_of p) q (encode_range little b o n)) (sym is)
    (refused_whole e p q (of_slots n (cut_mask copied o n)) (joined_columns (encode_ranges little children o n))
    (encode_range little (records t mask len children) o n) refused (records_whole little t mask copied len children o n same))

-- the rest of a column that is known by another name
pub range_then : (r : Result (Unit {0}) Error) (p : Body) (q s : Parts) (little : Bool) (a b : Column) (o n : ℕ) (rest behind : Encoded)
    → a ≡ b → behind ≡ rest → IsBegun (parts_of p) q rest (encode_range little b o n) → Adds r q s behind
    → Adds r (parts_of p) s (encode_range little a o n)
range_then r p q s little a b o n rest behind same is begun added =
    subst (λ (c : Column). Adds r (parts_of p) s (encode_range little c o n)) (sym same)
    (begun_then r p q s rest (encode_range little b o n) begun (subst (λ (e : Encoded). Adds r q s e) is added))
