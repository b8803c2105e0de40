-- Children that are written one behind the other.
use Rattle.std.proofs.Common.{◌≡◌, ◌∙◌, ◌+◌, ◌≤◌, ◌<◌, ℕ, zero, suc, Bool, refl, List, [], ◌∷◌, length, drop, get_or, subst, sym, ap, arith}
use Rattle.std.specs.Prelude.{pos, Result, Ok, Err}
use Rattle.std.proofs.lemmas.List.{append-nil, drop_more}
use Rattle.ipc_format_column_reading.specs.column_bytes.Bodies.{Adds, Parts, both, parts_of, with_column}
use Rattle.ipc_format_column_reading.specs.column_bytes.columnar_memory.declared.Error.{Error}
use Rattle.ipc_format_column_reading.specs.column_bytes.columns.StoredColumns.{Column, Columns, column_size, columns_size, column_then, in_columns}
use Rattle.ipc_format_column_reading.specs.column_bytes.columns.StoredColumns.{no_column}
use Rattle.ipc_format_column_reading.specs.column_bytes.declared.body.Body.{Body}
use Rattle.ipc_format_column_reading.specs.column_bytes.grammar.Encoding.{Encoded, joined_columns}
use Rattle.ipc_format_column_reading.proofs.bytes_lemmas.Bodies.{added_then, refused_first}
use Rattle.ipc_format_column_writing.specs.Parts.{HasPart, HaveParts, encode_part, encode_parts}
use Rattle.ipc_format_column_writing.specs.declared.parts.Part.{Part}
use Rattle.ipc_format_column_writing.specs.declared.parts.Part.TheVariants.{All, Range}

-- the arrays from the k-th on stand behind what is written so far, or are refused: so do all, behind what was there before
abbrev pub LeftToWrite : Bool → Part → List Column → Body → Body → ℕ → Type 0
LeftToWrite little part arrays before now k =
    (r : Result (Unit {0}) Error) (after : Parts)
    → Adds r (parts_of now) after (joined_columns (encode_parts little (in_columns (drop k arrays)) part))
    → Adds r (parts_of before) after (joined_columns (encode_parts little (in_columns arrays) part))

first_part : (c : Column) (cs : Columns) (part : Part) → HaveParts (column_then c cs) part → HasPart c part
first_part c cs All have = tt
first_part c cs (Range o n) have = have.0

later_parts : (c : Column) (cs : Columns) (part : Part) → HaveParts (column_then c cs) part → HaveParts cs part
later_parts c cs All have = tt
later_parts c cs (Range o n) have = have.1

have_at : (arrays : List Column) (k : ℕ) (d : Column) (part : Part) → k < length arrays → HaveParts (in_columns arrays) part
    → HasPart (get_or arrays k d) part
have_at [] k d part small have = absurd (omega arith)
have_at (c ∷ cs) zero d part small have = first_part c (in_columns cs) part have
have_at (c ∷ cs) (suc k) d part small have = have_at cs k d part (omega arith) (later_parts c (in_columns cs) part have)

-- each of the arrays has its slots
pub part_at : (arrays : List Column) (k : ℕ) (c : Column) (part : Part) → k < length arrays → c ≡ get_or arrays k c
    → HaveParts (in_columns arrays) part → HasPart c part
part_at arrays k c part small is have = subst (λ (x : Column). HasPart x part) (sym is) (have_at arrays k c part small have)

-- and is made of no more columns than all of them
pub one_size : (arrays : List Column) (k : ℕ) (d : Column) → k < length arrays → column_size (get_or arrays k d) ≤ columns_size (in_columns arrays)
one_size [] k d small = absurd (omega arith)
one_size (c ∷ cs) zero d small = omega arith
one_size (c ∷ cs) (suc k) d small = omega (arith, one_size cs k d (omega arith))

one_more : (little : Bool) (c : Column) (cs : Columns) (part : Part)
    → both (encode_part little c part) (joined_columns (encode_parts little cs part)) ≡ joined_columns (encode_parts little (column_then c cs) part)
one_more little c cs All = refl
one_more little c cs (Range o n) = refl

-- the k-th array and those behind it
all_from : (little : Bool) (arrays : List Column) (k : ℕ) (c : Column) (part : Part) → k < length arrays → c ≡ get_or arrays k c
    → both (encode_part little c part) (joined_columns (encode_parts little (in_columns (drop (k + 1) arrays)) part))
    ≡ joined_columns (encode_parts little (in_columns (drop k arrays)) part)
all_from little arrays k c part small is =
    let from : drop k arrays ≡ c ∷ drop (k + 1) arrays = drop_more arrays k c small ∙ ap (λ (x : Column). x ∷ drop (k + 1) arrays) (sym is) in
    one_more little c (in_columns (drop (k + 1) arrays)) part
    ∙ sym (ap (λ (xs : List Column). joined_columns (encode_parts little (in_columns xs) part)) from)

none_left : (little : Bool) (part : Part) → encode_parts little no_column part ≡ []
none_left little All = refl
none_left little (Range o n) = refl

nothing_added : (p : Body) → parts_of p ≡ with_column (parts_of p) (joined_columns [])
nothing_added p =
    let end : p.offset ≡ p.offset + 0 = omega arith in
    λ i. record {
      nodes = sym (append-nil p.nodes.items) i;
      buffers = sym (append-nil p.buffers.items) i;
      bytes = sym (append-nil p.bytes.items) i;
      offset = pos (end i);
    }

-- one more
pub one_written : (little : Bool) (part : Part) (arrays : List Column) (p q s : Body) (k : ℕ) (c : Column) → k < length arrays
    → c ≡ get_or arrays k c → LeftToWrite little part arrays p q k → parts_of s ≡ with_column (parts_of q) (encode_part little c part)
    → LeftToWrite little part arrays p s (k + 1)
one_written little part arrays p q s k c small is left written r after added =
    left r after (added_then r q (parts_of s) after (encode_part little c part)
    (joined_columns (encode_parts little (in_columns (drop (k + 1) arrays)) part))
    (joined_columns (encode_parts little (in_columns (drop k arrays)) part)) written
    added (all_from little arrays k c part small is))

-- one that is refused
pub one_refused : (little : Bool) (part : Part) (arrays : List Column) (p q s : Body) (k : ℕ) (c : Column) (e : Error) → k < length arrays
    → c ≡ get_or arrays k c → LeftToWrite little part arrays p q k → Adds (Err e) (parts_of q) (parts_of s) (encode_part little c part)
    → Adds (Err e) (parts_of p) (parts_of s) (joined_columns (encode_parts little (in_columns arrays) part))
one_refused little part arrays p q s k c e small is left refused =
    left (Err e) (parts_of s) (refused_first e q (parts_of s) (encode_part little c part)
    (joined_columns (encode_parts little (in_columns (drop (k + 1) arrays)) part))
    (joined_columns (encode_parts little (in_columns (drop k arrays)) part)) refused
    (all_from little arrays k c part small is))

-- all of them
pub all_written : (little : Bool) (part : Part) (arrays : List Column) (p q : Body) (k : ℕ) → drop k arrays ≡ []
    → LeftToWrite little part arrays p q k → Adds (Ok tt) (parts_of p) (parts_of q) (joined_columns (encode_parts little (in_columns arrays) part))
all_written little part arrays p q k over left =
    left (Ok tt) (parts_of q) (nothing_added q ∙ sym (ap (λ (columns : List Encoded). with_column (parts_of q) (joined_columns columns))
    (ap (λ (xs : List Column). encode_parts little (in_columns xs) part) over ∙ none_left little part)))
