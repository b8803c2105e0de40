-- The validity of a stored column, read back from what is written of its mask (Arrow columnar format, "Validity bitmaps").
use Rattle.std.proofs.Common.{inl, inr, ◌≡◌, ◌∙◌, ℕ, zero, suc, ◌+◌, ◌/◌, ◌≤◌, ◌<◌, Bool, true, false, cond, not, List, [], ◌∷◌, length, get_or}
use Rattle.std.proofs.Common.{refl, sym, ap, subst, arith, le_refl, nat_lt, zero-add}
use Rattle.std.specs.Prelude.{Option, Some, None, if◌then◌else◌, count_by, slice_get}
use Rattle.std.proofs.lemmas.Bool.{cases_lt, lt-ltb, le-ltb, eqb-true}
use Rattle.std.proofs.lemmas.List.Sums.{sum_by-cons}
use Rattle.ipc_format_laws.specs.columns.Slots.{Slot, null, window}
use Rattle.ipc_format_laws.specs.columns.StoredColumns.{is_valid_at, unless_null, cut_mask}
use Rattle.ipc_format_laws.specs.columns.SoundColumns.{mask_fits}
use Rattle.ipc_format_laws.proofs.columns_lemmas.Windows.{window_same}
use Rattle.ipc_format_laws.proofs.columns_lemmas.Cuts.{is_valid_at-cut_mask}
use Rattle.ipc_format_laws.proofs.columns_lemmas.CutStored.{mask_fits-cut}
use Rattle.ipc_format_laws.specs.grammar.Columns.{Source, Place, Validity, all_valid, bitmap, is_valid_in, slots_by, slot_by, buffer_at, taken_of}
use Rattle.ipc_format_laws.specs.grammar.Columns.{validity_in, marked_in}
use Rattle.ipc_format_laws.specs.grammar.Buffers.{bitmap_bytes}
use Rattle.ipc_format_laws.specs.grammar.Encoding.{Encoded}
use Rattle.ipc_format_laws.specs.grammar.StoredEncoding.{mask_bytes, node_over}
use Rattle.ipc_format_laws.specs.BatchMessages.{stated_node}
use Rattle.ipc_format_laws.specs.Columns.{StandsAt, HoldsColumns}
use Rattle.ipc_format_laws.proofs.Bitmaps.{bitmap_size, bit_back}
use Rattle.ipc_format_laws.proofs.Buffers.{made_reads, place_reads, buffer_reads}

-- the validity that is written of a mask
abbrev pub mask_validity : Option (List Bool) → Validity
mask_validity None = all_valid
mask_validity (Some marks) = if nat_lt 0 (count_by not marks) then bitmap (bitmap_bytes marks) else all_valid

-- ---- each mark

count_next : (mark : Bool) (marks : List Bool) → count_by not (mark ∷ marks) ≡ cond (not mark) 1 0 + count_by not marks
count_next mark marks = sum_by-cons (λ (x : Bool). cond (not x) 1 0) mark marks

first_true : (mark : Bool) (n : ℕ) → cond (not mark) 1 0 + n ≡ 0 → mark ≡ true
first_true true n none = refl
first_true false n none = absurd (omega arith)

others_none : (mark : Bool) (n : ℕ) → cond (not mark) 1 0 + n ≡ 0 → n ≡ 0
others_none true n none = omega arith
others_none false n none = absurd (omega arith)

-- where no mark is false, each is true
none_false : (marks : List Bool) (i : ℕ) → count_by not marks ≡ 0 → i < length marks → get_or marks i false ≡ true
none_false [] i none inside = absurd (omega arith)
none_false (mark ∷ marks) zero none inside = first_true mark (count_by not marks) (sym (count_next mark marks) ∙ none)
none_false (mark ∷ marks) (suc i) none inside =
    none_false marks i (others_none mark (count_by not marks) (sym (count_next mark marks) ∙ none)) (omega arith)

marks_at : (marks : List Bool) (i : ℕ) → i < length marks → is_valid_in (mask_validity (Some marks)) i ≡ get_or marks i false
marks_at marks i inside = elim (cases_lt 0 (count_by not marks)) [
  | inl some ↦
      let test : nat_lt 0 (count_by not marks) ≡ true = lt-ltb 0 (count_by not marks) some in
      ap (λ b. is_valid_in (if b then bitmap (bitmap_bytes marks) else all_valid) i) test
      ∙ bit_back (λ bit. bit) (length marks) marks i false (le_refl (length marks)) inside
  | inr none ↦
      let test : nat_lt 0 (count_by not marks) ≡ false = le-ltb 0 (count_by not marks) none in
      ap (λ b. is_valid_in (if b then bitmap (bitmap_bytes marks) else all_valid) i) test
      ∙ sym (none_false marks i (omega arith) inside)
]

-- the validity of a mask is the mask
pub mask_valid_at : (mask : Option (List Bool)) (n i : ℕ) → mask_fits mask n ≡ true → i < n
    → is_valid_in (mask_validity mask) i ≡ is_valid_at mask i
mask_valid_at None n i fits inside = refl
mask_valid_at (Some marks) n i fits inside = marks_at marks i (omega (arith, eqb-true (length marks) n fits))

-- ---- what is read

bitmap_reads : (source : Source) (all : Encoded) (marks : List Bool) (n : ℕ) (rest : List (List ℕ)) (b : ℕ) → length marks ≡ n
    → HoldsColumns source all → StandsAt all.buffers b (mask_bytes (Some marks) ∷ rest)
    → validity_in source (stated_node (node_over n (Some marks))) b n ≡ Some (mask_validity (Some marks))
unfolding validity_in
bitmap_reads source all marks n rest b size holds s =
    let buffer = place_reads source all b (mask_bytes (Some marks)) rest holds s in
    elim (cases_lt 0 (count_by not marks)) [
      | inl some ↦
          let test : nat_lt 0 (count_by not marks) ≡ true = lt-ltb 0 (count_by not marks) some in
          let bytes : mask_bytes (Some marks) ≡ bitmap_bytes marks = ap (λ b. if b then bitmap_bytes marks else []) test in
          let bits : buffer_at source b ((n + 7) / 8) ≡ Some (bitmap_bytes marks) =
          buffer_reads source all b ((n + 7) / 8) (bitmap_bytes marks) rest holds
          (subst (λ (first : List ℕ). StandsAt all.buffers b (first ∷ rest)) bytes s)
          (ap (λ k. (k + 7) / 8) (sym size) ∙ bitmap_size (λ bit. bit) (length marks) marks (le_refl (length marks))) in
          rw (buffer, test, bits) refl
      | inr none ↦
          let test : nat_lt 0 (count_by not marks) ≡ false = le-ltb 0 (count_by not marks) none in
          rw (buffer, test) refl
    ]

mask_reads : (source : Source) (all : Encoded) (mask : Option (List Bool)) (n : ℕ) (rest : List (List ℕ)) (b : ℕ) → mask_fits mask n ≡ true
    → HoldsColumns source all → StandsAt all.buffers b (mask_bytes mask ∷ rest)
    → validity_in source (stated_node (node_over n mask)) b n ≡ Some (mask_validity mask)
unfolding validity_in
mask_reads source all None n rest b fits holds s =
    let buffer = place_reads source all b [] rest holds s in rw buffer refl
mask_reads source all (Some marks) n rest b fits holds s = bitmap_reads source all marks n rest b (eqb-true (length marks) n fits) holds s

-- how many slots are taken of a column with a mask, and which of them are valid
pub mask_marked : (at : Place) (all : Encoded) (mask : Option (List Bool)) (n : ℕ) (nodes : List (ℕ × ℕ)) (rest : List (List ℕ))
    → mask_fits mask n ≡ true → HoldsColumns at.source all → StandsAt all.nodes at.node (node_over n mask ∷ nodes)
    → StandsAt all.buffers at.buffer (mask_bytes mask ∷ rest) → taken_of at.limit n ≡ n
    → marked_in at ≡ Some (record { taken = n; validity = mask_validity mask })
unfolding marked_in
mask_marked at all mask n nodes rest fits holds node buffer whole =
    let found : slice_get at.source.nodes at.node ≡ Some (stated_node (node_over n mask)) =
    made_reads stated_node at.source.nodes all.nodes at.node (node_over n mask) nodes holds.nodes node in
    rw (found, whole, mask_reads at.source all mask n rest at.buffer fits holds buffer) refl

-- the same of the part of a mask that is written with n slots from slot o on
pub range_marked : (at : Place) (all : Encoded) (mask : Option (List Bool)) (len o n : ℕ) (nodes : List (ℕ × ℕ)) (rest : List (List ℕ))
    → mask_fits mask len ≡ true → o + n ≤ len → HoldsColumns at.source all
    → StandsAt all.nodes at.node (node_over n (cut_mask mask o n) ∷ nodes)
    → StandsAt all.buffers at.buffer (mask_bytes (cut_mask mask o n) ∷ rest) → taken_of at.limit n ≡ n
    → marked_in at ≡ Some (record { taken = n; validity = mask_validity (cut_mask mask o n) })
range_marked at all mask len o n nodes rest fits within holds node buffer whole =
    mask_marked at all (cut_mask mask o n) n nodes rest (mask_fits-cut mask len o n fits within) holds node buffer whole

-- ---- the slots

under_mask : (valid : Bool) (value slot : Slot) → (valid ≡ true → value ≡ slot)
    → (if valid then value else null) ≡ (if valid then slot else null)
under_mask true value slot same = same refl
under_mask false value slot same = refl

-- Where the value of each valid slot of a part is found, its slots are those of the whole from slot o on.
pub range_slots : (mask : Option (List Bool)) (len o n : ℕ) (value slot : ℕ → Slot) → mask_fits mask len ≡ true → o + n ≤ len
    → ((i : ℕ) → i < n → is_valid_at mask (o + i) ≡ true → value i ≡ slot (o + i))
    → slots_by (mask_validity (cut_mask mask o n)) value n ≡ window (λ i. unless_null mask i (slot i)) o n
range_slots mask len o n value slot fits within each =
    window_same (slot_by (mask_validity (cut_mask mask o n)) value) (λ i. unless_null mask i (slot i)) 0 o n (λ (i : ℕ) (inside : i < n).
    let valid : is_valid_in (mask_validity (cut_mask mask o n)) i ≡ is_valid_at mask (o + i) =
    mask_valid_at (cut_mask mask o n) n i (mask_fits-cut mask len o n fits within) inside ∙ is_valid_at-cut_mask mask o n i inside in
    ap (slot_by (mask_validity (cut_mask mask o n)) value) (zero-add i)
    ∙ ap (λ b. if b then value i else null) valid
    ∙ under_mask (is_valid_at mask (o + i)) (value i) (slot (o + i)) (each i inside))
