-- The blocks of a file to which batches are added: where they end, what bars the file, and how they are written again.
use Rattle.std.proofs.Common.{◌≡◌, ◌∙◌, ◌⊎◌, ℕ, zero, suc, ◌+◌, ◌<◌, ◌≤◌, ℤ, pos, negsuc, Bool, true, false, not, List, [], ◌∷◌, ◌++◌}
use Rattle.std.proofs.Common.{length, map, take, get_or, refl, sym, ap, ap₂, subst, inl, inr, arith}
use Rattle.std.proofs.Math.ListN.{get_or-map, length-map}
use Rattle.std.proofs.Math.Nat.{max-le, le-max_left, le-max_right}
use Rattle.std.proofs.lemmas.Bool.{both_ways, false_from_ne_true, lt-ltb, le-ltb, ne_eqb, or_from, or_left, or_parts, or_right}
use Rattle.std.proofs.lemmas.Int.{of_z-to_z, to_z-of_z}
use Rattle.std.proofs.lemmas.List.{map-append, map_more}
use Rattle.std.proofs.lemmas.List.Folds.{list_any-append, list_any_at}
use Rattle.std.specs.Int.{Width, w32, w64, cast_signed, cast_unsigned}
use Rattle.std.specs.Int.RustNames.{FitsSigned}
use Rattle.std.specs.Int.Signed.{lt_z}
use Rattle.std.specs.Prelude.{Option, Some, None, ◌||◌, ◌==◌, max, nat_lt, if◌then◌else◌}
use Rattle.ipc_format_readers.specs.FileStarts.{block_view}
use Rattle.ipc_format_readers.specs.chunk_writing.grammar.AppendedFiles.{AppendBar, append_bar, big_endian, block_end, greatest_end}
use Rattle.ipc_format_readers.specs.chunk_writing.grammar.AppendedFiles.{block_past_end, is_empty, is_negative, kept_block}
use Rattle.ipc_format_readers.specs.chunk_writing.grammar.AppendedFiles.{natural_or_0, negative_body, no_record_batch}
use Rattle.ipc_format_readers.specs.chunk_writing.grammar.Files as read
use Rattle.ipc_format_readers.specs.chunk_writing.grammar.WrittenFiles.{WrittenBlock}
use Rattle.ipc_format_readers.specs.declared.blocks.MessageBlock.{MessageBlock}
use Rattle.ipc_format_readers.specs.streams.messages.declared.Block as owned
use Rattle.ipc_format_readers.specs.streams.owned.writing.FooterWriting as footer
use Rattle.ipc_format.specs.Growing.{EndWithin, IsFaultBar, has_negative, kept}

-- ---- where blocks end

pub greatest_both : (some others : List WrittenBlock) → greatest_end (some ++ others) ≡ max (greatest_end some) (greatest_end others)
greatest_both [] others = omega arith
greatest_both (block ∷ some) others = omega (arith, greatest_both some others)

-- the same of blocks that were read
kept_both : (some others : List read.Block)
    → greatest_end (kept (some ++ others)) ≡ max (greatest_end (kept some)) (greatest_end (kept others))
kept_both some others = ap greatest_end (map-append kept_block some others) ∙ greatest_both (kept some) (kept others)

negative_both : (some others : List read.Block) → has_negative (some ++ others) ≡ (has_negative some || has_negative others)
negative_both = list_any-append (λ (block : read.Block). is_negative block.body_length)

first_more : (all : List MessageBlock) (i : ℕ) (block : MessageBlock) → i < length all → block ≡ get_or all i block
    → map block_view (take (i + 1) all) ≡ map block_view (take i all) ++ block_view block ∷ []
first_more all i block inside it =
    map_more block_view all i block inside ∙ ap (λ (x : MessageBlock). map block_view (take i all) ++ block_view x ∷ []) (sym it)

-- one block more
pub within_more : (size end here : ℕ) (all : List MessageBlock) (i : ℕ) (block : MessageBlock) → i < length all → block ≡ get_or all i block
    → EndWithin (Some end) size (map block_view (take i all)) → is_negative block.body_length ≡ false
    → here ≡ block_end (kept_block (block_view block)) → here ≤ size
    → EndWithin (Some (max here end)) size (map block_view (take (i + 1) all))
within_more size end here all i block inside it before whole is room =
    let first = map block_view (take i all) in
    let last = block_view block in
    let ends = kept_both first (last ∷ []) in
    subst (EndWithin (Some (max here end)) size) (sym (first_more all i block inside it)) (
      negative_both first (last ∷ []) ∙ or_from (has_negative first) (has_negative (last ∷ [])) before.0 (or_from _ false whole refl),
      omega (arith, ends, before.1, is),
      max-le room before.2,
    )

-- one block that states a negative length
pub negative_at : (all : List MessageBlock) (i : ℕ) (block : MessageBlock) → i < length all → block ≡ get_or all i block
    → is_negative block.body_length ≡ true → has_negative (map block_view all) ≡ true
negative_at all i block inside it negative =
    let test : read.Block → Bool = λ block. is_negative block.body_length in
    let here = get_or-map block_view all i block ∙ ap block_view (sym it) in
    list_any_at test (map block_view all) i (block_view block) (subst (λ (n : ℕ). i < n) (sym (length-map all block_view)) inside)
    (ap test here ∙ negative)

-- none does
pub positive_at : (all : List MessageBlock) (i : ℕ) (block : MessageBlock) → i < length all → block ≡ get_or all i block
    → has_negative (map block_view all) ≡ false → is_negative block.body_length ≡ false
positive_at all i block inside it none =
    false_from_ne_true (is_negative block.body_length) (λ negative. both_ways _ none (negative_at all i block inside it negative))

-- one that ends past a size
pub past_at : (size : ℕ) (all : List MessageBlock) (i : ℕ) (block : MessageBlock) → i < length all → block ≡ get_or all i block
    → size < block_end (kept_block (block_view block)) → size < greatest_end (kept (map block_view all))
past_at size [] i block inside it past = absurd (omega (arith, inside))
past_at size (first ∷ all) zero block inside it past =
    let here = subst (λ (x : MessageBlock). size < block_end (kept_block (block_view x))) it past in
    omega (arith, here, le-max_left (block_end (kept_block (block_view first))) (greatest_end (kept (map block_view all))))
past_at size (first ∷ all) (suc i) block inside it past =
    let later = past_at size all i block (omega (arith, inside)) it past in
    omega (arith, later, le-max_right (block_end (kept_block (block_view first))) (greatest_end (kept (map block_view all))))

-- ---- signs

sign_of : (z : ℤ) → lt_z z (pos 0) ≡ is_negative z
sign_of (pos n) = le-ltb n 0 (omega arith)
sign_of (negsuc n) = refl

-- whether a number of eight bytes is below 0, as the code asks
pub sign_in : (z : ℤ) (test : Bool) → FitsSigned w64 z → lt_z (cast_signed w64 (cast_unsigned w64 z)) (pos 0) ≡ test → is_negative z ≡ test
sign_in z test fits asked = sym (sign_of z) ∙ ap (λ (it : ℤ). lt_z it (pos 0)) (sym (to_z-of_z w64 z fits)) ∙ asked

-- ---- blocks that are written again

-- a number that is cast there and back, as the code casts what it puts in a struct
again : (w : Width) (n : ℕ) (z : ℤ) → cast_unsigned w (cast_signed w n) ≡ n → z ≡ cast_signed w n
    → cast_unsigned w (cast_signed w (cast_unsigned w z)) ≡ n
again w n z fits is =
    ap (λ (it : ℤ). cast_unsigned w (cast_signed w (cast_unsigned w it))) is ∙ ap (λ (it : ℕ). cast_unsigned w (cast_signed w it)) fits ∙ fits

natural_again : (z : ℤ) → FitsSigned w64 z → is_negative z ≡ false → cast_unsigned w64 (cast_signed w64 (cast_unsigned w64 z)) ≡ natural_or_0 z
natural_again (pos n) fits e = of_z-to_z w64 n (omega (arith, fits.sfits))
natural_again (negsuc n) fits e = absurd cc

-- a block that the code states is the block that was read
pub stated_again : (block : MessageBlock) (offset length : ℤ) → FitsSigned w64 block.body_length → is_negative block.body_length ≡ false
    → offset ≡ cast_signed w64 block.offset → length ≡ cast_signed w32 block.metadata_length
    → footer.block_view (record {
      offset = cast_signed w64 (cast_unsigned w64 offset);
      meta_data_length = cast_signed w32 (cast_unsigned w32 length);
      body_length = cast_signed w64 (cast_unsigned w64 block.body_length);
    }) ≡ kept_block (block_view block)
stated_again block offset length fits positive place size =
    let before = again w64 block.offset offset (of_z-to_z w64 block.offset (omega (arith, block.fits))) place in
    let metadata = again w32 block.metadata_length length (of_z-to_z w32 block.metadata_length (omega (arith, block.short))) size in
    let body = natural_again block.body_length fits positive in
    λ j. record { offset = before j; metadata_length = metadata j; body_length = body j }

-- one block more
pub kept_more : (all : List MessageBlock) (i : ℕ) (block : MessageBlock) (old new : List owned.Block) (its : owned.Block) → i < length all
    → block ≡ get_or all i block → map footer.block_view old ≡ kept (map block_view (take i all)) → new ≡ old ++ its ∷ []
    → footer.block_view its ≡ kept_block (block_view block) → map footer.block_view new ≡ kept (map block_view (take (i + 1) all))
kept_more all i block old new its inside it before pushed is =
    ap (map footer.block_view) pushed ∙ map-append footer.block_view old (its ∷ [])
    ∙ ap₂ (λ (some others : List WrittenBlock). some ++ others) before (ap (λ (x : WrittenBlock). x ∷ []) is)
    ∙ sym (ap kept (first_more all i block inside it) ∙ map-append kept_block (map block_view (take i all)) (block_view block ∷ []))

-- ---- what bars a file

-- the first bar, by whether the lowest byte stands first, no record batch is there, a body is negative, and a block ends past the file
abbrev bar_by : Bool → Bool → Bool → Bool → Option AppendBar
bar_by little empty negative past =
    if not little then Some big_endian
    else if empty then Some no_record_batch else if negative then Some negative_body else if past then Some block_past_end else None

-- where it is none of the byte order, it is a fault of the file
fault_by : (little empty negative : Bool) (size end : ℕ) → little ≡ true → (empty ≡ true) ⊎ ((negative ≡ true) ⊎ (size < end))
    → IsFaultBar (bar_by little empty negative (nat_lt size end))
fault_by false empty negative size end e why = absurd cc
fault_by true true negative size end e why = tt
fault_by true false true size end e why = tt
fault_by true false false size end e (inl empty) = absurd cc
fault_by true false false size end e (inr (inl negative)) = absurd cc
fault_by true false false size end e (inr (inr past)) =
    subst (λ (it : Bool). IsFaultBar (if it then Some block_past_end else None)) (sym (lt-ltb size end past)) tt

-- where there is no bar, no body is negative
positive_by : (little empty negative past : Bool) → bar_by little empty negative past ≡ None → negative ≡ false
positive_by false empty negative past e = absurd cc
positive_by true true negative past e = absurd cc
positive_by true false true past e = absurd cc
positive_by true false false past e = refl

pub empty_of : (all : List MessageBlock) → is_empty (map block_view all) ≡ (length all == 0)
empty_of [] = refl
empty_of (block ∷ all) = sym (ne_eqb (suc (length all)) 0 (λ e. omega (arith, e)))

-- the blocks of a file of so many bytes
module _ (little : Bool) (size : ℕ) (dictionaries batches : List read.Block) where
  -- its numbers have their highest byte first
  pub barred_order : little ≡ false → append_bar little size dictionaries batches ≡ Some big_endian
  unfolding append_bar
  barred_order e =
      ap (λ (it : Bool). bar_by it (is_empty batches) (has_negative (dictionaries ++ batches))
      (nat_lt size (greatest_end (kept (dictionaries ++ batches))))) e

  -- it has no record batch
  pub barred_empty : little ≡ true → is_empty batches ≡ true → IsFaultBar (append_bar little size dictionaries batches)
  unfolding append_bar
  barred_empty e empty = fault_by little (is_empty batches) _ size _ e (inl empty)

  -- a block states a negative length, or ends past it
  pub barred_block : little ≡ true → EndWithin None size (dictionaries ++ batches) → IsFaultBar (append_bar little size dictionaries batches)
  unfolding append_bar
  barred_block e why = fault_by little (is_empty batches) _ size _ e (inr why)

  pub past_dictionaries : EndWithin None size dictionaries → EndWithin None size (dictionaries ++ batches)
  past_dictionaries (inl negative) =
      inl (negative_both dictionaries batches ∙ or_left (has_negative dictionaries) (has_negative batches) negative)
  past_dictionaries (inr past) = inr (omega (arith, past, kept_both dictionaries batches))

  pub past_batches : EndWithin None size batches → EndWithin None size (dictionaries ++ batches)
  past_batches (inl negative) =
      inl (negative_both dictionaries batches ∙ or_right (has_negative dictionaries) (has_negative batches) negative)
  past_batches (inr past) = inr (omega (arith, past, kept_both dictionaries batches))

  -- nothing bars it
  pub not_barred : (end last : ℕ) → little ≡ true → is_empty batches ≡ false → EndWithin (Some end) size dictionaries
      → EndWithin (Some last) size batches → append_bar little size dictionaries batches ≡ None
  unfolding append_bar
  not_barred end last e some first others =
      let whole = greatest_end (kept (dictionaries ++ batches)) in
      let negative = negative_both dictionaries batches ∙ or_from (has_negative dictionaries) (has_negative batches) first.0 others.0 in
      let past = le-ltb size whole (omega (arith, kept_both dictionaries batches, first.1, first.2, others.1, others.2)) in
      λ j. bar_by (e j) (some j) (negative j) (past j)

  -- where nothing does, no block states a negative length
  pub not_negative : append_bar little size dictionaries batches ≡ None → (has_negative dictionaries ≡ false) × (has_negative batches ≡ false)
  unfolding append_bar
  not_negative e =
      or_parts (has_negative dictionaries) (has_negative batches)
      (sym (negative_both dictionaries batches) ∙ positive_by little (is_empty batches) _ _ e)
