-- Arrays of byte strings that stand one after another.
use Rattle.std.proofs.Common.{◌≡◌, ◌∙◌, ◌≤◌, ℕ, List, [], ◌∷◌, Bool, true, false, length, map, drop, refl, sym, ap, ap₂, subst, arith}
use Rattle.std.specs.Prelude.{Option, Some, None}
use Rattle.std.specs.List.{concat, list_all}
use Rattle.std.specs.Str.{is_utf8}
use Rattle.std.proofs.lemmas.Bool.{and_parts, eqb-true}
use Rattle.std.proofs.lemmas.Str.{IsUtf8-from_is_utf8}
use Rattle.std.proofs.lemmas.List.{length-map}
use Rattle.nested_arrays_core.specs.arrays.columnar_memory.declared.DataType.{DataType}
use Rattle.nested_arrays_core.specs.arrays.columnar_memory.Layouts.{physical_type}
use Rattle.nested_arrays_core.specs.arrays.columnar_memory.Spans.{Spans, last_of, offsets_of}
use Rattle.nested_arrays_core.specs.arrays.flat_arrays.ByteStrings.{ByteStrings, byte_strings}
use Rattle.nested_arrays_core.specs.arrays.flat_arrays.Fits.{binary_layout, text_layout, IsBinary, IsMaskOf, IsText}
use Rattle.nested_arrays_core.specs.arrays.flat_arrays.Texts.{AllTexts}
use Rattle.nested_arrays_core.specs.arrays.flat.FlatColumns.{binary_column, text_column}
use Rattle.nested_arrays_core.specs.arrays.columns.FreshColumns.{sums_from}
use Rattle.nested_arrays_core.specs.arrays.columns.SoundColumns.{mask_fits}
use Rattle.nested_arrays_core.specs.arrays.columns.StoredColumns as stored
use Rattle.nested_arrays_core.specs.arrays.columns.StoredColumns.{flat}
use Rattle.nested_arrays_builder_parts.specs.Growing.{strings, grown_column}
use Rattle.nested_arrays_core.specs.arrays.flat_arrays.ByteStrings.{cut_by, packed}
use Rattle.nested_arrays_core.proofs.columns_lemmas.Pieces.{offsets_are_sums}
use Rattle.nested_arrays_builder_parts.proofs.StringLists.{last_packed, strings_back}

mask_is : (mask : Option (List Bool)) (n m : ℕ) → n ≡ m → mask_fits mask n ≡ true → IsMaskOf m mask
mask_is None n m same h = tt
mask_is (Some marks) n m same h = eqb-true (length marks) n h ∙ same

all_texts : (ss : List (List ℕ)) → list_all is_utf8 ss ≡ true → AllTexts ss
all_texts [] h = tt
all_texts (s ∷ ss) h =
    let parts = and_parts (is_utf8 s) (list_all is_utf8 ss) h in (IsUtf8-from_is_utf8 s parts.0, all_texts ss parts.1)

module _ (t : DataType) (ss : List (List ℕ)) (offsets : Spans) (bytes : List ℕ) (mask : Option (List Bool))
    (spans : offsets ≡ packed ss) (joined : bytes ≡ concat ss) (masked : mask_fits mask (length ss) ≡ true) where
  counted : length ss ≡ length offsets.lengths
  counted = sym (ap (λ (o : Spans). length o.lengths) spans ∙ length-map ss length)

  within : last_of offsets ≤ length bytes
  within = let e = ap last_of spans in let f = ap length joined in omega (arith, e, f, last_packed ss)

  pub is_binary : (is_large : Bool) → physical_type t ≡ binary_layout is_large → IsBinary is_large (byte_strings t offsets bytes mask)
  is_binary is_large lies = record { fits = lies; masked = mask_is mask (length ss) (length offsets.lengths) counted masked; within = within }

  pub is_text : (is_large : Bool) → physical_type t ≡ text_layout is_large → list_all is_utf8 ss ≡ true
      → IsText is_large (byte_strings t offsets bytes mask)
  is_text is_large lies texts = (
    record { fits = lies; masked = mask_is mask (length ss) (length offsets.lengths) counted masked; within = within },
    subst AllTexts (sym values) (all_texts ss texts),
  )
    where
      values : cut_by offsets.lengths (drop offsets.start bytes) ≡ ss
      values = ap₂ (λ (o : Spans) b. cut_by o.lengths (drop o.start b)) spans joined ∙ strings_back ss

  offsets_are : offsets_of offsets ≡ sums_from 0 (map length ss)
  offsets_are = ap offsets_of spans ∙ offsets_are_sums 0 (map length ss)

  pub binary_frozen : (is_large : Bool) → binary_column (byte_strings t offsets bytes mask) ≡ grown_column t 0 mask (strings false is_large ss)
  binary_frozen is_large = ap₂ (λ o b. flat t mask (stored.byte_strings o b)) offsets_are joined

  pub text_frozen : (is_large : Bool) → text_column (byte_strings t offsets bytes mask) ≡ grown_column t 0 mask (strings true is_large ss)
  text_frozen is_large = ap₂ (λ o b. flat t mask (stored.texts o b)) offsets_are joined
