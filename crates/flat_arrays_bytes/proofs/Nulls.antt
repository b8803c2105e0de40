-- Nulls that store no bytes.
use Rattle.std.proofs.Common.{◌≡◌, ℕ, [], sum, ◌∙◌, sym, arith, zero, suc}
use Rattle.std.proofs.lemmas.List.{length-replicate}
use Rattle.std.proofs.lemmas.Str.{IsUtf8-nil}
use Rattle.std.specs.Prelude.{Bool, false, replicate}
use Rattle.flat_arrays_values.proofs.columnar_memory_lemmas.buffer_lemmas.Runs.{sum-cons}
use Rattle.flat_arrays_values.specs.columnar_memory.Layouts.{physical_type}
use Rattle.flat_arrays_values.specs.columnar_memory.declared.DataType.{DataType}
use Rattle.flat_arrays_bytes.specs.ByteStrings.{cut_by, nulls}
use Rattle.flat_arrays_bytes.specs.Fits.{IsText, text_layout}
use Rattle.flat_arrays_bytes.specs.Texts.{AllTexts}

sum-zeros : (n : ℕ) → sum (replicate n 0) ≡ 0
sum-zeros zero = omega arith
sum-zeros (suc n) = omega (arith, sum-cons 0 (replicate n 0), sum-zeros n)

no_texts : (n : ℕ) → AllTexts (cut_by (replicate n 0) [])
no_texts zero = tt
no_texts (suc n) = (IsUtf8-nil, no_texts n)

-- nulls are texts where the data type is laid out so
pub texts_of_nulls : (is_large : Bool) (data_type : DataType) (n : ℕ) → physical_type data_type ≡ text_layout is_large → IsText is_large
    (nulls data_type n)
texts_of_nulls is_large data_type n h = (
  record {
    fits = h;
    masked = length-replicate n false ∙ sym (length-replicate n 0);
    within = omega (arith, sum-zeros n);
  },
  no_texts n,
)
