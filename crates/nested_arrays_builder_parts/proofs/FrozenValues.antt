-- Slots that are kept may be frozen.
use Rattle.std.proofs.Common.{◌≡◌, ◌∙◌, ℕ, List, [], ◌∷◌, Bool, true, false, length, map, refl, sym, ap, ap₂, subst}
use Rattle.std.specs.Prelude.{◌&&◌, Option}
use Rattle.std.specs.List.{list_all}
use Rattle.std.specs.Str.{is_utf8}
use Rattle.std.proofs.lemmas.Bool.{and_parts, and_from}
use Rattle.std.proofs.lemmas.Str.{is_utf8-from_IsUtf8}
use Rattle.nested_arrays_core.specs.arrays.columnar_memory.declared.DataType.{DataType}
use Rattle.nested_arrays_core.specs.arrays.columns.Cells.{is_text}
use Rattle.nested_arrays_core.specs.arrays.columns.FreshColumns.{content_of, mask_of}
use Rattle.nested_arrays_core.specs.arrays.columns.Slots.{Slot, null, text}
use Rattle.nested_arrays_core.specs.arrays.columns.SoundColumns.{mask_fits}
use Rattle.nested_arrays_core.specs.arrays.columns.StoredColumns.{Column, slots}
use Rattle.nested_arrays_core.proofs.arrays_lemmas.columns_lemmas.FreshParts.{mask_sound}
use Rattle.nested_arrays_builder_parts.specs.Freezing.{AreTexts, IsFreezable}
use Rattle.nested_arrays_builder_parts.specs.Growing.{Growing, nothing, truths, whole, strings, sized, values_of, takes, grown_column}
use Rattle.nested_arrays_builder_parts.specs.KeptValues.{kept_column, AreKeptAs}
use Rattle.nested_arrays_builder_parts.specs.Marks.{mask_of_marks}
use Rattle.nested_arrays_builder_parts.proofs.KeptSlots.{all_fit, kept_all, kept_length, kept_sound, mask_kept}

text_is : (slot : Slot) → is_text slot ≡ true → is_utf8 (content_of slot) ≡ true
text_is null h = is_utf8-from_IsUtf8 [] ([], (refl, refl))
text_is (text content) h = h
text_is _ h = absurd cc

texts_are : (xs : List Slot) → list_all is_text xs ≡ true → list_all is_utf8 (map content_of xs) ≡ true
texts_are [] h = refl
texts_are (x ∷ xs) h =
    let parts = and_parts (is_text x) (list_all is_text xs) h in
    and_from (is_utf8 (content_of x)) (list_all is_utf8 (map content_of xs)) (text_is x parts.0) (texts_are xs parts.1)

texts_of : (values : Growing) (xs : List Slot) → list_all (takes values) xs ≡ true → AreTexts (values_of values xs)
texts_of nothing xs h = tt
texts_of (truths values) xs h = tt
texts_of (whole kind values) xs h = tt
texts_of (strings true is_large values) xs h = texts_are xs h
texts_of (strings false is_large values) xs h = tt
texts_of (sized size content) xs h = tt

pub freezable : (t : DataType) (marks : List Bool) (values : Growing) → AreKeptAs t marks values (slots (kept_column t marks values))
    → IsFreezable t (length marks) (mask_of_marks marks) values
freezable t marks values kept =
    let xs = slots (kept_column t marks values) in
    record {
      typed = kept.typed;
      all = kept_all t marks values kept;
      masked = ap (λ (bits : List Bool). mask_fits (mask_of_marks bits) (length marks)) kept.marked
          ∙ ap (λ mask. mask_fits mask (length marks)) (mask_kept xs) ∙ mask_sound xs (length marks) (kept_length t marks values xs kept);
      texts = subst AreTexts (sym kept.held) (texts_of values xs (all_fit t marks values xs kept));
      sound = kept_sound t marks values xs kept;
    }

-- the same, where the length and the mask are given
pub freezable_as : (t : DataType) (marks : List Bool) (values : Growing) (n : ℕ) (mask : Option (List Bool))
    → AreKeptAs t marks values (slots (kept_column t marks values)) → n ≡ length marks → mask ≡ mask_of_marks marks → IsFreezable t n mask values
freezable_as t marks values n mask kept long masked =
    subst (λ (m : Option (List Bool)). IsFreezable t n m values) (sym masked)
    (subst (λ (k : ℕ). IsFreezable t k (mask_of_marks marks) values) (sym long) (freezable t marks values kept))

pub frozen_as : (t : DataType) (marks : List Bool) (values : Growing) (n : ℕ) (mask : Option (List Bool)) (array : Column)
    → n ≡ length marks → mask ≡ mask_of_marks marks → array ≡ grown_column t n mask values → array ≡ kept_column t marks values
frozen_as t marks values n mask array long masked is =
    is ∙ ap₂ (λ k m. grown_column t k m values) long masked

pub ruleset frozen = (freezable_as, frozen_as)
