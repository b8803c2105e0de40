-- What is prepared of columns that may be asked for.
use Rattle.std.proofs.Common.{◌≡◌, ◌∙◌, ℕ, true, List, length, sym, ap, subst}
use Rattle.std.specs.BTreeMap.{BTreeMap}
use Rattle.std.specs.List.Sorted.{IsNonDecreasing, IsPermutation}
use Rattle.std.specs.declared.alloc.Global.{Global}
use Rattle.std.specs.declared.vec.Vec.{Vec}
use Rattle.ipc_format_reading.specs.columnar_memory.declared.Field.{Field}
use Rattle.ipc_format_reading.specs.columns.Tables.{chosen}
use Rattle.ipc_format_batch_reading.specs.Projections.{IsPrepared, fits_map, is_choice, put_back}
use Rattle.ipc_format_batch_reading.proofs.RisingColumns.{sorted_rise, sorted_wanted}

prepared_of : (fields : List Field) (columns : List ℕ) (rising : Vec ℕ Global) (places : BTreeMap ℕ ℕ) (asked : Vec Field Global)
    → is_choice (length fields) columns ≡ true → IsPermutation columns rising.items → IsNonDecreasing rising.items
    → put_back places.entries rising.items ≡ columns → fits_map (length columns) places.entries ≡ true
    → asked.items ≡ chosen columns fields → IsPrepared fields columns (rising, places, asked)
prepared_of fields columns rising places asked choice same sorted back fit asked_fields = record {
  rise = sorted_rise (length fields) columns rising.items choice same sorted;
  wanted = sorted_wanted columns rising.items same;
  back = back;
  fit = fit;
  asked = asked_fields;
}

pub prepared : (fields : List Field) (columns seen risen : List ℕ) (rising : Vec ℕ Global) (places : BTreeMap ℕ ℕ) (asked : Vec Field Global)
    → seen ≡ columns → risen ≡ rising.items → is_choice (length fields) columns ≡ true → IsPermutation seen rising.items
    → IsNonDecreasing rising.items → put_back places.entries risen ≡ seen → fits_map (length seen) places.entries ≡ true
    → asked.items ≡ chosen seen fields → IsPrepared fields columns (rising, places, asked)
prepared fields columns seen risen rising places asked seen_is risen_is choice same sorted back fit asked_fields =
    subst (λ (ks : List ℕ). IsPrepared fields ks (rising, places, asked)) seen_is
    (prepared_of fields seen rising places asked (ap (is_choice (length fields)) seen_is ∙ choice) same sorted
    (ap (put_back places.entries) (sym risen_is) ∙ back) fit asked_fields)
