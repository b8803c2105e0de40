-- The custom metadata of a field in its normal form.
use Rattle.std.proofs.Common.{◌≡◌, ℕ, List, refl, ap, ◌∙◌, true, false}
use Rattle.std.specs.Prelude.{Option, Some, None}
use Rattle.ipc_format_grammar.specs.columnar_memory.declared.DataType.{DataType}
use Rattle.ipc_format_grammar.specs.columnar_memory.declared.DataType.TheOpen as layer
use Rattle.ipc_format_grammar.specs.columnar_memory.declared.DataType.TheViews.{out-DataType}
use Rattle.ipc_format_grammar.specs.columnar_memory.declared.Field.{Field}
use Rattle.ipc_format_grammar.specs.columnar_memory.Pairs.{with_pair}
use Rattle.ipc_format_grammar.specs.Schemas.{extension_name_key, extension_metadata_key}
use Rattle.ipc_format_grammar.specs.Writable.{without_key, with_extension, with_extension_of, with_extension_under, normalised_pairs}
use Rattle.ipc_format_laws.specs.NormalForm.{are_sorted}
use Rattle.ipc_format_laws.proofs.Pairs.{Pair, same_key, is_absent, without_absent, without_either, absent_with, without_with}
use Rattle.ipc_format_laws.proofs.Pairs.{absent_without, still_absent, sorted_without, sorted_with}

-- ---- of any two keys that differ

cleared_one : (name_key metadata_key name : List ℕ) (pairs : List Pair) → same_key metadata_key name_key ≡ false → is_absent name_key pairs
    ≡ true → is_absent metadata_key pairs ≡ true
    → without_key metadata_key (without_key name_key (with_pair pairs name_key name)) ≡ pairs
cleared_one name_key metadata_key name pairs apart first second =
    ap (without_key metadata_key) (without_with name_key name pairs first) ∙ without_absent metadata_key pairs second

cleared_both : (name_key metadata_key name metadata : List ℕ) (pairs : List Pair) → same_key metadata_key name_key ≡ false
    → is_absent name_key pairs ≡ true → is_absent metadata_key pairs ≡ true
    → without_key metadata_key (without_key name_key (with_pair (with_pair pairs name_key name) metadata_key metadata)) ≡ pairs
cleared_both name_key metadata_key name metadata pairs apart first second =
    let named = with_pair pairs name_key name in
    without_either metadata_key name_key (with_pair named metadata_key metadata) apart
    ∙ ap (without_key name_key) (without_with metadata_key metadata named (absent_with metadata_key name_key name pairs apart second))
    ∙ without_with name_key name pairs first

-- ---- of the keys of an extension

keys_differ : same_key extension_metadata_key extension_name_key ≡ false
keys_differ = refl

abbrev pub cleared : List Pair → List Pair
cleared pairs = without_key extension_metadata_key (without_key extension_name_key pairs)

-- neither key is there
abbrev IsClear : List Pair → Type 0
IsClear pairs = (is_absent extension_name_key pairs ≡ true) × (is_absent extension_metadata_key pairs ≡ true)

clear : (pairs : List Pair) → are_sorted pairs ≡ true → IsClear (cleared pairs)
clear pairs h =
    let first = absent_without extension_name_key pairs h in
    let second = absent_without extension_metadata_key (without_key extension_name_key pairs) (sorted_without extension_name_key pairs h) in
    (still_absent extension_name_key extension_metadata_key (without_key extension_name_key pairs) first, second)

clear_stays : (pairs : List Pair) → IsClear pairs → cleared pairs ≡ pairs
clear_stays pairs h = ap (without_key extension_metadata_key) (without_absent extension_name_key pairs h.0)
    ∙ without_absent extension_metadata_key pairs h.1

cleared_with : (pairs : List Pair) (name : List ℕ) (metadata : Option (List ℕ)) → IsClear pairs → cleared (with_extension pairs name metadata)
    ≡ pairs
cleared_with pairs name None h = cleared_one extension_name_key extension_metadata_key name pairs keys_differ h.0 h.1
cleared_with pairs name (Some metadata) h = cleared_both extension_name_key extension_metadata_key name metadata pairs keys_differ h.0 h.1

cleared_of : (pairs : List Pair) (here : layer.DataType-F DataType Field) → IsClear pairs → cleared (with_extension_of pairs here) ≡ pairs
cleared_of pairs (layer.Extension name inner metadata) h = cleared_with pairs name metadata h
cleared_of pairs _ h = clear_stays pairs h

cleared_under : (pairs : List Pair) (here : layer.DataType-F DataType Field) → IsClear pairs → cleared (with_extension_under pairs here) ≡ pairs
cleared_under pairs (layer.Dictionary key value is_ordered) h = cleared_of pairs (out-DataType value) h
cleared_under pairs (layer.Extension name inner metadata) h = cleared_with pairs name metadata h
cleared_under pairs _ h = clear_stays pairs h

-- the normal form is its own
pub pairs_normal : (t : DataType) (pairs : List Pair) → are_sorted pairs ≡ true → normalised_pairs t (normalised_pairs t pairs)
    ≡ normalised_pairs t pairs
pairs_normal t pairs h =
    ap (λ rest. with_extension_under rest (out-DataType t)) (cleared_under (cleared pairs) (out-DataType t) (clear pairs h))

-- ---- order

sorted_ext : (pairs : List Pair) (name : List ℕ) (metadata : Option (List ℕ)) → are_sorted pairs ≡ true
    → are_sorted (with_extension pairs name metadata) ≡ true
sorted_ext pairs name None h = sorted_with extension_name_key name pairs h
sorted_ext pairs name (Some metadata) h =
    sorted_with extension_metadata_key metadata (with_pair pairs extension_name_key name) (sorted_with extension_name_key name pairs h)

sorted_of : (pairs : List Pair) (here : layer.DataType-F DataType Field) → are_sorted pairs ≡ true → are_sorted (with_extension_of pairs here) ≡ true
sorted_of pairs (layer.Extension name inner metadata) h = sorted_ext pairs name metadata h
sorted_of pairs _ h = h

sorted_under : (pairs : List Pair) (here : layer.DataType-F DataType Field) → are_sorted pairs ≡ true
    → are_sorted (with_extension_under pairs here) ≡ true
sorted_under pairs (layer.Dictionary key value is_ordered) h = sorted_of pairs (out-DataType value) h
sorted_under pairs (layer.Extension name inner metadata) h = sorted_ext pairs name metadata h
sorted_under pairs _ h = h

pub pairs_sorted : (t : DataType) (pairs : List Pair) → are_sorted pairs ≡ true → are_sorted (normalised_pairs t pairs) ≡ true
pairs_sorted t pairs h = sorted_under (cleared pairs) (out-DataType t)
    (sorted_without extension_metadata_key (without_key extension_name_key pairs) (sorted_without extension_name_key pairs h))
