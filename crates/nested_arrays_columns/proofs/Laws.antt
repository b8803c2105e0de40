-- The laws, as the functions of the crate promise them.
use Rattle.std.proofs.Common.{◌∙◌, ap}
use Rattle.nested_arrays_columns.specs.Children.{dictionary_values}
use Rattle.nested_arrays_columns.specs.FreshColumns.{mask_of, fresh}
use Rattle.nested_arrays_columns.specs.StoredColumns.{dictionary}
use Rattle.nested_arrays_columns.specs.CutLaws.{ListsCut, FixedListsCut, StructsCut, DictionariesCut}
use Rattle.nested_arrays_columns.specs.GrowthLaws.{ListsGrow, FixedListsGrow, StructsGrow, DictionariesGrow, OneMoreListFits}
use Rattle.nested_arrays_columns.specs.GrowthLaws.{OneMoreLargeListFits, OneMoreFixedListFits, OneMoreStructFits, OneMoreKeyFits, OneMoreNumberFits}
use Rattle.nested_arrays_columns.specs.LayerLaws.{ListsStored, FixedListsStored, StructsStored, DictionariesStored, NumbersStored}
use Rattle.nested_arrays_columns.specs.LayerLaws.{ListsFit, LargeListsFit, MapsFit, FixedListsFit, StructsFit}
use Rattle.nested_arrays_columns.specs.LayerLaws.{DictionariesFit, NumbersFit, NothingFits, FirstOnesFit}
use Rattle.nested_arrays_columns.specs.ValueLaws.{ValuesDistinct, ValuesGrow, KeysByPlace, KeysOfNew}
use Rattle.nested_arrays_columns.proofs.FirstOnes.{items_stored_cut, fixed_stored_cut, struct_stored_cut, dictionary_stored_cut}
use Rattle.nested_arrays_columns.proofs.Fits.{fits_list, fits_large_list, fits_map, fits_fixed_list, fits_struct}
use Rattle.nested_arrays_columns.proofs.Fits.{fits_dictionary, fits_primitive, nothing_fits}
use Rattle.nested_arrays_columns.proofs.LayerParts.{fresh_items, fresh_fixed_list, fresh_struct, fresh_dictionary, fresh_primitive}
use Rattle.nested_arrays_columns.proofs.Limits.{first_ones_fit}
use Rattle.nested_arrays_columns.proofs.OneMore.{items_stored_one_more, fixed_stored_one_more, struct_stored_one_more}
use Rattle.nested_arrays_columns.proofs.OneMore.{dictionary_stored_one_more, list_fits_one_more}
use Rattle.nested_arrays_columns.proofs.OneMore.{large_list_fits_one_more, fixed_list_fits_one_more, struct_fits_one_more}
use Rattle.nested_arrays_columns.proofs.OneMore.{dictionary_fits_one_more, primitives_fit_one_more}
use Rattle.nested_arrays_columns.proofs.Values.{keys_are, values_distinct, values_grow, key_at}
use Rattle.nested_arrays_columns.proofs.Values.{key_new}

pub lists_stored : ListsStored
lists_stored = fresh_items

pub fixed_lists_stored : FixedListsStored
fixed_lists_stored = fresh_fixed_list

pub structs_stored : StructsStored
structs_stored = fresh_struct

pub dictionaries_stored : DictionariesStored
dictionaries_stored t key value is_ordered is some =
    fresh_dictionary t key value is_ordered is some
    ∙ ap (λ keys. dictionary t (mask_of some) keys (fresh value (dictionary_values some))) (keys_are some)

pub numbers_stored : NumbersStored
numbers_stored = fresh_primitive

pub lists_fit_by_items : ListsFit
lists_fit_by_items = fits_list

pub large_lists_fit_by_items : LargeListsFit
large_lists_fit_by_items = fits_large_list

pub maps_fit : MapsFit
maps_fit = fits_map

pub fixed_lists_fit : FixedListsFit
fixed_lists_fit = fits_fixed_list

pub structs_fit : StructsFit
structs_fit = fits_struct

pub dictionaries_fit : DictionariesFit
dictionaries_fit = fits_dictionary

pub numbers_fit_by_kind : NumbersFit
numbers_fit_by_kind = fits_primitive

pub nothing_fits_all : NothingFits
nothing_fits_all = nothing_fits

pub first_fit : FirstOnesFit
first_fit = first_ones_fit

pub lists_grow : ListsGrow
lists_grow = items_stored_one_more

pub fixed_lists_grow : FixedListsGrow
fixed_lists_grow = fixed_stored_one_more

pub structs_grow : StructsGrow
structs_grow = struct_stored_one_more

pub dictionaries_grow : DictionariesGrow
dictionaries_grow = dictionary_stored_one_more

pub one_more_list : OneMoreListFits
one_more_list = list_fits_one_more

pub one_more_large_list : OneMoreLargeListFits
one_more_large_list = large_list_fits_one_more

pub one_more_fixed_list : OneMoreFixedListFits
one_more_fixed_list = fixed_list_fits_one_more

pub one_more_struct : OneMoreStructFits
one_more_struct = struct_fits_one_more

pub one_more_key : OneMoreKeyFits
one_more_key = dictionary_fits_one_more

pub one_more_number : OneMoreNumberFits
one_more_number = primitives_fit_one_more

pub lists_cut : ListsCut
lists_cut = items_stored_cut

pub fixed_lists_cut : FixedListsCut
fixed_lists_cut = fixed_stored_cut

pub structs_cut : StructsCut
structs_cut = struct_stored_cut

pub dictionaries_cut : DictionariesCut
dictionaries_cut = dictionary_stored_cut

pub values_apart : ValuesDistinct
values_apart = values_distinct

pub values_grow_by_one : ValuesGrow
values_grow_by_one = values_grow

pub keys_by_place : KeysByPlace
keys_by_place = key_at

pub keys_of_new : KeysOfNew
keys_of_new = key_new
