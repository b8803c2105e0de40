use Rattle.std.proofs.Common.{◌∙◌, ap}
use Rattle.nested_arrays_arrays.specs.Variants.{lies_well}
use Rattle.nested_arrays_arrays.proofs.CutNodes.{fits_from}
use Rattle.nested_arrays_arrays.proofs.LaidNodes.{fixed_lists_lies, keys_lie, lists_lie, map_lies, struct_lies, union_lies}
use Rattle.nested_arrays_arrays.proofs.any.Node.lies.Goals as goal

pub returns-in-Flat : goal.returns-in-Flat
returns-in-Flat c = ap lies_well c.in-Flat.is ∙ c.lies.ensures

pub returns-in-List : goal.returns-in-List
returns-in-List c = lists_lie _ _ c.in-List.is (fits_from _ _ c.in-List.is c.requires)

pub returns-in-FixedSizeList : goal.returns-in-FixedSizeList
returns-in-FixedSizeList c = fixed_lists_lies _ _ c.in-FixedSizeList.is c.lies-in-FixedSizeList.ensures

pub returns-in-Struct : goal.returns-in-Struct
returns-in-Struct c = struct_lies _ _ c.in-Struct.is c.lies-in-Struct.ensures

pub returns-in-Map : goal.returns-in-Map
returns-in-Map c = map_lies _ _ c.in-Map.is c.whole.ensures.1

pub returns-in-Union : goal.returns-in-Union
returns-in-Union c = union_lies _ _ c.in-Union.is c.lies-in-Union.ensures

pub returns-in-Dictionary : goal.returns-in-Dictionary
returns-in-Dictionary c = ap lies_well c.in-Dictionary.is ∙ keys_lie _ _ (fits_from _ _ c.in-Dictionary.is c.requires)
