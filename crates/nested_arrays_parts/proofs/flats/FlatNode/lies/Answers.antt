use Rattle.std.proofs.Common.{refl}
use Rattle.nested_arrays_parts.proofs.LaidVariants.{laid_as, numbers_laid}
use Rattle.nested_arrays_parts.proofs.flats.FlatNode.lies.Goals as goal

pub returns-in-Null : goal.returns-in-Null
returns-in-Null c = laid_as _ _ _ _ c.in-Null.is c.data_type-data_type.ensures.value c.data_type-data_type.ensures.fits refl

pub returns-in-Boolean : goal.returns-in-Boolean
returns-in-Boolean c =
    laid_as _ _ _ _ c.in-Boolean.is c.data_type-data_type-in-Boolean.ensures.value c.data_type-data_type-in-Boolean.ensures.fits refl

pub returns-in-Primitive : goal.returns-in-Primitive
returns-in-Primitive c =
    numbers_laid _ _ _ c.in-Primitive.is c.data_type-data_type-in-Primitive.ensures.value c.data_type-data_type-in-Primitive.ensures.fits

pub returns-in-Binary : goal.returns-in-Binary
returns-in-Binary c =
    laid_as _ _ _ _ c.in-Binary.is c.data_type-data_type-in-Binary.ensures.value c.data_type-data_type-in-Binary.ensures.fits refl

pub returns-in-LargeBinary : goal.returns-in-LargeBinary
returns-in-LargeBinary c =
    laid_as _ _ _ _ c.in-LargeBinary.is c.data_type-data_type-in-LargeBinary.ensures.value c.data_type-data_type-in-LargeBinary.ensures.fits refl

pub returns-in-FixedSizeBinary : goal.returns-in-FixedSizeBinary
returns-in-FixedSizeBinary c =
    laid_as _ _ _ _ c.in-FixedSizeBinary.is c.data_type-data_type-in-FixedSizeBinary.ensures.value
    c.data_type-data_type-in-FixedSizeBinary.ensures.fits refl

pub returns-in-Utf8 : goal.returns-in-Utf8
returns-in-Utf8 c = laid_as _ _ _ _ c.in-Utf8.is c.data_type-data_type-in-Utf8.ensures.value c.data_type-data_type-in-Utf8.ensures.fits refl

pub returns-in-LargeUtf8 : goal.returns-in-LargeUtf8
returns-in-LargeUtf8 c =
    laid_as _ _ _ _ c.in-LargeUtf8.is c.data_type-data_type-in-LargeUtf8.ensures.value c.data_type-data_type-in-LargeUtf8.ensures.fits refl
