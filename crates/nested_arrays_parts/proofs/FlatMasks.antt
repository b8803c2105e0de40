-- Masks of arrays without children.
use Rattle.std.proofs.Common.{◌≡◌, ◌∙◌, List, true, ap, subst}
use Rattle.std.specs.Prelude.{Bool, Option, Result, Ok, Err}
use Rattle.nested_arrays_flat.specs.columnar_memory.declared.Error.{Error}
use Rattle.nested_arrays_flat.specs.columns.SoundColumns.{is_sound}
use Rattle.nested_arrays_flat.specs.columns.StoredColumns.{Column}
use Rattle.nested_arrays_flat.specs.ColumnMasks.{ReplacesMask}
pub use Rattle.nested_arrays_flat.proofs.ColumnParts.{flat_takes}
pub use Rattle.nested_arrays_flat.proofs.SoundFlats.{masked_from}

-- where the mask of a column is replaced, that of an equal one is
pub replaces_along : (a b c d : Column) (mask : Option (List Bool)) (r s : Result (Unit {0}) Error) → a ≡ b → c ≡ d → r ≡ s
    → ReplacesMask a mask c r → ReplacesMask b mask d s
replaces_along a b c d mask r s before after answers h =
    subst (λ (t : Result (Unit {0}) Error). ReplacesMask b mask d t) answers
    (subst (λ (y : Column). ReplacesMask b mask y r) after (subst (λ (x : Column). ReplacesMask x mask c r) before h))

-- a sound column is sound after its mask is replaced or not
pub sound_replaced : (before after : Column) (mask : Option (List Bool)) (r : Result (Unit {0}) Error) → is_sound before ≡ true
    → ReplacesMask before mask after r → is_sound after ≡ true
sound_replaced before after mask (Ok done) sound h = ap is_sound h.1 ∙ h.0.2
sound_replaced before after mask (Err e) sound h = ap is_sound h.2 ∙ sound
