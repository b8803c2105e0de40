-- The greatest offsets.
use Rattle.std.proofs.Common.{◌≡◌, ◌∙◌, ℕ, List, Bool, true, false, map, take, refl, sym, ap}
use Rattle.std.proofs.lemmas.List.{take-map}
use Rattle.std.specs.Prelude.{if◌then◌else◌}
use Rattle.nested_arrays_builder_parts.specs.Growing.{most_bytes}

pub greatest_is : (is_large : Bool) (greatest : ℕ) → greatest ≡ (if is_large then 0x7fff_ffff_ffff_ffff else 0x7fff_ffff) → greatest ≡ most_bytes
    is_large
greatest_is true greatest is = is
greatest_is false greatest is = is

-- the first numbers of some values are those of the first values
pub first_mapped : {T A : Type 0} (f : T → A) (n : ℕ) (xs ys : List T) → ys ≡ take n xs → map f ys ≡ take n (map f xs)
first_mapped f n xs ys is = ap (map f) is ∙ sym (take-map f n xs)

pub ruleset cuts = (first_mapped)

pub ruleset greatest = (greatest_is)
