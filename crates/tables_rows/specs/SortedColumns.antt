-- Columns that are put in the order in which they stand.
use Rattle.std.specs.Prelude.{ℕ, List}
use Rattle.std.specs.List.Sorted.{IsNonDecreasing, IsPermutation}

-- the same numbers as others, none of them below one before it
pub record AreSorted (columns rising : List ℕ) : Type 0 where
  pub same : IsPermutation columns rising
  pub rise : IsNonDecreasing rising
