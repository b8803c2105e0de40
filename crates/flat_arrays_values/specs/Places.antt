-- Walks over the places of an array, from both ends.
use Rattle.std.specs.Prelude.{◌≡◌, ◌+◌, ◌-◌, ◌<◌, ℕ, Option, Some, None}
use Rattle.std.specs.Iterator.{Count, at_most}

-- an array, and the places of it that are left: from the first one up to the end, which is none of them
pub record PlacesLeft (A : Type 0) : Type 0 where
  pub array : A
  pub first : ℕ
  pub stop : ℕ

module _ {A X : Type 0} (is_item : A → ℕ → X → Type 0) where
  -- a step gives what stands at the first place that is left
  abbrev pub StepsFirst : PlacesLeft A → Option X → PlacesLeft A → Type 0
  StepsFirst s None t = (s.first ≡ s.stop) × (t ≡ s)
  StepsFirst s (Some x) t = (s.first < s.stop) × is_item s.array s.first x × (t ≡ record s { first = s.first + 1 })

  -- a step gives what stands at the last place that is left
  abbrev pub StepsLast : PlacesLeft A → Option X → PlacesLeft A → Type 0
  StepsLast s None t = (s.first ≡ s.stop) × (t ≡ s)
  StepsLast s (Some x) t = (s.first < s.stop) × is_item s.array (s.stop - 1) x × (t ≡ record s { stop = s.stop - 1 })

abbrev pub places_count : {A : Type 0} → PlacesLeft A → Count
places_count s = at_most (s.stop - s.first)
