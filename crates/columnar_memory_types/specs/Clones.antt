-- What a clone of several items is, where the items' own clones are known by their type.
use Rattle.std.specs.Prelude.{◌≡◌, List}

-- where each item's clone equals the item, the copied list equals the list
abbrev pub EqualsWhereClonesDo : {T : Type 0} → (T → T → Type 0) → List T → List T → Type 0
EqualsWhereClonesDo {T} C xs ys = ((x y : T) → C x y → y ≡ x) → ys ≡ xs
