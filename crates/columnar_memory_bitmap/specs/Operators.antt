-- Operators on booleans, place by place.
use Rattle.std.specs.Prelude.{Bool, true, false, not, ◌&&◌, ◌||◌, List, map}
use Rattle.std.specs.List.{zip}
use Rattle.columnar_memory_bitmap.specs.declared.operators.Operator.{Operator}
use Rattle.columnar_memory_bitmap.specs.declared.operators.Operator.TheVariants.{And, Or, Xor}

-- whether just one of two is true
abbrev pub xor : Bool → Bool → Bool
xor true b = not b
xor false b = b

-- what an operator gives of two booleans
abbrev pub table : Operator → Bool → Bool → Bool
table And a b = a && b
table Or a b = a || b
table Xor a b = xor a b

-- a function of the booleans at each place of two lists
abbrev pub pairwise : (Bool → Bool → Bool) → List Bool → List Bool → List Bool
pairwise f xs ys = map (λ p. f p.0 p.1) (zip xs ys)
