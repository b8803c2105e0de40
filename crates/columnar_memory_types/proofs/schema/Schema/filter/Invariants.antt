use Rattle.std.proofs.Common.{◌≡◌, ◌+◌, ◌++◌, List, length}
use Rattle.std.specs.Borrow.{Bor}
use Rattle.std.specs.Vec.Iter.{into_iter_items}
use Rattle.columnar_memory_types.specs.declared.data_type.Field.{Field}
use Rattle.columnar_memory_types.specs.Kept.{KeptFrom}
use Rattle.columnar_memory_types.proofs.schema.Schema.filter.Given as goal

abbrev pub invariant-loop-index : goal.invariant-loop-index
invariant-loop-index g l =
    (length (into_iter_items l.rest) + l.index ≡ l.count)
    × ((tail : List Field)
    → KeptFrom (λ k x b. (r : Bor Field) × (r.now ≡ x) × goal.F-post g l.predicate k r b) l.index (into_iter_items l.rest) tail
    → KeptFrom (λ k x b. (r : Bor Field) × (r.now ≡ x) × goal.F-post g l.predicate k r b) 0 l.fn.self.fields (l.kept ++ tail))
