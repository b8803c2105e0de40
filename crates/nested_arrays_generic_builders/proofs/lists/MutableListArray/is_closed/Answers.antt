use Rattle.std.proofs.Common.{◌≡◌, ◌∙◌, ap, sym}
use Rattle.std.proofs.lemmas.Bool.{eq-eqb, eqb-true}
use Rattle.nested_arrays_nulls.specs.columnar_memory.Spans.{last_of, number_of}
use Rattle.nested_arrays_nulls.specs.columns.StoredColumns.{column_len}
use Rattle.nested_arrays_generic_builders.proofs.lists.MutableListArray.is_closed.Goals as goal

pub returns : goal.returns
returns g c =
    let own = c.self.inside in
    let items = column_len (g.M.MutableArray.column own.values) in
    let ended : c.to_usize.result ≡ last_of own.offsets = ap number_of (sym c.to_usize.ensures.0 ∙ c.last.ensures) in
    rw (← c.self.view_is) (
      λ is. sym ended ∙ eqb-true c.to_usize.result c.len.result is ∙ c.len.ensures,
      λ same. eq-eqb c.to_usize.result c.len.result (ended ∙ same ∙ sym c.len.ensures),
    )
