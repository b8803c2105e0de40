use Rattle.std.proofs.Common.{◌≡◌, ◌∙◌, ap, sym}
use Rattle.std.specs.Prelude.{◌%◌}
use Rattle.std.proofs.lemmas.Bool.{eq-eqb, eqb-true}
use Rattle.nested_arrays_generic_builders.specs.nulls.arrays.Lengths.{size_of}
use Rattle.nested_arrays_generic_builders.specs.nulls.columns.StoredColumns.{column_len}
use Rattle.nested_arrays_sized_builders.proofs.FilledMarks.{whole_by_rest}
use Rattle.nested_arrays_sized_builders.proofs.fixed_lists.MutableFixedSizeListArray.has_whole_lists.Goals as goal

pub returns : goal.returns
returns g c =
    let own = c.self.inside in
    let items = column_len (g.M.MutableArray.column own.values) in
    let whole = whole_by_rest items own.size (size_of own.data_type) c.self.invariant.wide in
    let rest : c.len.result % own.size ≡ items % own.size = λ j. c.len.ensures j % own.size in
    rw (← c.self.view_is) (
      λ is. whole.0 (sym rest ∙ eqb-true (c.len.result % own.size) 0 is),
      λ same. eq-eqb (c.len.result % own.size) 0 (rest ∙ whole.1 same),
    )
