use Rattle.std.proofs.Common.{◌∙◌, ap, refl, sym}
use Rattle.nested_arrays_parts.specs.columnar_memory.Numbers.{first_number}
use Rattle.nested_arrays_arrays.proofs.KeyPlaces.{key_found}
use Rattle.nested_arrays_parts.specs.columns.StoredColumns.{place_of}
use Rattle.nested_arrays_arrays.proofs.keys.key_in.Goals as goal

pub returns : goal.returns
returns g c =
    let key = c.value.result in
    c.place.ensures ∙ ap (λ n. place_of (first_number n)) (sym (g.met.K.Index.numbers_law key))
    ∙ key_found g.K.NativeType.numbers c.args.keys.now.values c.args.i key _ c.value.ensures refl
