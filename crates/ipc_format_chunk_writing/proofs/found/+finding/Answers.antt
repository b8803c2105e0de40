use Rattle.std.proofs.Common.{rules, arith, ◌≡◌, ◌∙◌, ◌++◌, ap, map, refl, subst, sym, true, w64}
use Rattle.std.specs.Prelude.{None}
use Rattle.std.proofs.lemmas.Int.{to_z-of_z}
use Rattle.ipc_format_batch_reading.specs.nested_arrays.AnyColumns.{column_of}
use Rattle.ipc_format_batch_reading.specs.nested_arrays.Childless.{is_childless}
use Rattle.ipc_format_batch_reading.specs.nested_arrays.declared.Node.TheVariants as nodes
use Rattle.columnar_memory_types.specs.Layouts.{physical_type}
use Rattle.ipc_format_batch_reading.specs.columns.StoredColumns.{Column, column_size, column_type}
use Rattle.ipc_format_batch_reading.specs.grammar.GivenDictionaries.{given_stored, id_or_0}
use Rattle.ipc_format_batch_reading.specs.grammar.Schemas.{ids}
use Rattle.ipc_format_batch_reading.specs.metadata.Views.{ids_views}
use Rattle.ipc_format_chunk_writing.specs.Found.{given_in}
use Rattle.ipc_format_chunk_writing.proofs.Bare.{none_given}
use Rattle.ipc_format_chunk_writing.proofs.Finding.{found_last, found_none, id_is, one_size}
use Rattle.ipc_format_chunk_writing.proofs.found.+finding.Goals as goal

pub find-returns-in-Flat : goal.find-returns-in-Flat
find-returns-in-Flat t c =
    let here = ids c.args.own (ids_views c.args.below.now) in
    let flat : Column = c.in-Flat.flat in
    let same : c.args.array.now ≡ flat = cc (ap column_of c.in-Flat.is) in
    let alone = subst (λ (a : Column). is_childless (physical_type (column_type a)) ≡ true) (sym same) c.lies.ensures in
    found_none _ _ (given_stored here c.args.array.now) refl (none_given here c.args.array.now c.whole.ensures alone)

pub find-returns-in_ok-push-in-Dictionary : goal.find-returns-in_ok-push-in-Dictionary
find-returns-in_ok-push-in-Dictionary t c =
    let below = ids_views c.args.below.now in
    let here = ids c.args.own below in
    let node = c.in-Dictionary.node in
    let whole : Column = column_of (nodes.Dictionary node) in
    let same : c.args.array.now ≡ whole = cc (ap column_of c.in-Dictionary.is) in
    let values : Column = node.values.value in
    let first : c.deref-in-Dictionary.result.now ≡ values = search rules in
    let second : c.deref-in-Dictionary-2.result.now ≡ values = search rules in
    found_last c.args.found.now.items c.find.new.found.items c.push.new.self.items (given_stored (ids None below) values) _
    (id_or_0 c.args.own) values
    (given_stored here c.args.array.now)
    (subst (λ (a : Column). map given_in c.find.new.found.items ≡ map given_in c.args.found.now.items ++ given_stored (ids None below) a) first
    c.in_ok-find-in-Dictionary.ensures)
    c.in_ok-push-in-Dictionary.ensures.items
    (to_z-of_z w64 c.unwrap_or.result (search rules) ∙ c.unwrap_or.ensures ∙ id_is c.args.own) second (sym (ap (given_stored here) same))

pub find_each-find-requires : goal.find_each-find-requires
find_each-find-requires t c =
    let most = one_size c.args.arrays.now c.loop-array.array-index c.array-item.result (omega arith) in
    let size = ap column_size c.array-item.is in
    search (rules, most, size)
