use Rattle.std.proofs.Common.{◌∙◌, ℕ, List, rules, subst, sym, w64}
use Rattle.std.specs.Prelude.{ℤ, Ok, Err}
use Rattle.std.proofs.lemmas.Int.{to_z-of_z}
use Rattle.ipc_format_batch_reading.specs.Placing.{AreSignedNodes, IsPlaced, WritesMetadata, dictionary_of_column}
use Rattle.ipc_format_batch_reading.proofs.ColumnSizes.{slots_lengths}
use Rattle.ipc_format_chunk_writing.specs.Tracking.{given_of}
use Rattle.ipc_format_chunk_writing.proofs.PlacedBodies.{dictionary_encoded, dictionary_not_placed, dictionary_not_written}
use Rattle.ipc_format_chunk_writing.proofs.messages.encode_dictionary.Goals as goal

pub returns-in_err-placed : goal.returns-in_err-placed
returns-in_err-placed c =
    let whole = dictionary_not_placed c.in_err-placed.field-0.0 (given_of c.args.id c.args.values.now) c.in_err-placed.ensures in
    search (rules, whole)

pub returns-in_err-metadata : goal.returns-in_err-metadata
returns-in_err-metadata c =
    let given = given_of c.args.id c.args.values.now in
    let stand = subst (λ (body : List ℕ). IsPlaced c.in_ok-placed.placed body given.column) (sym c.as_slice-2.ensures.value) c.in_ok-placed.ensures in
    let whole = dictionary_not_written c.in_err-metadata.field-0.0 c.as_slice-2.result.now _ given
    (c.len-rows.ensures ∙ sym (slots_lengths c.args.values.now))
    (subst (λ (id : ℤ). WritesMetadata (Err c.in_err-metadata.field-0.0) c.as_slice-2.result.now
    (dictionary_of_column id c.len-rows.result given.column)) (to_z-of_z w64 c.args.id c.ranges.id)
    (c.in_err-metadata.ensures given.column stand)) in
    search (rules, whole)

pub returns : goal.returns
returns c =
    let given = given_of c.args.id c.args.values.now in
    let stand = subst (λ (body : List ℕ). IsPlaced c.in_ok-placed.placed body given.column) (sym c.as_slice-2.ensures.value) c.in_ok-placed.ensures in
    dictionary_encoded c.in_ok-placed.placed c.as_slice-2.result.now _ given c.in_ok-metadata.metadata _
    (c.len-rows.ensures ∙ sym (slots_lengths c.args.values.now)) stand (subst AreSignedNodes c.as_slice.ensures.value c.are_nodes.ensures)
    (subst (λ (id : ℤ). WritesMetadata (Ok c.in_ok-metadata.metadata) c.as_slice-2.result.now
    (dictionary_of_column id c.len-rows.result given.column)) (to_z-of_z w64 c.args.id c.ranges.id)
    (c.in_ok-metadata.ensures given.column stand))
    (λ i. record { metadata = c.in_ok-metadata.metadata.items; body = sym c.as_slice-2.ensures.value i })
