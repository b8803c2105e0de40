use Rattle.std.proofs.Common.{◌≡◌, arith, rules}
use Rattle.std.specs.Prelude.{Some, None}
use Rattle.std.specs.Option.{option_copied}
use Rattle.ipc_format_grammar.specs.Schemas.{metadata_in, with_found}
use Rattle.ipc_format_grammar.specs.flatbuffers.Views.{table_of, vector_of}
use Rattle.ipc_format_metadata.specs.Parts.{pair_in}
use Rattle.ipc_format_metadata.proofs.MetadataPairs.{pairs-none, pairs-next, pairs-done}
use Rattle.ipc_format_metadata.proofs.pairs.metadata_in.Goals as goal

pub returns-in_default-pair_at : goal.returns-in_default-pair_at
returns-in_default-pair_at c =
    let none : pair_in c.args.bytes.now (vector_of c.in-Some-vector.vector) c.loop-k.k ≡ None = search rules in
    pairs-none c.args.bytes.now (vector_of c.in-Some-vector.vector) (metadata_in c.args.bytes.now (table_of c.args.table.now) c.args.slot)
    c.loop-k.pairs c.loop-k.k c.loop-k-test.true none c.loop-k.invariant

pub loop-k-preserved : goal.loop-k-preserved
loop-k-preserved c =
    let is : pair_in c.args.bytes.now (vector_of c.in-Some-vector.vector) c.loop-k.k ≡ Some
    (option_copied c.in-Some-pair_at.key, option_copied c.in-Some-pair_at.value) = search rules in
    let made : c.put_found.new.pairs ≡ with_found c.loop-k.pairs (option_copied c.in-Some-pair_at.key) (option_copied c.in-Some-pair_at.value) =
    search rules in
    rw made (pairs-next c.args.bytes.now (vector_of c.in-Some-vector.vector)
    (metadata_in c.args.bytes.now (table_of c.args.table.now) c.args.slot) c.loop-k.pairs (option_copied c.in-Some-pair_at.key)
    (option_copied c.in-Some-pair_at.value) c.loop-k.k is c.loop-k.invariant)

pub returns : goal.returns
returns c =
    pairs-done c.args.bytes.now (vector_of c.in-Some-vector.vector) (metadata_in c.args.bytes.now (table_of c.args.table.now) c.args.slot)
    c.loop-k.pairs c.loop-k.k (omega arith) c.loop-k.invariant
