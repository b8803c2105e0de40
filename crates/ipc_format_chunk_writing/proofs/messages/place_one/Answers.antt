use Rattle.std.proofs.Common.{◌∙◌, refl, rules, true, ap}
use Rattle.std.specs.Prelude.{pos}
use Rattle.ipc_format_batch_reading.specs.Bodies.{Parts, parts, with_column}
use Rattle.ipc_format_batch_reading.specs.grammar.StoredEncoding.{encode_stored}
use Rattle.ipc_format_batch_reading.proofs.Joined.{all_placed}
use Rattle.ipc_format_chunk_writing.proofs.messages.place_one.Goals as goal

pub returns : goal.returns
returns c =
    let column = encode_stored true c.args.array.now in
    all_placed _ column _ _ _ _ refl refl (c.in_ok-write.ensures ∙ ap (λ (p : Parts). with_column p column)
    (λ i. parts (c.none_placed-placed.ensures.nodes i) (c.none_placed-placed.ensures.buffers i) (c.requires i) (pos 0)))
