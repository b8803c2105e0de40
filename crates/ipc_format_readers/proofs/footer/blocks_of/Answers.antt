-- The blocks are read one after another.
use Rattle.std.proofs.Common.{rules, arith, ◌≡◌, ◌+◌, ◌*◌, List, [], ◌∷◌, ◌++◌, map, sym, ap, subst, ◌∙◌}
use Rattle.std.proofs.lemmas.List.{map-append}
use Rattle.std.specs.Prelude.{Some, None}
use Rattle.ipc_format_chunk_writing.specs.flatbuffers.Views.{vector_of}
use Rattle.ipc_format_chunk_writing.specs.grammar.Files.{Block, block_at}
use Rattle.ipc_format_readers.specs.FileStarts.{block_view, blocks_view}
use Rattle.ipc_format_readers.proofs.BlockLists.{AreLeft, none_read, one_read, one_missing, all_read}
use Rattle.ipc_format_readers.proofs.footer.blocks_of.Goals as goal

pub loop-k-init : goal.loop-k-init
loop-k-init c =
    let none : blocks_view c.new-blocks.result ≡ [] = search rules in
    subst (λ (read : List Block). AreLeft c.args.footer.now (vector_of c.args.vector.now) read 0) (sym none)
    (none_read c.args.footer.now (vector_of c.args.vector.now))

pub returns-in_default : goal.returns-in_default
returns-in_default c =
    let bytes = c.args.footer.now in
    let v = vector_of c.args.vector.now in
    let none : block_at bytes (v.place + 24 * c.loop-k.k) ≡ None = search rules in
    one_missing bytes v (blocks_view c.loop-k.blocks) c.loop-k.k c.loop-k-test.true none c.loop-k.invariant

pub loop-k-preserved : goal.loop-k-preserved
loop-k-preserved c =
    let bytes = c.args.footer.now in
    let v = vector_of c.args.vector.now in
    let block = c.in-Some.block in
    let found : block_at bytes (v.place + 24 * c.loop-k.k) ≡ Some (block_view block) = search rules in
    let pushed : c.push.new.self.items ≡ c.loop-k.blocks.items ++ block ∷ [] = search rules in
    let seen : blocks_view c.push.new.self ≡ blocks_view c.loop-k.blocks ++ block_view block ∷ [] =
    ap (map block_view) pushed ∙ map-append block_view c.loop-k.blocks.items (block ∷ []) in
    subst (λ (read : List Block). AreLeft bytes v read (c.loop-k.k + 1)) (sym seen)
    (one_read bytes v (blocks_view c.loop-k.blocks) c.loop-k.k (block_view block) found c.loop-k.invariant)

pub returns : goal.returns
returns c =
    all_read c.args.footer.now (vector_of c.args.vector.now) (blocks_view c.loop-k.blocks) c.loop-k.k (omega arith) (omega arith) c.loop-k.invariant
