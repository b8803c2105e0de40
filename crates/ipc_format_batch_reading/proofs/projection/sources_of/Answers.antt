-- Each place is its own source at first, and then what the entries make it.
use Rattle.std.proofs.Common.{◌≡◌, ◌∙◌, ◌++◌, ◌∷◌, [], ap, sym, rules, arith}
use Rattle.ipc_format_batch_reading.proofs.Sources.{put_first, put_next, range_more}
use Rattle.ipc_format_batch_reading.proofs.projection.sources_of.Goals as goal

pub loop-place-preserved : goal.loop-place-preserved
loop-place-preserved c =
    let pushed : c.push.new.self.items ≡ c.loop-place.sources.items ++ c.loop-place.place ∷ [] = search rules in
    pushed ∙ ap (λ ks. ks ++ c.loop-place.place ∷ []) c.loop-place.invariant ∙ sym (range_more c.loop-place.place)

pub loop-old-init : goal.loop-old-init
loop-old-init c =
    let same : c.into_iter-old-iterator.result ≡ c.args.map.now.entries = search rules in
    put_first c.args.count c.loop-place.place c.args.map.now.entries c.into_iter-old-iterator.result c.loop-place.sources.items
    c.loop-place.invariant (omega arith) same c.requires

pub loop-old-preserved : goal.loop-old-preserved
loop-old-preserved c =
    let is : c.loop-old.old-iterator ≡ (c.in-Some.old.now, c.in-Some.new.now) ∷ c.next.new.self = search rules in
    put_next c.args.count c.args.map.now.entries c.loop-old.old-iterator c.next.new.self c.loop-old.sources.items c.in-Some.old.now
    c.in-Some.new.now is c.loop-old.invariant
