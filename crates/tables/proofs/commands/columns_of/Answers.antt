-- One piece more, and all pieces in the end.
use Rattle.std.proofs.Common.{◌∙◌, ap, lit<}
use Rattle.std.specs.List.{filter_map}
use Rattle.std.proofs.lemmas.Iterator.Consumers.{YieldsList-at, YieldsList-end}
use Rattle.std.proofs.lemmas.Iterator.Splits.{YieldsList-from_str_split}
use Rattle.tables.specs.Number.{number_of}
use Rattle.tables.proofs.Pieces.{columns_more}
use Rattle.tables.proofs.commands.columns_of.Goals as goal

pub loop-piece-preserved : goal.loop-piece-preserved
loop-piece-preserved c =
    columns_more (λ x. x.now) c.loop-piece.yielded c.in-Some.piece c.loop-piece.columns.items _ c.loop-piece.invariant c.in_ok-push_number.ensures

pub returns : goal.returns
returns c =
    let road = YieldsList-at c.into_iter-piece-iterator.ensures.into_iter_gives (YieldsList-from_str_split 44 c.args.word.now (lit< tt)
    c.split-piece-items.ensures.text c.split-piece-items.ensures.has_more c.split-piece-items.ensures.pattern) in
    let end = YieldsList-end road c.loop-piece.yielded _ c.loop-piece.yielded_by _ _ c.in-None.is c.next.ensures.steps in
    c.loop-piece.invariant ∙ ap (filter_map number_of) end.0
