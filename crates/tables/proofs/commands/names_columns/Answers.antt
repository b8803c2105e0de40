-- One piece isn't a number, or all are.
use Rattle.std.proofs.Common.{◌≡◌, ◌∙◌, Bool, false, ap, length, lit<, sym}
use Rattle.std.specs.Prelude.{codes, not, ◌||◌}
use Rattle.std.specs.List.{list_all}
use Rattle.std.specs.Option.{is_some}
use Rattle.std.specs.Str.{bytes_eq}
use Rattle.std.proofs.lemmas.Iterator.Consumers.{YieldsList-at, YieldsList-end, YieldsList-turn}
use Rattle.std.proofs.lemmas.Iterator.Splits.{YieldsList-from_str_split}
use Rattle.tables.specs.Columns.{pieces}
use Rattle.tables.specs.Number.{is_number}
use Rattle.tables.proofs.Pieces.{not_all_numbers}
use Rattle.tables.proofs.commands.names_columns.Goals as goal

pub returns-then-is_none : goal.returns-then-is_none
returns-then-is_none c =
    let word = c.args.word.now in
    let road = YieldsList-at c.into_iter-piece-iterator.ensures.into_iter_gives (YieldsList-from_str_split 44 word (lit< tt)
    c.split-piece-items.ensures.text c.split-piece-items.ensures.has_more c.split-piece-items.ensures.pattern) in
    let turn = YieldsList-turn road c.loop-piece.yielded _ c.loop-piece.yielded_by _ _ c.in-Some.piece c.in-Some.is c.next.ensures.steps in
    let none : is_some c.number.result ≡ false = c.is_none.ensures ∙ ap not c.if-is_none.true in
    let first : bytes_eq word (codes "-") ≡ false = sym c.eq.ensures ∙ c.if-eq.false in
    let fails = not_all_numbers (pieces word) (length c.loop-piece.yielded) c.in-Some.piece.now c.number.result turn.0 turn.1 c.number.ensures none in
    sym (ap (λ (b : Bool). b || list_all is_number (pieces word)) first ∙ fails)

pub returns : goal.returns
returns c =
    let word = c.args.word.now in
    let road = YieldsList-at c.into_iter-piece-iterator.ensures.into_iter_gives (YieldsList-from_str_split 44 word (lit< tt)
    c.split-piece-items.ensures.text c.split-piece-items.ensures.has_more c.split-piece-items.ensures.pattern) in
    let end = YieldsList-end road c.loop-piece.yielded _ c.loop-piece.yielded_by _ _ c.in-None.is c.next.ensures.steps in
    let first : bytes_eq word (codes "-") ≡ false = sym c.eq.ensures ∙ c.if-eq.false in
    sym (ap (λ (b : Bool). b || list_all is_number (pieces word)) first ∙ (ap (list_all is_number) (sym end.0) ∙ c.loop-piece.invariant))
