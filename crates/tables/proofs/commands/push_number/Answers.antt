-- The word writes a number, or none.
use Rattle.std.proofs.Common.{◌≡◌, ◌∙◌, ℕ, [], ◌∷◌, ◌++◌, ap, rules, sym}
use Rattle.std.specs.Prelude.{Option}
use Rattle.std.specs.List.{cons_option}
use Rattle.std.proofs.lemmas.List.{append-nil}
use Rattle.tables.proofs.commands.push_number.Goals as goal

pub returns-in_ok-push-in-Some : goal.returns-in_ok-push-in-Some
returns-in_ok-push-in-Some c =
    let numbers = c.args.numbers.now.items in
    let pushed : c.push.new.self.items ≡ numbers ++ c.in-Some.it ∷ [] = search rules in
    pushed ∙ ap (λ (found : Option ℕ). numbers ++ cons_option found []) c.in-Some.ensures

pub returns-in-None : goal.returns-in-None
returns-in-None c =
    let numbers = c.args.numbers.now.items in
    sym (ap (λ (found : Option ℕ). numbers ++ cons_option found []) (sym c.in-None.ensures) ∙ append-nil numbers)
