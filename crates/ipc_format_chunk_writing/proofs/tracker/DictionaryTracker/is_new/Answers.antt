-- What stands under the id decides.
use Rattle.std.proofs.Common.{◌≡◌, ◌∙◌, true, false, ap, rules, sym, w64}
use Rattle.std.specs.Prelude.{Some, None, option_copied}
use Rattle.std.specs.Map.{lookup}
use Rattle.std.specs.Ordering.{int_eq}
use Rattle.std.proofs.lemmas.Int.{to_z-of_z}
use Rattle.ipc_format_chunk_writing.specs.Tracking.{tracked}
use Rattle.ipc_format_chunk_writing.proofs.Tracking.{first_compares, other_compares, refused_compares, same_compares}
use Rattle.ipc_format_chunk_writing.proofs.tracker.DictionaryTracker.is_new.Goals as goal

pub returns-in_default : goal.returns-in_default
returns-in_default c =
    let entries = (tracked c.args.self.now).0 in
    let is : option_copied c.last.result ≡ None = search rules in
    first_compares (tracked c.args.self.now) c.args.id c.args.values.now
    (ap (λ id. lookup (int_eq id) entries) (sym (to_z-of_z w64 c.args.id c.ranges.id)) ∙ sym c.last.ensures ∙ is)

pub returns-then-branch : goal.returns-then-branch
returns-then-branch c =
    let entries = (tracked c.args.self.now).0 in
    let is : option_copied c.last.result ≡ Some c.in-Some.last.now = search rules in
    same_compares (tracked c.args.self.now) c.args.id c.args.values.now c.in-Some.last.now
    (ap (λ id. lookup (int_eq id) entries) (sym (to_z-of_z w64 c.args.id c.ranges.id)) ∙ sym c.last.ensures ∙ is)
    (sym c.in_ok-says_same.ensures ∙ c.if-branch.true)

pub returns-then-self : goal.returns-then-self
returns-then-self c =
    let entries = (tracked c.args.self.now).0 in
    let is : option_copied c.last.result ≡ Some c.in-Some.last.now = search rules in
    refused_compares (tracked c.args.self.now) c.args.id c.args.values.now c.in-Some.last.now
    (ap (λ id. lookup (int_eq id) entries) (sym (to_z-of_z w64 c.args.id c.ranges.id)) ∙ sym c.last.ensures ∙ is)
    (sym c.in_ok-says_same.ensures ∙ c.if-branch.false) c.if-self.true

pub returns : goal.returns
returns c =
    let entries = (tracked c.args.self.now).0 in
    let is : option_copied c.last.result ≡ Some c.in-Some.last.now = search rules in
    other_compares (tracked c.args.self.now) c.args.id c.args.values.now c.in-Some.last.now
    (ap (λ id. lookup (int_eq id) entries) (sym (to_z-of_z w64 c.args.id c.ranges.id)) ∙ sym c.last.ensures ∙ is)
    (sym c.in_ok-says_same.ensures ∙ c.if-branch.false) c.if-self.false
