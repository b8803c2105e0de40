use Rattle.std.proofs.Common.{◌≡◌, ◌∙◌, ◌+◌, ◌<◌, ℕ, length, get_or, [], ◌∷◌, sym, ap, subst, arith, length-append}
use Rattle.nested_arrays_builder_values.specs.Newest.{IsLinked}
use Rattle.nested_arrays_builder_values.proofs.LinkedHashes.{linked_as, at_end, before_end}
use Rattle.nested_arrays_builder_values.proofs.places.push_linked.Goals as goal

pub returns-in-Ok-clause-kept : goal.returns-in-Ok-clause-kept
returns-in-Ok-clause-kept c =
    let heads = c.args.heads.now.items in
    let before = c.args.before.now.items in
    let hashes = c.args.hashes.now.items in
    let hash = c.args.hash in
    let more = c.push.new.self.items in
    let q = length hashes in
    let own : (i : ℕ) → i < q → get_or more i 0 ≡ get_or hashes i 0 =
    λ i lt. ap (λ xs. get_or xs i 0) c.in_ok-push.ensures.items ∙ before_end hashes hash 0 i lt in
    let is : get_or more q 0 ≡ hash = ap (λ xs. get_or xs q 0) c.in_ok-push.ensures.items ∙ at_end hashes hash 0 in
    let long : length more ≡ q + 1 = ap length c.in_ok-push.ensures.items ∙ length-append hashes (hash ∷ []) in
    let linked = c.in-Ok.ensures.ok more q is (linked_as (length heads) q hashes more own heads before c.requires.kept.linked) in
    record {
      few = omega (arith, long, c.requires.room, c.in-Ok.ensures.count);
      linked = subst (λ n. IsLinked n c.link.new.heads.items c.link.new.before.items more (length more)) (sym c.in-Ok.ensures.count)
          (subst (IsLinked (length heads) c.link.new.heads.items c.link.new.before.items more) (sym long) linked);
    }
