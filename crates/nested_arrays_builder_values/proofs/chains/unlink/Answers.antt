use Rattle.std.proofs.Common.{◌≡◌, ◌∙◌, ◌+◌, ◌<◌, ℕ, length, get_or, take, [], ◌∷◌, sym, ap, subst, arith, length-append}
use Rattle.std.specs.Prelude.{slice_set}
use Rattle.std.proofs.lemmas.List.{take_at}
use Rattle.nested_arrays_builder_values.specs.Newest.{IsLinked, bucket_of}
use Rattle.nested_arrays_builder_values.proofs.LinkedHashes.{bucket_within, linked_less, linked_as, at_end, before_end}
use Rattle.nested_arrays_builder_values.proofs.chains.unlink.Goals as goal

pub returns-in-Some-pop-clause-linked : goal.returns-in-Some-pop-clause-linked
returns-in-Some-pop-clause-linked c =
    let heads = c.args.heads.now.items in
    let before = c.args.before.now.items in
    let hashes = c.args.hashes.now.items in
    let hash = c.in-Some.hash in
    let n = length heads in
    let q = length c.pop.new.self.items in
    let long : length hashes ≡ q + 1 = ap length c.in-Some.ensures.items ∙ length-append c.pop.new.self.items (hash ∷ []) in
    let is : get_or hashes q 0 ≡ hash = ap (λ xs. get_or xs q 0) c.in-Some.ensures.items ∙ at_end c.pop.new.self.items hash 0 in
    let chained : IsLinked n heads before hashes (q + 1) = subst (IsLinked n heads before hashes) long c.requires.linked in
    let less = linked_less n heads before hashes q hash is (bucket_within n hash (omega (arith, c.requires.room))) chained in
    let size : length before ≡ length c.pop-in-Some.new.self.items + 1 =
    ap length c.in-Some-pop.ensures.items ∙ length-append c.pop-in-Some.new.self.items (c.in-Some-pop.older ∷ []) in
    let rest : length c.pop-in-Some.new.self.items ≡ q = omega (arith, size, chained.long) in
    let older : get_or before q 0 ≡ c.in-Some-pop.older = ap (λ m. get_or before m 0) (sym rest)
    ∙ ap (λ xs. get_or xs (length c.pop-in-Some.new.self.items) 0) c.in-Some-pop.ensures.items
    ∙ at_end c.pop-in-Some.new.self.items c.in-Some-pop.older 0 in
    let kept : take q before ≡ c.pop-in-Some.new.self.items = ap (take q) c.in-Some-pop.ensures.items
    ∙ take_at c.pop-in-Some.new.self.items (c.in-Some-pop.older ∷ []) q rest in
    let wide : c.len.result ≡ n = omega (arith, c.len.ensures) in
    let own : (i : ℕ) → i < q → get_or c.pop.new.self.items i 0 ≡ get_or hashes i 0 =
    λ i lt. sym (ap (λ xs. get_or xs i 0) c.in-Some.ensures.items ∙ before_end c.pop.new.self.items hash 0 i lt) in
    let at : c.bucket_of-bucket.result ≡ bucket_of n hash = c.bucket_of-bucket.ensures.value ∙ ap (λ m. bucket_of m hash) wide in
    subst (λ bucket. IsLinked n (slice_set heads bucket c.in-Some-pop.older) c.pop-in-Some.new.self.items c.pop.new.self.items q) (sym at)
    (linked_as n q hashes c.pop.new.self.items own (slice_set heads (bucket_of n hash) c.in-Some-pop.older) c.pop-in-Some.new.self.items
    (subst (λ x. IsLinked n (slice_set heads (bucket_of n hash) x) c.pop-in-Some.new.self.items hashes q) older
    (subst (λ xs. IsLinked n (slice_set heads (bucket_of n hash) (get_or before q 0)) xs hashes q) kept less)))
