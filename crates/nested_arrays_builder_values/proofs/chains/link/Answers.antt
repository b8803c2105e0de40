use Rattle.std.proofs.Common.{◌≡◌, ◌∙◌, ◌+◌, length, get_or, [], ◌∷◌, ◌++◌, sym, ap, subst, arith, length-append}
use Rattle.std.specs.Prelude.{slice_set}
use Rattle.std.proofs.lemmas.List.{get_or_default}
use Rattle.nested_arrays_builder_values.specs.Newest.{IsLinked, bucket_of}
use Rattle.nested_arrays_builder_values.proofs.LinkedHashes.{bucket_within, linked_more}
use Rattle.nested_arrays_builder_values.proofs.chains.link.Goals as goal

pub returns-clause-ok : goal.returns-clause-ok
returns-clause-ok c = λ hashes q is k.
    let heads = c.args.heads.now.items in
    let before = c.args.before.now.items in
    let hash = c.args.hash in
    let n = length heads in
    let read : c.index.result.now ≡ get_or heads (bucket_of n hash) 0 = grind (arith, get_or_default) in
    let pushed : c.push.new.self.items ≡ before ++ get_or heads (bucket_of n hash) 0 ∷ [] =
    c.in_ok-push.ensures.items ∙ ap (λ x. before ++ x ∷ []) read in
    let longer = length-append before (get_or heads (bucket_of n hash) 0 ∷ []) in
    let count : c.len-2.result ≡ q + 1 = omega (arith, c.len-2.ensures, k.long, ap length pushed, longer) in
    let wide : c.len.result ≡ n = omega (arith, c.len.ensures) in
    let more = linked_more n heads before hashes q hash is (bucket_within n hash (omega (arith, c.requires))) k in
    let at : c.bucket_of-bucket.result ≡ bucket_of n hash = c.bucket_of-bucket.ensures.value ∙ ap (λ m. bucket_of m hash) wide in
    subst (λ bucket. IsLinked n (slice_set heads bucket c.len-2.result) c.push.new.self.items hashes (q + 1)) (sym at)
    (subst (λ m. IsLinked n (slice_set heads (bucket_of n hash) m) c.push.new.self.items hashes (q + 1)) (sym count)
    (subst (λ xs. IsLinked n (slice_set heads (bucket_of n hash) (q + 1)) xs hashes (q + 1)) (sym pushed) more))
