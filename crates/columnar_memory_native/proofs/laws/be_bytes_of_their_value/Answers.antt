use Rattle.std.proofs.Common.{◌∙◌, ℕ, ◌<◌, List, false, ap, subst, get_or}
use Rattle.columnar_memory_native.specs.Numbers.{IsNative, bytes_of}
use Rattle.columnar_memory_native.proofs.ByteLaws.{bytes_of-numbers_in}
use Rattle.columnar_memory_native.proofs.laws.be_bytes_of_their_value.Goals as goal

pub returns : goal.returns
returns g c =
    let kind = g.T.NativeType.PRIMITIVE in
    let native = subst (IsNative kind) c.from_be_bytes.ensures.value c.from_be_bytes.ensures.native in
    let small : (i : ℕ) → get_or (g.T.Bytes.AsSlice.items c.args.bytes) i 0 < 256 = λ i.
    subst (λ (xs : List ℕ). get_or xs i 0 < 256) c.as_slice.ensures (c.are_bytes.ensures i) in
    c.to_be_bytes.ensures.bytes ∙ ap (bytes_of kind false) c.from_be_bytes.ensures.value
    ∙ bytes_of-numbers_in kind false _ native (c.requires ∙ g.met.T.NativeType.size_law) small
