-- Ids that a field may have, and ids beside fields, compared.
use Rattle.std.specs.Prelude.{◌≡◌, ℤ, Option, None, Some}
use Rattle.std.proofs.Common.{refl, sym, ap, ◌∙◌}
use Rattle.std.specs.Bool.{Decides}
use Rattle.std.specs.Ordering.{int_eq}
use Rattle.std.specs.Option.{option_eq, is_some, unwrap_or}
use Rattle.std.proofs.lemmas.Bool.Decides.{Decides-int_eq}
use Rattle.ipc_format_metadata.specs.declared.ipc_schema.IpcField.{IpcField}
use Rattle.ipc_format_metadata.specs.declared.ipc_schema.IpcField.TheViews.{out-IpcField, roll-IpcField, roll-out-IpcField}
use mathlib.Core.Bool.{true≢false}

pub same_id : (p q : Option ℤ) → Decides (option_eq int_eq p q) (p ≡ q)
same_id None None = (λ h. refl, λ e. refl)
same_id None (Some y) = (λ h. absurd (true≢false (sym h)), λ e. absurd (true≢false (sym (ap is_some e))))
same_id (Some x) None = (λ h. absurd (true≢false (sym h)), λ e. absurd (true≢false (ap is_some e)))
same_id (Some x) (Some y) = (λ h. ap Some ((Decides-int_eq x y).0 h), λ e. (Decides-int_eq x y).1 (ap (λ p. unwrap_or p x) e))

pub same_parts : (a b : IpcField)
    → (out-IpcField a).dictionary_id ≡ (out-IpcField b).dictionary_id → (out-IpcField a).fields ≡ (out-IpcField b).fields → a ≡ b
same_parts a b own below =
    let parts : out-IpcField a ≡ out-IpcField b = λ i. record { fields = below i; dictionary_id = own i } in
    sym (roll-out-IpcField a) ∙ ap roll-IpcField parts ∙ roll-out-IpcField b
