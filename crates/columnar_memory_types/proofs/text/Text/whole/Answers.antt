use Rattle.std.proofs.Common.{subst}
use Rattle.std.specs.Str.{IsUtf8}
use Rattle.std.proofs.lemmas.Str.{IsUtf8-string_bytes, is_utf8-from_IsUtf8}
use Rattle.columnar_memory_types.proofs.text.Text.whole.Goals as goal

pub returns-clause-text : goal.returns-clause-text
returns-clause-text c = subst IsUtf8 c.self.view_is (IsUtf8-string_bytes c.self.inside.string)

pub returns-clause-test : goal.returns-clause-test
returns-clause-test c = is_utf8-from_IsUtf8 c.args.self.now (subst IsUtf8 c.self.view_is (IsUtf8-string_bytes c.self.inside.string))
