use Rattle.std.proofs.Common.{◌∙◌, sym}
use Rattle.txc_tags.proofs.TextKeys.{same_key_text}
use Rattle.txc_tags.proofs.laws.keys_have_one_text.Goals as goal

pub returns-clause-known : goal.returns-clause-known
returns-clause-known c = λ text a b h k. same_key_text a b h.0 k.0 (sym h.1 ∙ k.1)
